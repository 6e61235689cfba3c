use Rattle.rules.proofs.TableLaws.{read_none}
use Rattle.table.proofs.CheckLaws.{well}
use Rattle.passing.proofs.RunLaws.{opened-shut, opened-new}
use Rattle.passing.proofs.RowList.open_at.Goals as goal

pub join-self-requires-clause-row : goal.join-self-requires-clause-row
join-self-requires-clause-row c = let S = c.args.search.now in
    (read_none (well S.passed).formed S.text.now c.args.p c.requires.1 c.begin-row.ensures).row

pub returns-then-is_none : goal.returns-then-is_none
returns-then-is_none c = opened-new _ _ c.join-self.ensures c.if-is_none.ensures c.requires.1 c.begin-row.ensures

pub returns-else-is_none : goal.returns-else-is_none
returns-else-is_none c = opened-shut _ _ c.requires.0 c.if-is_none.ensures
