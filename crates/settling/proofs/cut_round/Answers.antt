use Rattle.settling.proofs.RoundLaws.{labelled, refined-cut}
use Rattle.settling.proofs.cut_round.Goals as goal

pub returns-clause-refined : goal.returns-clause-refined
returns-clause-refined c =
    let S = c.requires.standing.0 in
    let B = c.sort-count.ensures.sorted in
    let C = c.cut_groups.ensures.cut B.label B.count (labelled S B) in
    (refined-cut S B C, C.more)
