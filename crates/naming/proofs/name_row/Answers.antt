use native.Mathlib.Omega.{arith}
use Rattle.naming.proofs.NamingLaws.{named_again, named_first}
use Rattle.naming.proofs.name_row.Goals as goal

pub returns-then-f-r : goal.returns-then-f-r
returns-then-f-r c = named_again c.requires.named c.requires.numbers.0 c.requires.numbers.1 (omega arith)

pub returns : goal.returns
returns c = named_first c.requires.named c.requires.numbers.0 c.requires.numbers.1 (omega arith)
