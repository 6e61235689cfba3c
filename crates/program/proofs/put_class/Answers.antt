use native.Mathlib.Omega.{arith}
use Rattle.program.proofs.ProgramLaws.{class_there}
use Rattle.program.proofs.put_class.Goals as goal

-- `put_class`
pub returns : goal.returns
returns c = let s = c.args.set in class_there c.args.program.now c.args.n _ s.0 s.1 s.2 s.3 _ (omega arith) c.copy_from_slice.ensures.after c.from.ensures
