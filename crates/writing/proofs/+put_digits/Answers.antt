use native.Mathlib.Omega.{arith}
use Rattle.writing.proofs.Numbers.{decimal_digit, decimal-more}
use Rattle.writing.proofs.Writings.{join-writes}
use Rattle.writing.proofs.+put_digits.Goals as goal

pub returns-then-n-lt10 : goal.returns-then-n-lt10
returns-then-n-lt10 t c = rw (decimal_digit c.args.n (omega arith)) c.put_at.ensures

pub returns : goal.returns
returns t c = rw (decimal-more c.args.n (omega arith)) (join-writes c.put_digits-next.ensures c.put_at-2.ensures)
