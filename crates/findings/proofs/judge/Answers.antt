use Rattle.findings.specs.Said.{said_of_answers}
use Rattle.findings.proofs.TableTest.{said_same, said-different}
use Rattle.findings.proofs.judge.Goals as goal

pub returns-then-same_table : goal.returns-then-same_table
returns-then-same_table c = rw (c.in-Ok-Ok.is-0, c.in-Ok-Ok.is-1) (said_same _ _ c.same_table.ensures c.if-same_table.true)

pub returns-else-same_table : goal.returns-else-same_table
returns-else-same_table c = rw (c.in-Ok-Ok.is-0, c.in-Ok-Ok.is-1) (said-different _ _ c.same_table.ensures c.if-same_table.false)

pub returns-in-Ok-Err : goal.returns-in-Ok-Err
unfolding said_of_answers
returns-in-Ok-Err c = rw (c.in-Ok-Err.is-0, c.in-Ok-Err.is-1)

pub returns-in-Err-Ok : goal.returns-in-Err-Ok
unfolding said_of_answers
returns-in-Err-Ok c = rw (c.in-Err-Ok.is-0, c.in-Err-Ok.is-1)

pub returns-in-Err-Err : goal.returns-in-Err-Err
unfolding said_of_answers
returns-in-Err-Err c = rw (c.in-Err-Err.is-0, c.in-Err-Err.is-1)
