use Rattle.writing.proofs.Writings.{join}
use Rattle.findings.proofs.texts.put_finding.Goals as goal

pub returns-in-Both-clause-puts : goal.returns-in-Both-clause-puts
returns-in-Both-clause-puts c = rw c.in-Both.is (join c.put_named-in-Both.ensures.puts c.put_named-in-Both-2.ensures.puts)

pub returns-in-NotTwo-clause-puts : goal.returns-in-NotTwo-clause-puts
returns-in-NotTwo-clause-puts c = rw c.in-NotTwo.is c.put_all-in-NotTwo.ensures
