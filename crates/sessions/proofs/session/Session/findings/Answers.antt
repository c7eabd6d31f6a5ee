-- A refused question is refused as any other.
use Rattle.std.proofs.Common.{rules}
use Rattle.runs.specs.Session.{findings}
use Rattle.sessions.proofs.session.Session.findings.Goals as goal

pub returns-in_err-current-clause-turns : goal.returns-in_err-current-clause-turns
returns-in_err-current-clause-turns g c = let h = c.in_err-current.ensures (findings c.args.out.now) in search rules
