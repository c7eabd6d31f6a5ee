-- A refused question is refused as any other.
use Rattle.std.proofs.Common.{rules}
use Rattle.runs.specs.Session.{bindings}
use Rattle.sessions.proofs.session.Session.bindings.Goals as goal

pub returns-in_err-current : goal.returns-in_err-current
returns-in_err-current g c = let h = c.in_err-current.ensures (bindings c.args.pattern c.args.place) in search rules
