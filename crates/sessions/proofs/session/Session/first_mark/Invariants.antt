-- Nothing is marked before the place and the pattern that the scan has come to.
use Rattle.std.proofs.Common.{◌≡◌, None}
use Rattle.sessions.specs.Firsts.{NoneBelow, NoPlaceBelow}
use Rattle.sessions.specs.View.{view}
use Rattle.sessions.proofs.session.Session.first_mark.Given as goal

abbrev pub invariant-scan : goal.invariant-scan
invariant-scan g l = NoPlaceBelow (view g.T.Meant.meaning l.self) l.place × (l.found ≡ None)

abbrev pub invariant-loop-pattern : goal.invariant-loop-pattern
invariant-loop-pattern g l = NoneBelow (view g.T.Meant.meaning l.self) l.place l.pattern × (l.found ≡ None)
