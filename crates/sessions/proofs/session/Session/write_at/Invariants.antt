-- The marks of the patterns so far stand behind what stood before, and the rest is kept.
use Rattle.std.proofs.Common.{◌≡◌, ◌+◌, ◌++◌, length, take, drop}
use Rattle.runs.specs.Session.{marked_at}
use Rattle.sessions.specs.View.{view}
use Rattle.sessions.proofs.session.Session.write_at.Given as goal

abbrev pub invariant-loop-pattern : goal.invariant-loop-pattern
invariant-loop-pattern g l =
    (l.next ≡ l.from + length (marked_at (view g.T.Meant.meaning l.self) l.place l.pattern))
    × (l.out ≡ take l.from l.initial.out ++ (marked_at (view g.T.Meant.meaning l.self) l.place l.pattern ++ drop l.next l.initial.out))
