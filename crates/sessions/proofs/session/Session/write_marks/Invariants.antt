-- The marks of the places so far stand at the start, and the rest is kept.
use Rattle.std.proofs.Common.{◌≡◌, ◌++◌, length, drop}
use Rattle.runs.specs.Session.{marked}
use Rattle.sessions.specs.View.{view}
use Rattle.sessions.proofs.session.Session.write_marks.Given as goal

abbrev pub invariant-loop-place : goal.invariant-loop-place
invariant-loop-place g l =
    (l.next ≡ length (marked (view g.T.Meant.meaning l.self) l.place))
    × (l.out ≡ marked (view g.T.Meant.meaning l.self) l.place ++ drop l.next l.initial.out)
