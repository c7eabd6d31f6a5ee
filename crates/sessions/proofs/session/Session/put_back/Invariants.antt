-- What is still to be put back comes to the same, and the rest stays.
use Rattle.std.proofs.Common.{◌≡◌, ◌<◌, [], length, get_or, drop}
use Rattle.runs.specs.Session.{put, touching}
use Rattle.sessions.specs.Journals.{clicks_of}
use Rattle.sessions.specs.Looks.{marks_view}
use Rattle.sessions.proofs.session.Session.put_back.Given as goal

abbrev pub invariant-loop-replaced : goal.invariant-loop-replaced
invariant-loop-replaced g l =
    (0 < length (clicks_of l.self.journal))
    × (put (get_or (clicks_of l.self.journal) 0 []) (g.T.Meant.meaning l.self.tree) ≡ put (get_or (clicks_of l.initial.self.journal) 0 []) (g.T.Meant.meaning l.initial.self.tree))
    × (drop 1 (clicks_of l.self.journal) ≡ drop 1 (clicks_of l.initial.self.journal))
    × (touching (marks_view l.self.marks) (get_or (clicks_of l.self.journal) 0 []) ≡ touching (marks_view l.initial.self.marks) (get_or (clicks_of l.initial.self.journal) 0 []))
    × (l.self.shelf ≡ l.initial.self.shelf)
    × (l.self.name ≡ l.initial.self.name)

abbrev pub decreases-loop-replaced : goal.decreases-loop-replaced
decreases-loop-replaced g l = length (get_or (clicks_of l.self.journal) 0 [])
