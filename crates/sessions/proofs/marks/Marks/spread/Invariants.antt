-- From the place on it is noted whether a subtree was touched, before it all is as it was, and the nearest touched place is known.
use Rattle.std.proofs.Common.{◌≡◌, ℕ, ◌<◌, ◌≤◌, false, length, get_or, take, drop, vec_items, vec_len}
use Rattle.trees.specs.Forest.{size_at}
use Rattle.runs.specs.Session.{any}
use Rattle.sessions.specs.Looks.{touched_of, rows_of}
use Rattle.sessions.specs.Tries.{Nearest}
use Rattle.sessions.proofs.marks.Marks.spread.Given as goal

abbrev pub invariant-loop-place : goal.invariant-loop-place
invariant-loop-place g l =
    let now = touched_of (vec_items l.self.places) in
    let was = touched_of (vec_items l.initial.self.places) in
    record {
      len : vec_len l.self.places ≡ vec_len l.initial.self.places;
      tried : l.self.tried ≡ l.initial.self.tried;
      stale : l.self.stale ≡ l.initial.self.stale;
      rows : rows_of (vec_items l.self.places) ≡ rows_of (vec_items l.initial.self.places);
      before : (q : ℕ) → q < l.place → get_or now q false ≡ get_or was q false;
      behind : (q : ℕ) → l.place ≤ q → q < length was → get_or now q false ≡ any (take (size_at (g.T.Meant.meaning l.tree) q) (drop q was));
      near : Nearest was l.place l.nearest;
    }
