-- A journal's tables as the clicks that they hold.
use Rattle.std.specs.Prelude.{ℕ, Bool, true, false, ◌&&◌, List, [], ◌∷◌, ◌++◌, take, drop, Some, None, nat_lt, slice_index_or}
use Rattle.sessions.specs.declared.entry.Click.{Click}
use Rattle.sessions.specs.declared.entry.Replaced.{Replaced}
use Rattle.runs.specs.Session.{Change, Journal}

-- What puts an entry back.
abbrev pub change_of : Replaced → Change
change_of r = record { place = r.place; label = r.label }

-- The changes of a table, the newest first.
abbrev pub newest : List Replaced → List Change
newest [] = []
newest (r ∷ rs) = newest rs ++ (change_of r ∷ [])

-- How many changes each click of a table has, the newest click first.
abbrev pub counts : List Click → List ℕ
counts [] = []
counts (k ∷ ks) = counts ks ++ (k.changes ∷ [])

-- Changes dealt out to clicks: as many to each as it counts.
abbrev pub dealt : List ℕ → List Change → List (List Change)
dealt [] cs = []
dealt (n ∷ ns) cs = take n cs ∷ dealt ns (drop n cs)

-- The clicks that two tables hold, the newest first, each with its changes, the newest first.
abbrev pub held : List Click → List Replaced → List (List Change)
held ks rs = dealt (counts ks) (newest rs)

-- The journal of some clicks, of which the newest is open or not.
abbrev pub journal_of : Bool → List (List Change) → Journal
journal_of true gs = record { clicks = drop 1 gs; click = Some (slice_index_or gs 0 []) }
journal_of false gs = record { clicks = gs; click = None }

-- Each replaced label is a label.
abbrev pub all_labels : List Replaced → Bool
all_labels [] = true
all_labels (r ∷ rs) = nat_lt r.label 32768 && all_labels rs
