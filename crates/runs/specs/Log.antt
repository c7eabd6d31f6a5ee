-- Runs of calls, and the log of a run: what its calls and their answers tell.
use Rattle.std.specs.Prelude.{ℕ, suc, ◌+◌, ◌-◌, Bool, true, false, cond, ◌&&◌, ◌||◌, List, [], ◌∷◌, ◌++◌, length, get_or, drop, nat_le, nat_lt, slice_index_or}
use Rattle.trees.specs.Forest.{Forest, size_at}
use Rattle.matching.specs.Rules.{match_at_lem}
use Rattle.runs.specs.Session.{State, Call, open_click, change, commit, abandon, undo, settle, add, rebuild, ask, Answer, done, receipt, number, steps, wrote, found, bound, refused, total, making, turn}

-- The state that a call leaves.
abbrev pub after : State → Call → State
after s c = (turn s c).0

-- What a call answers.
abbrev pub answer : State → Call → Answer
answer s c = (turn s c).1

-- The state that some calls leave, one after the other.
abbrev pub run : State → List Call → State
run s [] = s
run s (c ∷ cs) = run (after s c) cs

-- What they answer.
abbrev pub answers : State → List Call → List Answer
answers s [] = []
answers s (c ∷ cs) = answer s c ∷ answers (after s c) cs

-- A call is accepted unless it is refused.
abbrev pub accepts : Answer → Bool
accepts done = true
accepts (receipt n) = true
accepts (number n) = true
accepts (steps n) = true
accepts (wrote n out) = true
accepts (found i j) = true
accepts (bound b n) = true
accepts (refused n l b t) = false

-- A click that stands, committed or still open: the tree that it was opened on, and the places of its changes, the newest first.
pub record Standing : Type 0 where
  pub opened_on : Forest
  pub changed : List ℕ

-- What is read where no click stands.
abbrev pub no_click : Standing
no_click = record { opened_on = []; changed = [] }

-- The newest click holds one change more.
abbrev pub one_more : ℕ → List Standing → List Standing
one_more p [] = []
one_more p (c ∷ cs) = record { opened_on = c.opened_on; changed = p ∷ c.changed } ∷ cs

-- How many changes some clicks hold.
abbrev pub changes_held : List Standing → ℕ
changes_held [] = 0
changes_held (c ∷ cs) = length c.changed + changes_held cs

-- What the calls and their answers tell of clicks: the tree at the last accepted settling, or else the making, the commits and undos accepted since then, the clicks that stand, the newest first, and whether one is open.
pub record Clicks : Type 0 where
  pub settled : Forest
  pub commits : ℕ
  pub undos : ℕ
  pub standing : List Standing
  pub is_open : Bool

-- What they tell since the last accepted rebuild, or else the making: whether a change, undo, abandonment or addition was accepted, how many patterns were added, and which places were touched, their labels written or put back.
pub record Since : Type 0 where
  pub stale : Bool
  pub added : ℕ
  pub touched : List ℕ

-- What an accepted call does to the clicks, at the tree before the call.
abbrev pub clicked : Call → Forest → Clicks → Clicks
clicked open_click m k = record { settled = k.settled; commits = k.commits; undos = k.undos; standing = record { opened_on = m; changed = [] } ∷ k.standing; is_open = true }
clicked (change n p l) m k = record { settled = k.settled; commits = k.commits; undos = k.undos; standing = one_more p k.standing; is_open = k.is_open }
clicked (commit n) m k = record { settled = k.settled; commits = suc k.commits; undos = k.undos; standing = k.standing; is_open = false }
clicked (abandon n) m k = record { settled = k.settled; commits = k.commits; undos = k.undos; standing = drop 1 k.standing; is_open = false }
clicked undo m k = record { settled = k.settled; commits = k.commits; undos = suc k.undos; standing = drop 1 k.standing; is_open = k.is_open }
clicked settle m k = record { settled = m; commits = 0; undos = 0; standing = []; is_open = k.is_open }
clicked (add p) m k = k
clicked rebuild m k = k
clicked (ask q) m k = k

-- What it does to what was done since the last rebuild, where ps are the places of the newest click.
abbrev pub since : Call → List ℕ → Since → Since
since open_click ps k = k
since (change n p l) ps k = record { stale = true; added = k.added; touched = p ∷ k.touched }
since (commit n) ps k = k
since (abandon n) ps k = record { stale = true; added = k.added; touched = ps ++ k.touched }
since undo ps k = record { stale = true; added = k.added; touched = ps ++ k.touched }
since settle ps k = k
since (add p) ps k = record { stale = true; added = suc k.added; touched = k.touched }
since rebuild ps k = record { stale = false; added = 0; touched = [] }
since (ask q) ps k = k

-- The log of a run.
pub record Log : Type 0 where
  pub clicks : Clicks
  pub since_rebuild : Since

-- What an accepted call does to the log, at the tree before the call.
abbrev pub logged : Call → Forest → Log → Log
logged c m k = record { clicks = clicked c m k.clicks; since_rebuild = since c (get_or k.clicks.standing 0 no_click).changed k.since_rebuild }

-- The log after some calls; a refused call is not in it.
abbrev pub log : State → List Call → Log → Log
log s [] k = k
log s (c ∷ cs) k = log (after s c) cs (cond (accepts (answer s c)) (logged c s.tree k) k)

-- The log at the making over the tree m.
abbrev pub new_log : Forest → Log
new_log m = record { clicks = record { settled = m; commits = 0; undos = 0; standing = []; is_open = false }; since_rebuild = record { stale = false; added = 0; touched = [] } }

-- The log of a run over the tree m.
abbrev pub log_of : Forest → ℕ → List Call → Log
log_of m name calls = log (making m name) calls (new_log m)

-- How many clicks can be undone: the accepted commits less the accepted undos since the last accepted settling, or else the making.
abbrev pub undoable : Log → ℕ
undoable k = k.clicks.commits - k.clicks.undos

-- One of some places is one of the n places from i on.
abbrev pub one_inside : List ℕ → ℕ → ℕ → Bool
one_inside [] i n = false
one_inside (q ∷ qs) i n = (nat_le i q && nat_lt q (i + n)) || one_inside qs i n

-- A rebuild tries the pattern j at the place i: the pattern was added, or a place of that subtree was touched, since the last one.
abbrev pub is_tried_lem : State → Log → ℕ → ℕ → Bool
is_tried_lem s k i j = nat_le (length s.patterns) (j + k.since_rebuild.added) || one_inside k.since_rebuild.touched i (size_at s.tree i)

-- The steps of all that a rebuild tries.
abbrev pub work : State → Log → ℕ
work s k = total (λ j. total (λ i. cond (is_tried_lem s k i j) (match_at_lem s.tree (slice_index_or s.patterns j []) i).steps 0) (length s.tree)) (length s.patterns)
