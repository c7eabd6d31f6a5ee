-- The law of every run: what holds of each state that calls reach, and of each two, by what their calls answer.
use Rattle.std.specs.Prelude.{◌≡◌, ℕ, ◌+◌, ◌<◌, ◌≤◌, Bool, true, false, ◌⊎◌, List, [], ◌∷◌, ◌++◌, length, get_or, drop, replicate, Some, None, Option, ◌≢◌, slice_index_or}
use mathlib.Core.List.{Memᴰ}
use Rattle.patterns.specs.declared.row.Element.{Element}
use Rattle.trees.specs.Forest.{Forest, Law, subtree, relabel}
use Rattle.matching.specs.Rules.{Bindings, Outcome, match_at_lem}
use Rattle.patterns.specs.Elements.{WellFormed}
use Rattle.matching.specs.Readings.{Reads, Plain, Substitution, bound_trees}
use Rattle.runs.specs.Session.{State, Question, findings, first_finding, bindings, Call, open_click, change, commit, abandon, undo, settle, add, rebuild, ask, Answer, done, receipt, number, steps, wrote, found, bound, refused, bound_or_none, making}
use Rattle.runs.specs.Log.{after, answer, run, accepts, no_click, changes_held, Log, log_of, undoable, work}

-- A state is reached from a lawful tree, under a name, by calls that add well-formed patterns alone.
pub record Reached (m : Forest) (name : ℕ) (calls : List Call) (s : State) : Type 0 where
  pub lawful : Law m
  pub patterned : (p : List Element) → Memᴰ (add p) calls → WellFormed p
  pub by_calls : run (making m name) calls ≡ s

-- A rebuild is accepted.
abbrev pub Closed : State → Type 0
Closed s = accepts (answer s rebuild) ≡ true

-- One finding stands before another: at an earlier place, or at the same place with an earlier pattern.
abbrev pub Before : ℕ × ℕ → ℕ × ℕ → Type 0
Before a b = (a.0 < b.0) ⊎ ((a.0 ≡ b.0) × (a.1 < b.1))

-- The pattern j at the place i is answered with bindings.
pub record Bound (s : State) (i j : ℕ) : Type 0 where
  pub b : Bindings
  pub n : ℕ
  pub answered : answer s (ask (bindings j i)) ≡ bound b n

-- What matching gives, as an answer.
abbrev pub matched : Outcome → Answer
matched o = bound_or_none o.bound o.steps

-- Right after a rebuild every answer is by one list of findings, each once and in order, which is written at the start of a slice with room: a pair is on it exactly if its bindings are answered, as matching gives them; these are a reading; and every plain reading is there.
pub record Rebuilt (s : State) : Type 0 where
  pub all : List (ℕ × ℕ)
  pub in_order : (k l : ℕ) → k < l → l < length all → Before (slice_index_or all k (0, 0)) (slice_index_or all l (0, 0))
  pub written_over : (out : List (ℕ × ℕ)) → length all ≤ length out → answer s (ask (findings out)) ≡ wrote (length all) (all ++ drop (length all) out)
  pub no_room : (out : List (ℕ × ℕ)) → length out < length all → answer s (ask (findings out)) ≡ refused 17 6 0 0
  pub first_is_least : (i j : ℕ) (rest : List (ℕ × ℕ)) → all ≡ (i, j) ∷ rest → answer s (ask first_finding) ≡ found i j
  pub none_is_18 : all ≡ [] → answer s (ask first_finding) ≡ refused 18 6 0 0
  pub listed_is_bound : (i j : ℕ) → Memᴰ (i, j) all → Bound s i j
  pub bound_is_listed : (i j : ℕ) → Bound s i j → Memᴰ (i, j) all
  pub found_is_a_reading : (i j : ℕ) (h : Bound s i j) → Reads (bound_trees s.tree h.b) (slice_index_or s.patterns j []) (subtree s.tree i)
  pub plain_readings_are_found : (i j : ℕ) → i < length s.tree → j < length s.patterns → (σ : Substitution) (r : Reads σ (slice_index_or s.patterns j []) (subtree s.tree i)) → Plain r → Memᴰ (i, j) all
  pub no_such_pattern : (i j : ℕ) → length s.patterns ≤ j → answer s (ask (bindings j i)) ≡ refused 4 6 0 0
  pub no_such_place : (i j : ℕ) → j < length s.patterns → length s.tree ≤ i → answer s (ask (bindings j i)) ≡ refused 5 5 0 0
  pub else_by_matching : (i j : ℕ) → j < length s.patterns → i < length s.tree → answer s (ask (bindings j i)) ≡ matched (match_at_lem s.tree (slice_index_or s.patterns j []) i)
  pub nothing_left_to_do : answer s rebuild ≡ steps 0

-- While no click is open, those that stand are those that can be undone: so many undos in a row are accepted, each gives back the tree that its click was opened on, the next is refused, and the tree is the settled one.
pub record UndosBringBack (s : State) (k : Log) : Type 0 where
  pub counted : k.clicks.commits ≡ k.clicks.undos + length k.clicks.standing
  pub accepted : (n : ℕ) → n < undoable k → answer (run s (replicate n undo)) undo ≡ done
  pub one_back : (n : ℕ) → n < undoable k → (after (run s (replicate n undo)) undo).tree ≡ (get_or k.clicks.standing n no_click).opened_on
  pub then_none : answer (run s (replicate (undoable k) undo)) undo ≡ refused 8 6 0 0
  pub all_back : (run s (replicate (undoable k) undo)).tree ≡ k.clicks.settled

-- A question is refused with 2 exactly while a click is open, else with 3 exactly while stale, and else answered as right after a rebuild.
pub record Questions (s : State) (k : Log) : Type 0 where
  pub while_open : k.clicks.is_open ≡ true → (q : Question) → answer s (ask q) ≡ refused 2 6 0 0
  pub while_stale : k.clicks.is_open ≡ false → k.since_rebuild.stale ≡ true → (q : Question) → answer s (ask q) ≡ refused 3 6 0 0
  pub else_anew : k.clicks.is_open ≡ false → k.since_rebuild.stale ≡ false → (q : Question) → answer s (ask q) ≡ answer (after s rebuild) (ask q)

-- The receipt that a call is handed, if any.
abbrev pub receipt_of : Call → Option ℕ
receipt_of open_click = None
receipt_of (change n p l) = Some n
receipt_of (commit n) = Some n
receipt_of (abandon n) = Some n
receipt_of undo = None
receipt_of settle = None
receipt_of (add p) = None
receipt_of rebuild = None
receipt_of (ask q) = None

-- When the other calls are accepted, and when refused, by the log: with a receipt while a click is open, without one while none is, and within 64 clicks, 256 changes and 16 patterns.
pub record Accepted (s : State) (k : Log) : Type 0 where
  pub click_open : k.clicks.is_open ≡ true → (c : Call) → receipt_of c ≡ None → answer s c ≡ refused 2 6 0 0
  pub wrong_click : (c : Call) (n : ℕ) → receipt_of c ≡ Some n → (k.clicks.is_open ≡ false) ⊎ (n ≢ s.name) → answer s c ≡ refused 1 6 0 0
  pub opening : k.clicks.is_open ≡ false → length k.clicks.standing < 64 → answer s open_click ≡ receipt s.name
  pub no_65th_click : k.clicks.is_open ≡ false → 64 ≤ length k.clicks.standing → answer s open_click ≡ refused 7 6 0 0
  pub changing : k.clicks.is_open ≡ true → (p l : ℕ) → p < length s.tree → changes_held k.clicks.standing < 256 → l < 32768 → answer s (change s.name p l) ≡ done
  pub no_such_place : k.clicks.is_open ≡ true → (p l : ℕ) → length s.tree ≤ p → answer s (change s.name p l) ≡ refused 5 5 0 0
  pub no_257th_change : k.clicks.is_open ≡ true → (p l : ℕ) → p < length s.tree → 256 ≤ changes_held k.clicks.standing → answer s (change s.name p l) ≡ refused 7 6 0 0
  pub bad_label : k.clicks.is_open ≡ true → (p l : ℕ) → p < length s.tree → changes_held k.clicks.standing < 256 → 32768 ≤ l → answer s (change s.name p l) ≡ refused 10 5 0 0
  pub committing : k.clicks.is_open ≡ true → answer s (commit s.name) ≡ done
  pub abandoning : k.clicks.is_open ≡ true → answer s (abandon s.name) ≡ done
  pub settling : k.clicks.is_open ≡ false → answer s settle ≡ number (undoable k)
  pub adding : k.clicks.is_open ≡ false → length s.patterns < 16 → (p : List Element) → answer s (add p) ≡ number (length s.patterns)
  pub no_17th_pattern : k.clicks.is_open ≡ false → 16 ≤ length s.patterns → (p : List Element) → answer s (add p) ≡ refused 6 6 0 0
  pub rebuilding : k.clicks.is_open ≡ false → answer s rebuild ≡ steps (work s k)

-- A call may alter labels: a change, an abandonment and an undo.
abbrev pub alters : Call → Bool
alters open_click = false
alters (change n p l) = true
alters (commit n) = false
alters (abandon n) = true
alters undo = true
alters settle = false
alters (add p) = false
alters rebuild = false
alters (ask q) = false

-- What calls do to the tree and the patterns.
pub record Effects (s : State) : Type 0 where
  pub refused_leaves_all : (c : Call) → accepts (answer s c) ≡ false → after s c ≡ s
  pub asking_leaves_all : (q : Question) → after s (ask q) ≡ s
  pub name_stays : (c : Call) → (after s c).name ≡ s.name
  pub changing_puts : (n p l : ℕ) → answer s (change n p l) ≡ done → (after s (change n p l)).tree ≡ relabel s.tree p l
  pub others_keep_the_tree : (c : Call) → alters c ≡ false → (after s c).tree ≡ s.tree
  pub adding_adds : (p : List Element) (n : ℕ) → answer s (add p) ≡ number n → (after s (add p)).patterns ≡ s.patterns ++ (p ∷ [])
  pub others_keep_the_patterns : (c : Call) → ((p : List Element) → c ≢ add p) → (after s c).patterns ≡ s.patterns

-- What holds of every reached state and its log.
pub record EveryState (s : State) (k : Log) : Type 0 where
  pub law_of_trees : Law s.tree
  pub accepted : Accepted s k
  pub effects : Effects s
  pub questions : Questions s k
  pub what_is_found_is_right : Closed s → Rebuilt (after s rebuild)
  pub undo_brings_back : k.clicks.is_open ≡ false → UndosBringBack s k
  pub abandon_brings_back : k.clicks.is_open ≡ true → (after s (abandon s.name)).tree ≡ (get_or k.clicks.standing 0 no_click).opened_on

-- What holds of every two reached states: with equal trees and patterns, a rebuild makes them answer alike.
pub record EveryTwo (s t : State) : Type 0 where
  pub rebuild_when_you_like : s.tree ≡ t.tree → s.patterns ≡ t.patterns → Closed s → Closed t → (q : Question) → answer (after s rebuild) (ask q) ≡ answer (after t rebuild) (ask q)

-- The law of every run.
pub record EveryRun : Type 0 where
  pub one : (m : Forest) (name : ℕ) (calls : List Call) (s : State) → Reached m name calls s → EveryState s (log_of m name calls)
  pub two : (m n : Forest) (a b : ℕ) (cs ds : List Call) (s t : State) → Reached m a cs s → Reached n b ds t → EveryTwo s t

-- A state is the run of some calls from the making over a tree, and the law of every run holds of it.
pub record Played (m : Forest) (name : ℕ) (calls : List Call) (s : State) : Type 0 where
  pub by_calls : run (making m name) calls ≡ s
  pub law : EveryState s (log_of m name calls)

-- Two states are each the run of some calls, and the law of every two runs holds of them.
pub record PlayedBoth (m : Forest) (a : ℕ) (cs : List Call) (s : State) (n : Forest) (b : ℕ) (ds : List Call) (t : State) : Type 0 where
  pub first : Played m a cs s
  pub second : Played n b ds t
  pub law : EveryTwo s t
