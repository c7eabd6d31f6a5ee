-- A session over a tree: its state, its calls, and what each call leaves and answers.
use Rattle.std.specs.Prelude.{ℕ, zero, suc, ◌+◌, Bool, true, false, cond, not, ◌&&◌, ◌||◌, List, [], ◌∷◌, ◌++◌, length, take, drop, replicate, is_some, Some, None, Option, ◌==◌, nat_le, nat_lt, slice_index_or, slice_set}
use Rattle.std.specs.Option.{unwrap_or}
use Rattle.patterns.specs.declared.row.Element.{Element}
use Rattle.trees.specs.Forest.{Forest, size_at, label_at, relabel}
use Rattle.matching.specs.Rules.{match_at_lem, Outcome, Bindings}

-- A change puts a label at a place.
pub record Change : Type 0 where
  pub place : ℕ
  pub label : ℕ

-- The journal holds what puts back each click that can be undone, the newest first, and what puts back the open click.
pub record Journal : Type 0 where
  pub clicks : List (List Change)
  pub click : Option (List Change)

-- The marks of the last rebuild, a row for each place, with the number of patterns tried by then, the places touched since, and whether anything changed since.
pub record Marks : Type 0 where
  pub tried : ℕ
  pub touched : List Bool
  pub marks : List (List Bool)
  pub stale : Bool

-- The state of a session; its name is the receipt of each of its clicks.
pub record State : Type 0 where
  pub name : ℕ
  pub tree : Forest
  pub patterns : List (List Element)
  pub journal : Journal
  pub look : Marks

-- A question asks for all findings, written over a slice, for the first one, or for the bindings of a pattern at a place.
pub data Question : Type 0 where
  findings : List (ℕ × ℕ) → Question
  first_finding : Question
  bindings : ℕ → ℕ → Question

-- The calls; a change names its click, a place and a label.
pub data Call : Type 0 where
  open_click : Call
  change : ℕ → ℕ → ℕ → Call
  commit : ℕ → Call
  abandon : ℕ → Call
  undo : Call
  settle : Call
  add : List Element → Call
  rebuild : Call
  ask : Question → Call

-- What calls answer; a finding is a place and a pattern, and a refusal begins with its number.
pub data Answer : Type 0 where
  done : Answer
  receipt : ℕ → Answer
  number : ℕ → Answer
  steps : ℕ → Answer
  wrote : ℕ → List (ℕ × ℕ) → Answer
  found : ℕ → ℕ → Answer
  bound : Bindings → ℕ → Answer
  refused : ℕ → ℕ → ℕ → ℕ → Answer

-- What a call leaves, and what it answers.
abbrev pub Turn : Type 0
Turn = State × Answer

-- A test that holds refuses the call and leaves the state; otherwise the turn goes on.
abbrev pub unless : Bool → State → Answer → Turn → Turn
unless t s a r = cond t (s, a) r

-- The number of places.
abbrev pub places : State → ℕ
places s = length s.tree

-- A click is open.
abbrev pub is_open : State → Bool
is_open s = is_some s.journal.click

-- What puts back the open click.
abbrev pub opened : State → List Change
opened s = unwrap_or s.journal.click []

-- A receipt is wrong where no click is open, and where it is another's.
abbrev pub wrong : State → ℕ → Bool
wrong s n = not (is_open s && n == s.name)

-- The labels of some changes are put into a tree, one after the other.
abbrev pub put : List Change → Forest → Forest
put [] m = m
put (c ∷ cs) m = put cs (relabel m c.place c.label)

-- Their places are touched.
abbrev pub touch : List Change → List Bool → List Bool
touch [] t = t
touch (c ∷ cs) t = touch cs (slice_set t c.place true)

-- How many changes some clicks hold.
abbrev pub total_changes : List (List Change) → ℕ
total_changes [] = 0
total_changes (c ∷ cs) = length c + total_changes cs

-- The marks are stale, with the places of some changes touched.
abbrev pub touching : Marks → List Change → Marks
touching k cs = record { tried = k.tried; touched = touch cs k.touched; marks = k.marks; stale = true }

-- The state with another journal.
abbrev pub noting : State → List (List Change) → Option (List Change) → State
noting s cs c = record { name = s.name; tree = s.tree; patterns = s.patterns; journal = record { clicks = cs; click = c }; look = s.look }

-- The state with some changes put into the tree.
abbrev pub putting : State → List Change → State
putting s cs = record { name = s.name; tree = put cs s.tree; patterns = s.patterns; journal = s.journal; look = touching s.look cs }

-- The state with one pattern more.
abbrev pub extending : State → List Element → State
extending s p = record { name = s.name; tree = s.tree; patterns = s.patterns ++ (p ∷ []); journal = s.journal; look = touching s.look [] }

-- The state with other marks.
abbrev pub marking : State → Marks → State
marking s k = record { name = s.name; tree = s.tree; patterns = s.patterns; journal = s.journal; look = k }

-- A new session over n places has tried no pattern, touched no place and marked nothing.
abbrev pub no_marks : ℕ → Marks
no_marks n = record { tried = 0; touched = replicate n false; marks = replicate n (replicate 16 false); stale = false }

-- A new session has no pattern and an empty journal.
abbrev pub making : Forest → ℕ → State
making m n = record { name = n; tree = m; patterns = []; journal = record { clicks = []; click = None }; look = no_marks (length m) }

-- A click is opened unless one is open, or 64 are held.
abbrev pub opening : State → Turn
opening s =
    unless (is_open s) s (refused 2 6 0 0)
    (unless (nat_le 64 (length s.journal.clicks)) s (refused 7 6 0 0)
    (noting s s.journal.clicks (Some []), receipt s.name))

-- A label is put at a place, and what stood there goes into the open click; 256 changes are held at most.
abbrev pub changing : State → ℕ → ℕ → ℕ → Turn
changing s n p l =
    unless (wrong s n) s (refused 1 6 0 0)
    (unless (nat_le (places s) p) s (refused 5 5 0 0)
    (unless (nat_le 256 (length (opened s) + total_changes s.journal.clicks)) s (refused 7 6 0 0)
    (unless (nat_lt 32767 l) s (refused 10 5 0 0) (
      noting (putting s (record { place = p; label = l } ∷ [])) s.journal.clicks
          (Some (record { place = p; label = label_at s.tree p } ∷ opened s)),
      done,
    ))))

-- The open click joins those that can be undone.
abbrev pub committing : State → ℕ → Turn
committing s n =
    unless (wrong s n) s (refused 1 6 0 0)
    (noting s (opened s ∷ s.journal.clicks) None, done)

-- The open click is put back and forgotten.
abbrev pub abandoning : State → ℕ → Turn
abandoning s n =
    unless (wrong s n) s (refused 1 6 0 0)
    (noting (putting s (opened s)) s.journal.clicks None, done)

-- The newest click is put back and forgotten, if there is one.
abbrev pub undo_first : State → List (List Change) → Turn
undo_first s [] = (s, refused 8 6 0 0)
undo_first s (c ∷ cs) = (noting (putting s c) cs None, done)

-- The newest click is undone, unless one is open.
abbrev pub undoing : State → Turn
undoing s = unless (is_open s) s (refused 2 6 0 0) (undo_first s s.journal.clicks)

-- The clicks can be undone no more, and their number is answered.
abbrev pub settling : State → Turn
settling s =
    unless (is_open s) s (refused 2 6 0 0)
    (noting s [] None, number (length s.journal.clicks))

-- A pattern is added behind the others, of which there are 16 at most, and its number is answered.
abbrev pub adding : State → List Element → Turn
adding s p =
    unless (is_open s) s (refused 2 6 0 0)
    (unless (nat_le 16 (length s.patterns)) s (refused 6 6 0 0)
    (extending s p, number (length s.patterns)))

-- One of some tests holds.
abbrev pub any : List Bool → Bool
any [] = false
any (b ∷ bs) = b || any bs

-- A place of the subtree at i was touched.
abbrev pub subtree_touched : State → ℕ → Bool
subtree_touched s i = any (take (size_at s.tree i) (drop i s.look.touched))

-- A rebuild tries the pattern j at the place i if the pattern is new, or the subtree was touched.
abbrev pub tries : State → ℕ → ℕ → Bool
tries s i j = nat_lt j (length s.patterns) && (nat_le s.look.tried j || subtree_touched s i)

-- How the pattern j fares at the place i.
abbrev pub result : State → ℕ → ℕ → Outcome
result s i j = match_at_lem s.tree (slice_index_or s.patterns j []) i

-- It matches there.
abbrev pub matches : State → ℕ → ℕ → Bool
matches s i j = is_some (result s i j).bound

-- It is marked there.
abbrev pub mark : State → ℕ → ℕ → Bool
mark s i j = slice_index_or (slice_index_or s.look.marks i []) j false

-- The list of f 0, f 1, .., f (n - 1).
abbrev pub tabulate : {A : Type 0} → (ℕ → A) → ℕ → List A
tabulate f zero = []
tabulate f (suc n) = tabulate f n ++ (f n ∷ [])

-- Their sum.
abbrev pub total : (ℕ → ℕ) → ℕ → ℕ
total f zero = 0
total f (suc n) = total f n + f n

-- The marks after a rebuild: what is tried is marked if it matches, and the other marks stay.
abbrev pub rebuilt_marks : State → List (List Bool)
rebuilt_marks s = tabulate (λ i. tabulate (λ j. cond (tries s i j) (matches s i j) (mark s i j)) 16) (length s.look.marks)

-- The steps of a rebuild: pattern by pattern, those at each place where it is tried.
abbrev pub rebuild_steps : State → ℕ
rebuild_steps s = total (λ j. total (λ i. cond (tries s i j) (result s i j).steps 0) (length s.look.marks)) (length s.patterns)

-- The marks brought up to date: all patterns are tried, and no place is touched.
abbrev pub up_to_date : State → Marks
up_to_date s = record { tried = length s.patterns; touched = replicate (length s.look.touched) false; marks = rebuilt_marks s; stale = false }

-- The marks are brought up to date, and the steps are answered.
abbrev pub rebuilding : State → Turn
rebuilding s =
    unless (is_open s) s (refused 2 6 0 0)
    (marking s (up_to_date s), steps (rebuild_steps s))

-- The marked patterns below n at the place i.
abbrev pub marked_at : State → ℕ → ℕ → List (ℕ × ℕ)
marked_at s i zero = []
marked_at s i (suc j) = marked_at s i j ++ cond (mark s i j) ((i, j) ∷ []) []

-- The findings at the places below n.
abbrev pub marked : State → ℕ → List (ℕ × ℕ)
marked s zero = []
marked s (suc i) = marked s i ++ marked_at s i (length s.patterns)

-- All findings, by place and then by pattern.
abbrev pub all_found : State → List (ℕ × ℕ)
all_found s = marked s (length s.look.marks)

-- The findings are written over the first elements of a slice, if it has room.
abbrev pub finding_all : List (ℕ × ℕ) → List (ℕ × ℕ) → Answer
finding_all out fs = cond (nat_lt (length out) (length fs)) (refused 17 6 0 0) (wrote (length fs) (fs ++ drop (length fs) out))

-- The first finding is answered.
abbrev pub finding_first : List (ℕ × ℕ) → Answer
finding_first [] = refused 18 6 0 0
finding_first (f ∷ fs) = found f.0 f.1

-- The bindings of a match are answered, with its steps.
abbrev pub bound_or_none : Option Bindings → ℕ → Answer
bound_or_none None n = refused 18 4 0 n
bound_or_none (Some b) n = bound b n

-- The bindings of the pattern j at the place i are looked for anew.
abbrev pub binding : State → ℕ → ℕ → Answer
binding s j i = cond (nat_le (length s.patterns) j) (refused 4 6 0 0) (cond (nat_le (places s) i) (refused 5 5 0 0) (bound_or_none (result s i j).bound (result s i j).steps))

-- What a question is answered.
abbrev pub answering : State → Question → Answer
answering s (findings out) = finding_all out (all_found s)
answering s first_finding = finding_first (all_found s)
answering s (bindings j i) = binding s j i

-- A question is refused while a click is open, and while the marks are stale.
abbrev pub asking : State → Question → Answer
asking s q = cond (is_open s) (refused 2 6 0 0) (cond s.look.stale (refused 3 6 0 0) (answering s q))

-- The turn of each call.
abbrev pub turn : State → Call → Turn
turn s open_click = opening s
turn s (change n p l) = changing s n p l
turn s (commit n) = committing s n
turn s (abandon n) = abandoning s n
turn s undo = undoing s
turn s settle = settling s
turn s (add p) = adding s p
turn s rebuild = rebuilding s
turn s (ask q) = (s, asking s q)
