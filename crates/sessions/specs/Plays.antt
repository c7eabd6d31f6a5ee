-- Calls as a player makes them: with the receipts that it holds, and with one slice for findings.
use Rattle.std.specs.Prelude.{◌≡◌, ℕ, zero, suc, ◌<◌, ◌≤◌, min, ◌⊎◌, List, [], ◌∷◌, ◌++◌, length, Some, None, Option, Ok, Err, Result, slice_index_or}
use Rattle.patterns.specs.Elements.{elements_of}
use Rattle.sessions.specs.declared.call.Hand.{Hand}
use Rattle.sessions.specs.declared.call.Hand.TheVariants.{Own, Foreign}
use Rattle.sessions.specs.declared.call.Hands.{Hands}
use Rattle.sessions.specs.declared.call.Call.{Call as Asked}
use Rattle.sessions.specs.declared.call.Call.TheVariants.{Open, Change, Commit, Abandon, Undo, Settle, Add, Rebuild, Findings, FirstFinding, Bindings}
use Rattle.sessions.specs.declared.call.Answer.{Answer as Told}
use Rattle.sessions.specs.declared.call.Answer.TheVariants.{Done, Opened, Number, Steps, Wrote, Found, Bound}
use Rattle.sessions.specs.declared.receipt.Receipt.{Receipt}
use Rattle.refusals.specs.declared.Refusal.{Refusal}
use Rattle.runs.specs.Session.{State, Call, open_click, change, commit, abandon, undo, settle, add, rebuild, ask, findings, first_finding, bindings, Answer, done, receipt, number, steps, wrote, found, bound, refused, turn}
use Rattle.sessions.specs.View.{refusal_answer}

-- What a player has: the names on its receipts, and what its slice holds.
pub record Table : Type 0 where
  pub own : Option ℕ
  pub foreign : Option ℕ
  pub out : List (ℕ × ℕ)

-- The name on a receipt, if there is one.
abbrev pub receipt_name : Option Receipt → Option ℕ
receipt_name None = None
receipt_name (Some k) = Some k.session

-- What a player has, by its hands and its slice.
abbrev pub table_of : Hands → List (ℕ × ℕ) → Table
table_of h out = record { own = receipt_name h.own; foreign = receipt_name h.foreign; out = out }

-- The name on the receipt in a hand.
abbrev pub in_hand : Hand → Table → Option ℕ
in_hand Own t = t.own
in_hand Foreign t = t.foreign

-- A call with a receipt, if there is one.
abbrev pub with_receipt : Option ℕ → (ℕ → Call) → Option Call
with_receipt None f = None
with_receipt (Some n) f = Some (f n)

-- The call that is made.
abbrev pub made_of : Table → Asked → Option Call
made_of t Open = Some open_click
made_of t (Change h p l) = with_receipt (in_hand h t) (λ n. change n p l)
made_of t (Commit h) = with_receipt (in_hand h t) commit
made_of t (Abandon h) = with_receipt (in_hand h t) abandon
made_of t Undo = Some undo
made_of t Settle = Some settle
made_of t (Add p) = Some (add (elements_of p.row))
made_of t Rebuild = Some rebuild
made_of t Findings = Some (ask (findings t.out))
made_of t FirstFinding = Some (ask first_finding)
made_of t (Bindings j i) = Some (ask (bindings j i))

-- What an answer leaves of a receipt that was handed over, what it gives as the player's own, and what it writes.
abbrev pub left_of : Answer → Option ℕ → Option ℕ
left_of done o = None
left_of (receipt n) o = o
left_of (number n) o = o
left_of (steps n) o = o
left_of (wrote n out) o = o
left_of (found i j) o = o
left_of (bound b n) o = o
left_of (refused n l b t) o = o

abbrev pub given_by : Answer → Option ℕ → Option ℕ
given_by done o = o
given_by (receipt n) o = Some n
given_by (number n) o = o
given_by (steps n) o = o
given_by (wrote n out) o = o
given_by (found i j) o = o
given_by (bound b n) o = o
given_by (refused n l b t) o = o

abbrev pub written_by : Answer → List (ℕ × ℕ) → List (ℕ × ℕ)
written_by done o = o
written_by (receipt n) o = o
written_by (number n) o = o
written_by (steps n) o = o
written_by (wrote n out) o = out
written_by (found i j) o = o
written_by (bound b n) o = o
written_by (refused n l b t) o = o

-- A receipt from a hand is spent, unless it comes back.
abbrev pub spent : Hand → Table → Answer → Table
spent Own t a = record { own = left_of a t.own; foreign = t.foreign; out = t.out }
spent Foreign t a = record { own = t.own; foreign = left_of a t.foreign; out = t.out }

-- What the player has after a call with an answer.
abbrev pub next_table : Table → Asked → Answer → Table
next_table t Open a = record { own = given_by a t.own; foreign = t.foreign; out = t.out }
next_table t (Change h p l) a = t
next_table t (Commit h) a = spent h t a
next_table t (Abandon h) a = spent h t a
next_table t Undo a = t
next_table t Settle a = t
next_table t (Add p) a = t
next_table t Rebuild a = t
next_table t Findings a = record { own = t.own; foreign = t.foreign; out = written_by a t.out }
next_table t FirstFinding a = t
next_table t (Bindings j i) a = t

-- What a call leaves of a session, what the player has then, and the answer.
pub record PlayedOne : Type 0 where
  pub state : State
  pub table : Table
  pub answer : Option Answer

-- By the call that is made, if one is.
abbrev pub played_by : State → Table → Asked → Option Call → PlayedOne
played_by s t c None = record { state = s; table = t; answer = None }
played_by s t c (Some k) = record { state = (turn s k).0; table = next_table t c (turn s k).1; answer = Some (turn s k).1 }

-- One call, played.
abbrev pub played_one : State → Table → Asked → PlayedOne
played_one s t c = played_by s t c (made_of t c)

-- What a call told, as an answer, by what the slice holds.
abbrev pub told_answer : List (ℕ × ℕ) → Told → Answer
told_answer out Done = done
told_answer out (Opened n) = receipt n
told_answer out (Number n) = number n
told_answer out (Steps n) = steps n
told_answer out (Wrote n) = wrote n out
told_answer out (Found i j) = found i j
told_answer out (Bound a) = bound a.places a.steps

-- A note as an answer, by what the slice holds.
abbrev pub note_answer : List (ℕ × ℕ) → Option (Result Told Refusal) → Option Answer
note_answer out None = None
note_answer out (Some (Ok a)) = Some (told_answer out a)
note_answer out (Some (Err e)) = Some (refusal_answer e)

-- A session and its player after the first n of some calls, with the answer to the last.
abbrev pub stands : State → Table → List Asked → ℕ → PlayedOne
stands s t cs zero = record { state = s; table = t; answer = None }
stands s t cs (suc n) = played_one (stands s t cs n).state (stands s t cs n).table (slice_index_or cs n Open)

-- A call, if one is made.
abbrev pub one_made : Option Call → List Call
one_made None = []
one_made (Some k) = k ∷ []

-- The calls that are made of the first n that are asked for.
abbrev pub made : State → Table → List Asked → ℕ → List Call
made s t cs zero = []
made s t cs (suc n) = made s t cs n ++ one_made (made_of (stands s t cs n).table (slice_index_or cs n Open))

-- An answer without the slice.
abbrev pub in_brief : Answer → Answer
in_brief done = done
in_brief (receipt n) = receipt n
in_brief (number n) = number n
in_brief (steps n) = steps n
in_brief (wrote n out) = wrote n []
in_brief (found i j) = found i j
in_brief (bound b n) = bound b n
in_brief (refused n l b t) = refused n l b t

-- What is noted of an answer.
abbrev pub noted : Option Answer → Option Answer
noted None = None
noted (Some a) = Some (in_brief a)

-- What a player has at first: a foreign receipt with this name, and its slice.
abbrev pub first_table : ℕ → List (ℕ × ℕ) → Table
first_table n out = record { own = None; foreign = Some n; out = out }

-- How many calls are played: as many as there is room for notes of.
abbrev pub playable : List Asked → List (Option (Result Told Refusal)) → ℕ
playable cs ns = min (length cs) (length ns)

-- Calls were played on a session that a state began, with what the player had: it has now what they left, each answer is noted in its order, and the other notes stay.
pub record Noted (s : State) (t : Table) (cs : List Asked) (before after : List (Option (Result Told Refusal))) (left : Table) : Type 0 where
  pub table : left ≡ (stands s t cs (playable cs before)).table
  pub answers : (k : ℕ) → k < playable cs before → note_answer [] (slice_index_or after k None) ≡ noted (stands s t cs (suc k)).answer
  pub rest : (k : ℕ) → playable cs before ≤ k → slice_index_or after k None ≡ slice_index_or before k None

-- A session at its end: the open click is abandoned, if the player holds its receipt.
abbrev pub at_end : State → Option ℕ → State
at_end s None = s
at_end s (Some n) = (turn s (abandon n)).0

-- Of a receipt that was handed in nothing is left, or it is still there.
abbrev pub Left : Option Receipt → ℕ → Type 0
Left k n = (receipt_name k ≡ None) ⊎ (receipt_name k ≡ Some n)
