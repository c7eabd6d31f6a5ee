-- What is played is the run of the calls that are made, and these add well-formed patterns alone.
use Rattle.std.proofs.Common.{◌≡◌, ℕ, zero, suc, ◌⊎◌, List, [], ◌∷◌, ◌++◌, get_or, Some, None, Option, Ok, Err, Result, sym, refl, ap, ◌∙◌, subst, inl, inr, ⊎_elim}
use mathlib.Core.List.{Memᴰ}
use Rattle.patterns.specs.declared.row.Element.{Element}
use Rattle.patterns.specs.Elements.{WellFormed}
use Rattle.patterns.proofs.Kept.{kept}
use Rattle.trees.specs.Forest.{Forest, Law}
use Rattle.sessions.specs.declared.call.Hand.TheVariants.{Own, Foreign}
use Rattle.sessions.specs.declared.call.Hands.{Hands}
use Rattle.sessions.specs.declared.call.Call.{Call as Asked}
use Rattle.sessions.specs.declared.call.Call.TheVariants.{Open, Change, Commit, Abandon, Undo, Settle, Add, Rebuild, Findings, FirstFinding, Bindings}
use Rattle.refusals.specs.declared.Refusal.{Refusal}
use Rattle.sessions.specs.declared.call.Answer.{Answer as Told}
use Rattle.sessions.specs.declared.call.Answer.TheVariants.{Done, Opened, Number, Steps, Wrote, Found, Bound}
use Rattle.runs.specs.Session.{State, Call, change, commit, abandon, add, Answer, done, receipt, number, steps, wrote, found, bound, refused, making, turn}
use Rattle.runs.specs.Log.{run}
use Rattle.runs.specs.Runs.{Reached}
use Rattle.runs.proofs.Every.{Formed}
use Rattle.sessions.specs.Plays.{Table, in_hand, with_receipt, made_of, played_by, note_answer, stands, one_made, made, noted, playable, Noted, Left, left_of, next_table, first_table, table_of, receipt_name}

-- a note tells an answer without its slice
pub in_short : (out : List (ℕ × ℕ)) (x : Option (Result Told Refusal)) → note_answer [] x ≡ noted (note_answer out x)
in_short out None = refl
in_short out (Some (Ok Done)) = refl
in_short out (Some (Ok (Opened n))) = refl
in_short out (Some (Ok (Number n))) = refl
in_short out (Some (Ok (Steps n))) = refl
in_short out (Some (Ok (Wrote n))) = refl
in_short out (Some (Ok (Found i j))) = refl
in_short out (Some (Ok (Bound a))) = refl
in_short out (Some (Err e)) = refl

run_append : (s : State) (xs ys : List Call) → run s (xs ++ ys) ≡ run (run s xs) ys
run_append s [] ys = refl
run_append s (x ∷ xs) ys = run_append (turn s x).0 xs ys

run_one : (s : State) (t : Table) (c : Asked) (o : Option Call) → run s (one_made o) ≡ (played_by s t c o).state
run_one s t c None = refl
run_one s t c (Some k) = refl

pub made_run : (s : State) (t : Table) (cs : List Asked) (n : ℕ) → run s (made s t cs n) ≡ (stands s t cs n).state
made_run s t cs zero = refl
made_run s t cs (suc n) =
    run_append s (made s t cs n) (one_made (made_of (stands s t cs n).table (get_or cs n Open)))
    ∙ ap (λ (x : State). run x (one_made (made_of (stands s t cs n).table (get_or cs n Open)))) (made_run s t cs n)
    ∙ run_one (stands s t cs n).state (stands s t cs n).table (get_or cs n Open) (made_of (stands s t cs n).table (get_or cs n Open))

-- a call that is made adds a well-formed pattern, if any
abbrev FormedOne : Option Call → Type 0
FormedOne None = Unit {0}
FormedOne (Some k) = Formed k

with_formed : (o : Option ℕ) (f : ℕ → Call) → ((n : ℕ) → Formed (f n)) → FormedOne (with_receipt o f)
with_formed None f h = tt
with_formed (Some n) f h = h n

made_formed : (t : Table) (c : Asked) → FormedOne (made_of t c)
made_formed t Open = tt
made_formed t (Change h p l) = with_formed (in_hand h t) (λ n. change n p l) (λ n. tt)
made_formed t (Commit h) = with_formed (in_hand h t) commit (λ n. tt)
made_formed t (Abandon h) = with_formed (in_hand h t) abandon (λ n. tt)
made_formed t Undo = tt
made_formed t Settle = tt
made_formed t (Add p) = (kept p).formed
made_formed t Rebuild = tt
made_formed t Findings = tt
made_formed t FirstFinding = tt
made_formed t (Bindings j i) = tt

one_formed : (o : Option Call) → FormedOne o → (p : List Element) → Memᴰ (add p) (one_made o) → WellFormed p
one_formed None h p i = elim i [ ]
one_formed (Some k) h p (Memᴰ.head e) = subst Formed (sym e) h
one_formed (Some k) h p (Memᴰ.tail i) = elim i [ ]

either : (x : Call) (xs ys : List Call) → Memᴰ x (xs ++ ys) → Memᴰ x xs ⊎ Memᴰ x ys
either x [] ys i = inr i
either x (y ∷ xs) ys (Memᴰ.head e) = inl (Memᴰ.head e)
either x (y ∷ xs) ys (Memᴰ.tail i) = ⊎_elim (λ j. inl (Memᴰ.tail j)) inr (either x xs ys i)

made_patterned : (s : State) (t : Table) (cs : List Asked) (n : ℕ) (p : List Element) → Memᴰ (add p) (made s t cs n) → WellFormed p
made_patterned s t cs zero p i = elim i [ ]
made_patterned s t cs (suc n) p i = ⊎_elim
    (made_patterned s t cs n p)
    (one_formed (made_of (stands s t cs n).table (get_or cs n Open)) (made_formed (stands s t cs n).table (get_or cs n Open)) p)
    (either (add p) (made s t cs n) (one_made (made_of (stands s t cs n).table (get_or cs n Open))) i)

-- what is played on a player whose session begins as a making, and which holds a foreign receipt alone, is reached
pub reached_from : (m : Forest) (a : ℕ) (t : Table) (cs : List Asked) (ns : List (Option (Result Told Refusal))) {v w : State} {u : Table} → Law m → v ≡ making m a → u ≡ t → w ≡ (stands v u cs (playable cs ns)).state → Reached m a (made (making m a) t cs (playable cs ns)) w
reached_from m a t cs ns l e f h =
    let n : ℕ = playable cs ns in
    record { lawful = l; patterned = made_patterned (making m a) t cs n; by_calls = made_run (making m a) t cs n ∙ sym (h ∙ (λ j. (stands (e j) (f j) cs n).state)) }

-- and it is noted as from the making
pub noted_from : {s v : State} {t u : Table} {cs : List Asked} {ns os : List (Option (Result Told Refusal))} {left : Table} → v ≡ s → u ≡ t → Noted v u cs ns os left → Noted s t cs ns os left
noted_from {s} {v} {t} {u} {cs} {ns} {os} {left} e f h = subst (λ (x : State). Noted x t cs ns os left) e (subst (λ (y : Table). Noted v y cs ns os left) f h)

-- what is left of a receipt after an answer
left_or_none : (a : Answer) (o : Option ℕ) → (left_of a o ≡ None) ⊎ (left_of a o ≡ o)
left_or_none done o = inl refl
left_or_none (receipt n) o = inr refl
left_or_none (number n) o = inr refl
left_or_none (steps n) o = inr refl
left_or_none (wrote n out) o = inr refl
left_or_none (found i j) o = inr refl
left_or_none (bound b n) o = inr refl
left_or_none (refused n l b t) o = inr refl

-- a call leaves the foreign receipt, or spends it
foreign_next : (t : Table) (c : Asked) (a : Answer) → ((next_table t c a).foreign ≡ None) ⊎ ((next_table t c a).foreign ≡ t.foreign)
foreign_next t Open a = inr refl
foreign_next t (Change h p l) a = inr refl
foreign_next t (Commit Own) a = inr refl
foreign_next t (Commit Foreign) a = left_or_none a t.foreign
foreign_next t (Abandon Own) a = inr refl
foreign_next t (Abandon Foreign) a = left_or_none a t.foreign
foreign_next t Undo a = inr refl
foreign_next t Settle a = inr refl
foreign_next t (Add p) a = inr refl
foreign_next t Rebuild a = inr refl
foreign_next t Findings a = inr refl
foreign_next t FirstFinding a = inr refl
foreign_next t (Bindings j i) a = inr refl

foreign_played : (s : State) (t : Table) (c : Asked) (o : Option Call) → ((played_by s t c o).table.foreign ≡ None) ⊎ ((played_by s t c o).table.foreign ≡ t.foreign)
foreign_played s t c None = inr refl
foreign_played s t c (Some k) = foreign_next t c (turn s k).1

then_left : (x y z : Option ℕ) → (x ≡ None) ⊎ (x ≡ y) → (y ≡ None) ⊎ (y ≡ z) → (x ≡ None) ⊎ (x ≡ z)
then_left x y z (inl e) h = inl e
then_left x y z (inr e) (inl f) = inl (e ∙ f)
then_left x y z (inr e) (inr f) = inr (e ∙ f)

foreign_stays : (s : State) (t : Table) (cs : List Asked) (n : ℕ) → ((stands s t cs n).table.foreign ≡ None) ⊎ ((stands s t cs n).table.foreign ≡ t.foreign)
foreign_stays s t cs zero = inr refl
foreign_stays s t cs (suc n) = then_left (stands s t cs (suc n)).table.foreign (stands s t cs n).table.foreign t.foreign (foreign_played (stands s t cs n).state (stands s t cs n).table (get_or cs n Open) (made_of (stands s t cs n).table (get_or cs n Open))) (foreign_stays s t cs n)

-- what is left of the foreign receipt of a player
pub foreign_left : (m : Forest) (a k : ℕ) (o : List (ℕ × ℕ)) (cs : List Asked) (ns : List (Option (Result Told Refusal))) (h : Hands) (p : List (ℕ × ℕ)) → table_of h p ≡ (stands (making m a) (first_table k o) cs (playable cs ns)).table → Left h.foreign k
foreign_left m a k o cs ns h p e = then_left (receipt_name h.foreign) (stands (making m a) (first_table k o) cs (playable cs ns)).table.foreign (Some k) (inr (ap (λ (t : Table). t.foreign) e)) (foreign_stays (making m a) (first_table k o) cs (playable cs ns))
