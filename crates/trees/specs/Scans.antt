-- What a scan answers, and what its answer says of each record.
use Rattle.std.specs.Prelude.{◌≡◌, ℕ, zero, suc, ◌+◌, ◌<◌, ◌≤◌, true, false, is_ok, Some, None, Ok, Err, Option, Result, ◌≢◌, refl}
use Rattle.std.proofs.Common.{sym, ap, ◌∙◌, ⊎_elim, arith}
use Rattle.std.proofs.lemmas.Bool.{cases_eq}
use Rattle.refusals.specs.declared.Cause.{Cause}
use Rattle.refusals.specs.declared.Refusal.{Refusal}
use Rattle.trees.specs.Scan.{scan, unless}

-- no record is at fault
abbrev pub Clean : (ℕ → Option Cause) → ℕ → Type 0
Clean fault n = (k : ℕ) → k < n → fault k ≡ None

pub scan_clean : (fault : ℕ → Option Cause) (refusal : ℕ → Cause → Refusal) (p n : ℕ) → ((k : ℕ) → p ≤ k → k < p + n → fault k ≡ None) → scan fault refusal p n ≡ Ok (p + n)
scan_clean fault refusal p zero h = let e : p ≡ p + 0 = omega arith in ap Ok e
scan_clean fault refusal p (suc n) h =
    let e : suc p + n ≡ p + suc n = omega arith in
    ap (λ o. unless o (λ c. Err (refusal p c)) (scan fault refusal (suc p) n)) (h p (omega arith) (omega arith)) ∙ scan_clean fault refusal (suc p) n (λ k i j. h k (omega arith) (omega arith)) ∙ ap Ok e

pub scan_all : (fault : ℕ → Option Cause) (refusal : ℕ → Cause → Refusal) (n : ℕ) → Clean fault n → scan fault refusal 0 n ≡ Ok n
scan_all fault refusal n h = let e : 0 + n ≡ n = omega arith in scan_clean fault refusal 0 n (λ k i j. h k (omega arith)) ∙ ap Ok e

scan_from : (fault : ℕ → Option Cause) (refusal : ℕ → Cause → Refusal) (p n i : ℕ) (c : Cause) → ((k : ℕ) → p ≤ k → k < i → fault k ≡ None) → p ≤ i → i < p + n → fault i ≡ Some c → scan fault refusal p n ≡ Err (refusal i c)
scan_from fault refusal p zero i c h a b s = absurd (omega arith)
scan_from fault refusal p (suc n) i c h a b s =
    ⊎_elim
    (λ e. ap (λ o. unless o (λ x. Err (refusal p x)) (scan fault refusal (suc p) n)) (ap fault e ∙ s) ∙ ap (λ q. Err (refusal q c)) e)
    (λ ne. ap (λ o. unless o (λ x. Err (refusal p x)) (scan fault refusal (suc p) n)) (h p (omega arith) (omega arith)) ∙ scan_from fault refusal (suc p) n i c (λ k x y. h k (omega arith) y) (omega arith) (omega arith) s)
    (cases_eq p i)

-- the first fault is the answer
pub scan_first : (fault : ℕ → Option Cause) (refusal : ℕ → Cause → Refusal) (n i : ℕ) (c : Cause) → Clean fault i → i < n → fault i ≡ Some c → scan fault refusal 0 n ≡ Err (refusal i c)
scan_first fault refusal n i c h l s = scan_from fault refusal 0 n i c (λ k a b. h k b) (omega arith) (omega arith) s

found : (o : Option Cause) → (o ≢ None) → (c : Cause) × (o ≡ Some c)
found None h = absurd (h refl)
found (Some c) h = (c, refl)

ok_not_err : {T E : Type 0} (r : Result T E) (e : E) → is_ok r ≡ true → r ≢ Err e
ok_not_err r e h k = let z : true ≡ false = sym h ∙ ap is_ok k in let n : ◌≡◌ {A = ℕ} 0 1 = cc in omega arith

none_at : (o : Option Cause) → ((c : Cause) → o ≢ Some c) → o ≡ None
none_at None h = refl
none_at (Some c) h = absurd (h c refl)

clean_to : (fault : ℕ → Option Cause) (refusal : ℕ → Cause → Refusal) (n i : ℕ) → is_ok (scan fault refusal 0 n) ≡ true → i ≤ n → Clean fault i
clean_to fault refusal n zero h l k j = absurd (omega arith)
clean_to fault refusal n (suc i) h l k j =
    let below = clean_to fault refusal n i h (omega arith) in
    ⊎_elim
    (λ e. ap fault e ∙ none_at (fault i) (λ c s. ok_not_err (scan fault refusal 0 n) (refusal i c) h (scan_first fault refusal n i c below (omega arith) s)))
    (λ ne. below k (omega arith))
    (cases_eq k i)

-- an accepted scan saw no fault
pub clean : (fault : ℕ → Option Cause) (refusal : ℕ → Cause → Refusal) (n : ℕ) → is_ok (scan fault refusal 0 n) ≡ true → Clean fault n
clean fault refusal n h = clean_to fault refusal n n h (omega arith)
