-- The places of the elements are those below their number.
use Rattle.std.proofs.Common.{ℕ, ◌<◌, Bool, true, false, length, subst, sym, refl, ◌∙◌, zero-add, arith, rules, tests, Decides}
use Rattle.std.specs.Bool.{MatchBool}
use Rattle.std.specs.List.{AllWithin, HoldsAt, range_with_len}
use Rattle.std.proofs.lemmas.Bool.{false≢true}
use Rattle.std.proofs.lemmas.Iterator.{YieldsList-from_range, cases_from_all}
use Rattle.std.proofs.lemmas.List.FromFn.{get_or-range_with_len, length-range_with_len}
use Rattle.patterns.specs.Elements.{Sits}
use Rattle.patterns.proofs.check.all_sit.Goals as goal

-- what holds at each place of a range holds of each number below its end
decided : (n : ℕ) (P : ℕ → Type 0) (r : Bool) → MatchBool r (AllWithin P (range_with_len 0 n) 0 (length (range_with_len 0 n))) ((k : ℕ) × (k < length (range_with_len 0 n)) × HoldsAt (λ i. P i → ⊥) (range_with_len 0 n) k) → Decides r ((i : ℕ) → i < n → P i)
decided n P true h = (λ _ i l. subst P (get_or-range_with_len 0 n i 0 l ∙ zero-add i) (h i 0 (omega arith) (omega (arith, length-range_with_len 0 n))), λ _. refl)
decided n P false (k, l, fails) =
    let i : k < n = omega (arith, length-range_with_len 0 n) in
    (λ e. absurd (false≢true e), λ w. absurd (fails 0 (subst P (sym (get_or-range_with_len 0 n k 0 i ∙ zero-add k)) (w k i))))

pub returns : goal.returns
returns c =
    let es = c.args.elements.now in
    decided (length es) (Sits es) _ (cases_from_all _ _ _ (Sits es) (λ i. Sits es i → ⊥) c.all.ensures.ran (YieldsList-from_range 0 (length es) (length es) (cc) (omega arith)) (λ x q k. search (rules, tests)) (λ x q k. search (rules, tests)))
