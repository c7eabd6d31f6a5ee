-- Enough fuel is as good as any more, and a walk with enough obeys its rules with no fuel in sight.
use Rattle.std.proofs.Common.{◌≡◌, ℕ, zero, suc, ◌+◌, ◌-◌, ◌<◌, ◌≤◌, List, [], ◌∷◌, length, get_or, take, drop, replicate, None, sym, refl, ap, ◌∙◌, ⊎_elim, arith}
use Rattle.std.proofs.lemmas.Bool.{cases_lt}
use Rattle.patterns.specs.declared.row.Element.{Element}
use Rattle.trees.specs.Forest.{Forest, size_at}
use Rattle.matching.specs.declared.rule.Rule.{Rule}
use Rattle.matching.specs.declared.rule.Rule.TheVariants.{Done, Stuck, BothGo, BindBeforeLexeme, BindBeforeInner, BindLast, Enter, Open}
use Rattle.matching.specs.Rules.{Bindings, Walk, choose, choose_none, by_rule, bind, after, tick, walk, walks, match_at_lem}
use Rattle.trees.specs.Windows.{win, Sound, Fits, fits_later, fits_inner, fits_at, fits_whole}
use Rattle.matching.proofs.Winning.{choose_nothing}

-- two ways to walk that agree on every smaller window do the same by each rule
module _ (m : Forest) (s : Sound m) (a b : Walk) (es : List Element) (p e : ℕ) (c : Bindings) (f : Fits m p e)
    (less : (xs : List Element) (q r : ℕ) (d : Bindings) → Fits m q r → r - q < e - p → a xs q r d ≡ b xs q r d) where
  rule_alike : p < e → (r : Rule) → by_rule a m es p (size_at m p) e c r ≡ by_rule b m es p (size_at m p) e c r
  rule_alike h Done = refl
  rule_alike h Stuck = refl
  rule_alike h BothGo = ap (tick 1) (less (drop 1 es) (p + 1) e c (fits_later f (p + 1) (omega arith)) (omega arith))
  rule_alike h (BindBeforeLexeme x) =
      let k : 0 < size_at m p = s.sizes p (omega (arith, f.within)) in
      let z : (d : Bindings) → a (drop 2 es) (p + size_at m p + 1) e d ≡ b (drop 2 es) (p + size_at m p + 1) e d = λ d. less (drop 2 es) (p + size_at m p + 1) e d (fits_later f (p + size_at m p + 1) (omega arith)) (omega arith) in
      λ i. tick 1 (bind m c (get_or c x None) x p (λ d. z d i))
  rule_alike h (BindBeforeInner x) =
      let k : 0 < size_at m p = s.sizes p (omega (arith, f.within)) in
      let z : (d : Bindings) → a (drop 1 es) (p + size_at m p) e d ≡ b (drop 1 es) (p + size_at m p) e d = λ d. less (drop 1 es) (p + size_at m p) e d (fits_later f (p + size_at m p) (omega arith)) (omega arith) in
      λ i. tick 1 (bind m c (get_or c x None) x p (λ d. z d i))
  rule_alike h (BindLast x) =
      let k : 0 < size_at m p = s.sizes p (omega (arith, f.within)) in
      let z : (d : Bindings) → a (drop 1 es) (p + size_at m p) e d ≡ b (drop 1 es) (p + size_at m p) e d = λ d. less (drop 1 es) (p + size_at m p) e d (fits_later f (p + size_at m p) (omega arith)) (omega arith) in
      λ i. tick 1 (bind m c (get_or c x None) x p (λ d. z d i))
  rule_alike h (Enter size) =
      let k : 0 < size_at m p = s.sizes p (omega (arith, f.within)) in
      let in_e : p + size_at m p ≤ e = f.ends p (omega arith) h in
      let y : a (take (size - 1) (drop 1 es)) (p + 1) (p + size_at m p) c ≡ b (take (size - 1) (drop 1 es)) (p + 1) (p + size_at m p) c = less (take (size - 1) (drop 1 es)) (p + 1) (p + size_at m p) c (fits_inner s p (omega (arith, f.within))) (omega arith) in
      let z : (d : Bindings) → a (drop size es) (p + size_at m p) e d ≡ b (drop size es) (p + size_at m p) e d = λ d. less (drop size es) (p + size_at m p) e d (fits_later f (p + size_at m p) (omega arith)) (omega arith) in
      λ i. tick 1 (after (y i) (λ d. z d i))
  rule_alike h Open = ap (tick 1) (less es (p + 1) e c (fits_later f (p + 1) (omega arith)) (omega arith))

  none_alike : (xs : List Element) → by_rule a m es p (size_at m p) e c (choose_none xs) ≡ by_rule b m es p (size_at m p) e c (choose_none xs)
  none_alike [] = refl
  none_alike (x ∷ xs) = refl

  pub step_alike : by_rule a m es p (size_at m p) e c (choose es (win m p e)) ≡ by_rule b m es p (size_at m p) e c (choose es (win m p e))
  step_alike = ⊎_elim (λ h. rule_alike h (choose es (win m p e)))
      (λ h. ap (by_rule a m es p (size_at m p) e c) (choose_nothing m es p e h) ∙ none_alike es ∙ sym (ap (by_rule b m es p (size_at m p) e c) (choose_nothing m es p e h))) (cases_lt p e)

-- more fuel than places
pub walk_fuel : (m : Forest) → Sound m → (n k : ℕ) (es : List Element) (p e : ℕ) (c : Bindings) → Fits m p e → e - p < n → e - p < k → walk n m es p e c ≡ walk k m es p e c
walk_fuel m s zero k es p e c f i j = absurd (omega arith)
walk_fuel m s (suc n) zero es p e c f i j = absurd (omega arith)
walk_fuel m s (suc n) (suc k) es p e c f i j = step_alike m s (walk n m) (walk k m) es p e c f (λ xs q r d g h. walk_fuel m s n k xs q r d g (omega arith) (omega arith))

-- the equation that a recursion on e - p obeys
pub walks_step : (m : Forest) → Sound m → (es : List Element) (p e : ℕ) (c : Bindings) → Fits m p e → walks m es p e c ≡ by_rule (walks m) m es p (size_at m p) e c (choose es (win m p e))
walks_step m s es p e c f = walk_fuel m s (1 + (e - p)) (suc (e - p)) es p e c f (omega arith) (omega arith)
    ∙ step_alike m s (walk (e - p) m) (walks m) es p e c f (λ xs q r d g h. walk_fuel m s (e - p) (1 + (r - q)) xs q r d g h (omega arith))

pub match_walks : (m : Forest) → Sound m → (es : List Element) (p : ℕ) → p < length m → match_at_lem m es p ≡ walks m es p (p + size_at m p) (replicate 16 None)
match_walks m s es p h = walk_fuel m s (1 + length m) (1 + ((p + size_at m p) - p)) es p (p + size_at m p) (replicate 16 None) (fits_at s p h) (omega (arith, fits_whole m s p h)) (omega arith)
