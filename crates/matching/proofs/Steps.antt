-- Matching takes at most two steps for each node.
use Rattle.std.proofs.Common.{ℕ, zero, suc, ◌+◌, ◌-◌, ◌*◌, ◌<◌, ◌≤◌, cond, List, [], ◌∷◌, length, get_or, take, drop, set, replicate, Some, None, Option, sym, subst, ⊎_elim, arith, length-take}
use Rattle.std.proofs.lemmas.Bool.{cases_lt, cond_both}
use Rattle.patterns.specs.declared.row.Element.{Element}
use Rattle.trees.specs.Forest.{Forest, size_at, subtree, compared, same, same_node}
use Rattle.matching.specs.declared.rule.Rule.{Rule}
use Rattle.matching.specs.declared.rule.Rule.TheVariants.{Done, Stuck, BothGo, BindBeforeLexeme, BindBeforeInner, BindLast, Enter, Open}
use Rattle.matching.specs.Rules.{Bindings, Outcome, Walk, choose, choose_none, by_rule, bind, after, after_bound, fails, walk, match_at_lem}
use Rattle.matching.specs.Laws.{TwoStepsANode}
use Rattle.trees.specs.Windows.{win, win_none, Sound, sound, Fits, fits_later, fits_inner, fits_at}

pub compared_most : (f g : Forest) → compared f g ≤ length g
compared_most [] g = omega arith
compared_most (a ∷ f) [] = omega arith
compared_most (a ∷ f) (b ∷ g) = cond_both (same_node a b) _ _ (λ (n : ℕ). n ≤ suc (length g)) (λ e. omega (arith, compared_most f g)) (λ e. omega arith)

pub subtree_most : (m : Forest) (p : ℕ) → length (subtree m p) ≤ size_at m p
subtree_most m p = simp length-take (omega arith)

bind_steps : (m : Forest) (b : Bindings) (o : Option ℕ) (x p : ℕ) (k : Bindings → Outcome) (n : ℕ) → ((c : Bindings) → (k c).steps ≤ n) → (bind m b o x p k).steps ≤ size_at m p + n
bind_steps m b None x p k n h = omega (arith, h (set b x (Some p)))
bind_steps m b (Some q) x p k n h =
    let i : (cond (same (subtree m q) (subtree m p)) (k b) fails).steps ≤ n = cond_both (same (subtree m q) (subtree m p)) (k b) fails (λ (o : Outcome). o.steps ≤ n) (λ e. h b) (λ e. omega arith) in
    omega (arith, i, compared_most (subtree m q) (subtree m p), subtree_most m p)

after_steps : (o : Outcome) (k : Bindings → Outcome) (i n : ℕ) → o.steps ≤ i → ((c : Bindings) → (k c).steps ≤ n) → (after o k).steps ≤ i + n
after_steps o k i n g h = go o.bound
  where
    go : (r : Option Bindings) → (after_bound o r k).steps ≤ i + n
    go None = omega arith
    go (Some c) = omega (arith, h c)

module _ (m : Forest) (s : Sound m) (go : Walk) (less : (es : List Element) (p e : ℕ) (b : Bindings) → Fits m p e → (go es p e b).steps ≤ 2 * (e - p)) where
  rule_steps : (es : List Element) (p e : ℕ) (b : Bindings) → Fits m p e → p < e → (r : Rule) → (by_rule go m es p (size_at m p) e b r).steps ≤ 2 * (e - p)
  rule_steps es p e b f h Done = omega arith
  rule_steps es p e b f h Stuck = omega arith
  rule_steps es p e b f h BothGo = omega (arith, less (drop 1 es) (p + 1) e b (fits_later f (p + 1) (omega arith)))
  rule_steps es p e b f h (BindBeforeLexeme x) = omega (
    arith,
    f.ends p (omega arith) h,
    s.sizes p (omega (arith, f.within)),
    bind_steps m b (get_or b x None) x p (go (drop 2 es) (p + size_at m p + 1) e) (2 * (e - (p + size_at m p + 1))) (λ c. less (drop 2 es) (p + size_at m p + 1) e c (fits_later f (p + size_at m p + 1) (omega arith))),
  )
  rule_steps es p e b f h (BindBeforeInner x) = omega (
    arith,
    f.ends p (omega arith) h,
    s.sizes p (omega (arith, f.within)),
    bind_steps m b (get_or b x None) x p (go (drop 1 es) (p + size_at m p) e) (2 * (e - (p + size_at m p))) (λ c. less (drop 1 es) (p + size_at m p) e c (fits_later f (p + size_at m p) (omega arith))),
  )
  rule_steps es p e b f h (BindLast x) = omega (
    arith,
    f.ends p (omega arith) h,
    s.sizes p (omega (arith, f.within)),
    bind_steps m b (get_or b x None) x p (go (drop 1 es) (p + size_at m p) e) (2 * (e - (p + size_at m p))) (λ c. less (drop 1 es) (p + size_at m p) e c (fits_later f (p + size_at m p) (omega arith))),
  )
  rule_steps es p e b f h (Enter size) = omega (
    arith,
    f.ends p (omega arith) h,
    s.sizes p (omega (arith, f.within)),
    after_steps (go (take (size - 1) (drop 1 es)) (p + 1) (p + size_at m p) b) (go (drop size es) (p + size_at m p) e) (2 * ((p + size_at m p) - (p + 1))) (2 * (e - (p + size_at m p)))
        (less (take (size - 1) (drop 1 es)) (p + 1) (p + size_at m p) b (fits_inner s p (omega (arith, f.within))))
        (λ c. less (drop size es) (p + size_at m p) e c (fits_later f (p + size_at m p) (omega arith))),
  )
  rule_steps es p e b f h Open = omega (arith, less es (p + 1) e b (fits_later f (p + 1) (omega arith)))

  none_steps : (es : List Element) (p e : ℕ) (b : Bindings) → (by_rule go m es p (size_at m p) e b (choose_none es)).steps ≤ 2 * (e - p)
  none_steps [] p e b = omega arith
  none_steps (x ∷ es) p e b = omega arith

  step_steps : (es : List Element) (p e : ℕ) (b : Bindings) → Fits m p e → (by_rule go m es p (size_at m p) e b (choose es (win m p e))).steps ≤ 2 * (e - p)
  step_steps es p e b f = ⊎_elim (λ h. rule_steps es p e b f h (choose es (win m p e)))
      (λ h. subst (λ (w : Forest). (by_rule go m es p (size_at m p) e b (choose es w)).steps ≤ 2 * (e - p)) (sym (win_none m p e h)) (none_steps es p e b)) (cases_lt p e)

pub walk_steps : (n : ℕ) (m : Forest) → Sound m → (es : List Element) (p e : ℕ) (b : Bindings) → Fits m p e → (walk n m es p e b).steps ≤ 2 * (e - p)
walk_steps zero m s es p e b f = omega arith
walk_steps (suc n) m s es p e b f = step_steps m s (walk n m) (walk_steps n m s) es p e b f

pub two_steps_a_node : TwoStepsANode
two_steps_a_node m es p l k h =
    let s : Sound m = sound m l in
    let i : (match_at_lem m es p).steps ≤ 2 * ((p + size_at m p) - p) = walk_steps (1 + length m) m s es p (p + size_at m p) (replicate 16 None) (fits_at s p h) in
    omega (arith, i)
