-- A match at a place depends only on the subtree there, wherever that stands.
use Rattle.std.proofs.Common.{◌≡◌, ℕ, zero, suc, ◌+◌, ◌-◌, ◌<◌, ◌≤◌, Bool, true, false, cond, List, [], ◌∷◌, map, length, get_or, take, drop, set, replicate, Some, None, Option, sym, refl, ap, ◌∙◌, subst, ⊎_elim, arith, length-drop, length-take, get_or-drop, get_or-take, ext_get_or}
use Rattle.std.proofs.lemmas.Bool.{cases_lt}
use Rattle.patterns.specs.declared.row.Element.{Element}
use Rattle.trees.specs.Forest.{Node, Forest, size_at, subtree, same, compared, no_node}
use Rattle.matching.specs.declared.rule.Rule.{Rule}
use Rattle.matching.specs.declared.rule.Rule.TheVariants.{Done, Stuck, BothGo, BindBeforeLexeme, BindBeforeInner, BindLast, Enter, Open}
use Rattle.matching.specs.Rules.{Bindings, Outcome, choose, choose_none, by_rule, bind, after, after_bound, tick, fails, walk}
use Rattle.trees.specs.Windows.{win, subtree_win, Sound, Fits, fits_later, fits_inner, fits_at, fits_whole, sound}
use Rattle.matching.specs.Laws.{moved, moved_bound, shifted, SubtreeAlone}
use Rattle.matching.proofs.Fuel.{walk_fuel}
use Rattle.matching.proofs.Winning.{Goods, goods_take, goods_drop, goods_formed, Binds, fresh, again, Won, over, both, put, entered, opened, won, none_some, set_some, blank, choose_nothing}

-- every bound place has its subtree between lo and hi
abbrev pub Within : Forest → ℕ → ℕ → Bindings → Type 0
Within m lo hi b = (x q : ℕ) → get_or b x None ≡ Some q → (lo ≤ q) × (q < hi) × (q + size_at m q ≤ hi)

within_set : (m : Forest) (lo hi : ℕ) (b : Bindings) (x p : ℕ) → Within m lo hi b → lo ≤ p → p < hi → p + size_at m p ≤ hi → Within m lo hi (set b x (Some p))
within_set m lo hi b x p h i j k y q e = ⊎_elim (λ z. subst (λ (r : ℕ). (lo ≤ r) × (r < hi) × (r + size_at m r ≤ hi)) (sym z.1) (i, j, k)) (λ z. h y q z) (set_some b x p y q e)

module _ (m : Forest) (s : Sound m) (lo hi : ℕ) where
  binds_within : {b c : Bindings} {x p : ℕ} → Binds m b x p c → Within m lo hi b → lo ≤ p → p < hi → p + size_at m p ≤ hi → Within m lo hi c
  binds_within {b} {c} {x} {p} (fresh n) h i j k = within_set m lo hi b x p h i j k
  binds_within (again q n e) h i j k = h

  won_within : {es : List Element} {p e : ℕ} {b c : Bindings} → Won m es p e b c → Fits m p e → lo ≤ p → e ≤ hi → Within m lo hi b → Within m lo hi c
  won_within (over h) f i j w = w
  won_within {p = p} (both h y l v) f i j w = won_within v (fits_later f (p + 1) (omega arith)) (omega arith) j w
  won_within {p = p} (put h k t d v) f i j w = won_within v (fits_later f (p + size_at m p) (omega arith)) (omega arith) j (binds_within d w i (omega arith) (omega (arith, f.ends p (omega arith) h)))
  won_within {p = p} (entered h k u v) f i j w = won_within v (fits_later f (p + size_at m p) (omega arith)) (omega arith) j (won_within u (fits_inner s p (omega (arith, f.within))) (omega arith) (omega (arith, f.ends p (omega arith) h)) w)
  won_within {p = p} (opened h k v) f i j w = won_within v (fits_later f (p + 1) (omega arith)) (omega arith) j w

-- bindings with each place moved
module _ (lo to : ℕ) where
  abbrev move : Bindings → Bindings
  move b = map (moved lo to) b

  getD_move : (b : Bindings) (x : ℕ) → get_or (move b) x None ≡ moved lo to (get_or b x None)
  getD_move [] x = refl
  getD_move (a ∷ b) zero = refl
  getD_move (a ∷ b) (suc x) = getD_move b x

  set_move : (b : Bindings) (x p : ℕ) → set (move b) x (Some (to + (p - lo))) ≡ move (set b x (Some p))
  set_move [] x p = refl
  set_move (a ∷ b) zero p = refl
  set_move (a ∷ b) (suc x) p = ap (λ (c : Bindings). moved lo to a ∷ c) (set_move b x p)

-- two forests agree on the places from lo to hi of the first, which stand from `to` on in the second
abbrev Agree : Forest → Forest → ℕ → ℕ → ℕ → Type 0
Agree m n lo to hi = (q : ℕ) → lo ≤ q → q < hi → get_or m q no_node ≡ get_or n (to + (q - lo)) no_node

module _ (m n : Forest) (s : Sound m) (lo to hi : ℕ) (top : hi ≤ length m) (top' : to + (hi - lo) ≤ length n) (a : Agree m n lo to hi) where
  win_agree : (p e q f : ℕ) → lo ≤ p → e ≤ hi → q ≡ to + (p - lo) → f ≡ to + (e - lo) → win m p e ≡ win n q f
  win_agree p e q f i j z y = ext_get_or no_node (win m p e) (win n q f) (simp (length-take, length-drop) (omega arith)) (λ r h.
      let u : r < e - p = omega (arith, length-take (e - p) (drop p m), h) in
      let v : r < f - q = omega arith in
      let w : to + ((p + r) - lo) ≡ q + r = omega arith in
      get_or-take (e - p) (drop p m) r no_node u ∙ get_or-drop p m r no_node ∙ a (p + r) (omega arith) (omega arith) ∙ ap (λ (x : ℕ). get_or n x no_node) w ∙ sym (get_or-drop q n r no_node) ∙ sym (get_or-take (f - q) (drop q n) r no_node v))

  size_agree : (p q : ℕ) → lo ≤ p → p < hi → q ≡ to + (p - lo) → size_at m p ≡ size_at n q
  size_agree p q i j z = ap (λ (x : Node). x.size) (a p i j) ∙ ap (size_at n) (sym z)

  subtree_agree : (p q : ℕ) → lo ≤ p → p < hi → p + size_at m p ≤ hi → q ≡ to + (p - lo) → subtree m p ≡ subtree n q
  subtree_agree p q i j k z =
      subtree_win m p ∙ win_agree p (p + size_at m p) q (q + size_at m p) i k z (omega arith) ∙ ap (λ (x : ℕ). win n q (q + x)) (size_agree p q i j z) ∙ sym (subtree_win n q)

  bind_agree : (b : Bindings) (o : Option ℕ) (x p q : ℕ) (j k : Bindings → Outcome) → get_or b x None ≡ o → Within m lo hi b → lo ≤ p → p < hi → p + size_at m p ≤ hi → q ≡ to + (p - lo) → ((d : Bindings) → Within m lo hi d → k (move lo to d) ≡ shifted lo to (j d)) → bind n (move lo to b) (moved lo to o) x q k ≡ shifted lo to (bind m b o x p j)
  bind_agree b None x p q j k e w g h i z y = ap k (ap (λ (r : ℕ). set (move lo to b) x (Some r)) z ∙ set_move lo to b x p) ∙ y (set b x (Some p)) (within_set m lo hi b x p w g h i)
  bind_agree b (Some r) x p q j k e w g h i z y =
      let (t, u, v) = w x r e in
      let A : subtree m r ≡ subtree n (to + (r - lo)) = subtree_agree r (to + (r - lo)) t u v refl in
      let B : subtree m p ≡ subtree n q = subtree_agree p q g h i z in
      (λ f. tick (compared (sym A f) (sym B f)) (cond (same (sym A f) (sym B f)) (k (move lo to b)) fails)) ∙ go (same (subtree m r) (subtree m p))
    where
      go : (t : Bool) → tick (compared (subtree m r) (subtree m p)) (cond t (k (move lo to b)) fails) ≡ shifted lo to (tick (compared (subtree m r) (subtree m p)) (cond t (j b) fails))
      go true = ap (tick (compared (subtree m r) (subtree m p))) (y b w)
      go false = refl

  -- the same, where the variable is looked up
  bind_moved : (b : Bindings) (x p q : ℕ) (j k : Bindings → Outcome) → Within m lo hi b → lo ≤ p → p < hi → p + size_at m p ≤ hi → q ≡ to + (p - lo) → ((d : Bindings) → Within m lo hi d → k (move lo to d) ≡ shifted lo to (j d)) → bind n (move lo to b) (get_or (move lo to b) x None) x q k ≡ shifted lo to (bind m b (get_or b x None) x p j)
  bind_moved b x p q j k w g h i z y = ap (λ (o : Option ℕ). bind n (move lo to b) o x q k) (getD_move lo to b x) ∙ bind_agree b (get_or b x None) x p q j k refl w g h i z y

  after_agree : (o : Outcome) (j k : Bindings → Outcome) → ((d : Bindings) → o.bound ≡ Some d → k (move lo to d) ≡ shifted lo to (j d)) → after (shifted lo to o) k ≡ shifted lo to (after o j)
  after_agree o j k h = go o.bound refl
    where
      go : (r : Option Bindings) → o.bound ≡ r → after_bound (shifted lo to o) (moved_bound lo to r) k ≡ shifted lo to (after_bound o r j)
      go None e = refl
      go (Some d) e = ap (tick o.steps) (h d e)

  module _ (c : ℕ) (less : (es : List Element) (p e q f : ℕ) (b : Bindings) → lo ≤ p → e ≤ hi → q ≡ to + (p - lo) → f ≡ to + (e - lo) → Fits m p e → Goods es → Within m lo hi b → walk c n es q f (move lo to b) ≡ shifted lo to (walk c m es p e b))
      (es : List Element) (p e q f : ℕ) (b : Bindings) (i : lo ≤ p) (j : e ≤ hi) (z : q ≡ to + (p - lo)) (y : f ≡ to + (e - lo)) (g : Fits m p e) (l : Goods es) (w : Within m lo hi b) where
    rule_agree : p < e → (r : Rule) → by_rule (walk c n) n es q (size_at m p) f (move lo to b) r ≡ shifted lo to (by_rule (walk c m) m es p (size_at m p) e b r)
    rule_agree h Done = refl
    rule_agree h Stuck = refl
    rule_agree h BothGo = ap (tick 1) (less (drop 1 es) (p + 1) e (q + 1) f b (omega arith) j (omega arith) y (fits_later g (p + 1) (omega arith)) (goods_drop 1 es l) w)
    rule_agree h (BindBeforeLexeme x) = ap (tick 1) (bind_moved b x p q (walk c m (drop 2 es) (p + size_at m p + 1) e) (walk c n (drop 2 es) (q + size_at m p + 1) f) w i (omega arith) (omega (arith, g.ends p (omega arith) h)) z
        (λ d v. less (drop 2 es) (p + size_at m p + 1) e (q + size_at m p + 1) f d (omega arith) j (omega arith) y (fits_later g (p + size_at m p + 1) (omega arith)) (goods_drop 2 es l) v))
    rule_agree h (BindBeforeInner x) = ap (tick 1) (bind_moved b x p q (walk c m (drop 1 es) (p + size_at m p) e) (walk c n (drop 1 es) (q + size_at m p) f) w i (omega arith) (omega (arith, g.ends p (omega arith) h)) z
        (λ d v. less (drop 1 es) (p + size_at m p) e (q + size_at m p) f d (omega arith) j (omega arith) y (fits_later g (p + size_at m p) (omega arith)) (goods_drop 1 es l) v))
    rule_agree h (BindLast x) = ap (tick 1) (bind_moved b x p q (walk c m (drop 1 es) (p + size_at m p) e) (walk c n (drop 1 es) (q + size_at m p) f) w i (omega arith) (omega (arith, g.ends p (omega arith) h)) z
        (λ d v. less (drop 1 es) (p + size_at m p) e (q + size_at m p) f d (omega arith) j (omega arith) y (fits_later g (p + size_at m p) (omega arith)) (goods_drop 1 es l) v))
    rule_agree h (Enter size) =
        let fi : Fits m (p + 1) (p + size_at m p) = fits_inner s p (omega (arith, g.within)) in
        let gi : Goods (take (size - 1) (drop 1 es)) = goods_take (size - 1) (drop 1 es) (goods_drop 1 es l) in
        let k : p + size_at m p ≤ hi = omega (arith, g.ends p (omega arith) h) in
        let inner : walk c n (take (size - 1) (drop 1 es)) (q + 1) (q + size_at m p) (move lo to b) ≡ shifted lo to (walk c m (take (size - 1) (drop 1 es)) (p + 1) (p + size_at m p) b) = less (take (size - 1) (drop 1 es)) (p + 1) (p + size_at m p) (q + 1) (q + size_at m p) b (omega arith) k (omega arith) (omega arith) fi gi w in
        ap (tick 1) (
        ap (λ (o : Outcome). after o (walk c n (drop size es) (q + size_at m p) f)) inner
        ∙ after_agree (walk c m (take (size - 1) (drop 1 es)) (p + 1) (p + size_at m p) b) (walk c m (drop size es) (p + size_at m p) e) (walk c n (drop size es) (q + size_at m p) f)
        (λ d v. less (drop size es) (p + size_at m p) e (q + size_at m p) f d (omega arith) j (omega arith) y (fits_later g (p + size_at m p) (omega arith)) (goods_drop size es l)
        (won_within m s lo hi (won m s c (take (size - 1) (drop 1 es)) (p + 1) (p + size_at m p) b d fi gi v) fi (omega arith) k w)))
    rule_agree h Open = ap (tick 1) (less es (p + 1) e (q + 1) f b (omega arith) j (omega arith) y (fits_later g (p + 1) (omega arith)) l w)

    none_agree : (xs : List Element) → by_rule (walk c n) n es q (size_at n q) f (move lo to b) (choose_none xs) ≡ shifted lo to (by_rule (walk c m) m es p (size_at m p) e b (choose_none xs))
    none_agree [] = refl
    none_agree (x ∷ xs) = refl

    step_agree : walk (suc c) n es q f (move lo to b) ≡ shifted lo to (walk (suc c) m es p e b)
    step_agree = ⊎_elim
        (λ h. let u : size_at m p ≡ size_at n q = size_agree p q i (omega arith) z in let v : win m p e ≡ win n q f = win_agree p e q f i j z y in
        (λ r. by_rule (walk c n) n es q (sym u r) f (move lo to b) (choose es (sym v r))) ∙ rule_agree h (choose es (win m p e)))
        (λ h. ap (by_rule (walk c n) n es q (size_at n q) f (move lo to b)) (choose_nothing n es q f (omega arith)) ∙ none_agree es ∙ sym (ap (λ (r : Rule). shifted lo to (by_rule (walk c m) m es p (size_at m p) e b r)) (choose_nothing m es p e h))) (cases_lt p e)

  walk_agree : (c : ℕ) (es : List Element) (p e q f : ℕ) (b : Bindings) → lo ≤ p → e ≤ hi → q ≡ to + (p - lo) → f ≡ to + (e - lo) → Fits m p e → Goods es → Within m lo hi b → walk c n es q f (move lo to b) ≡ shifted lo to (walk c m es p e b)
  walk_agree zero es p e q f b i j z y g l w = refl
  walk_agree (suc c) es p e q f b i j z y g l w = step_agree c (walk_agree c) es p e q f b i j z y g l w

-- the sizes at two places with the same subtree
same_size : (m n : Forest) (p q : ℕ) → Sound m → Sound n → p < length m → q < length n → subtree m p ≡ subtree n q → size_at m p ≡ size_at n q
same_size m n p q s t h k e =
    let a : length (subtree m p) ≡ size_at m p = length-take (size_at m p) (drop p m) ∙ omega (arith, length-drop p m, fits_whole m s p h) in
    let b : length (subtree n q) ≡ size_at n q = length-take (size_at n q) (drop q n) ∙ omega (arith, length-drop q n, fits_whole n t q k) in
    omega (arith, ap length e)

same_agree : (m n : Forest) (p q : ℕ) → size_at m p ≡ size_at n q → subtree m p ≡ subtree n q → Agree m n p q (p + size_at m p)
same_agree m n p q z e r i j =
    let y : p + (r - p) ≡ r = omega arith in
    ap (λ (x : ℕ). get_or m x no_node) (sym y) ∙ sym (get_or-drop p m (r - p) no_node) ∙ sym (get_or-take (size_at m p) (drop p m) (r - p) no_node (omega arith)) ∙ ap (λ (f : Forest). get_or f (r - p) no_node) e
    ∙ get_or-take (size_at n q) (drop q n) (r - p) no_node (omega arith) ∙ get_or-drop q n (r - p) no_node

-- trees with the same subtree at two places match alike there
pub subtree_alone : SubtreeAlone
subtree_alone m n es p q l k g h i e =
    let s : Sound m = sound m l in
    let t : Sound n = sound n k in
    let z : size_at m p ≡ size_at n q = same_size m n p q s t h i e in
    let f : Fits m p (p + size_at m p) = fits_at s p h in
    walk_fuel n t (1 + length n) (1 + length m) es q (q + size_at n q) (replicate 16 None) (fits_at t q i) (omega (arith, fits_whole n t q i)) (omega (arith, f.within))
    ∙ walk_agree m n s p q (p + size_at m p) f.within (omega (arith, fits_whole n t q i)) (same_agree m n p q z e) (1 + length m) es p (p + size_at m p) q (q + size_at n q) (replicate 16 None) (omega arith) (omega arith) (omega arith) (omega arith) f (goods_formed es g) (λ x r y. none_some r (sym (blank 16 x) ∙ y))
