-- The ways to win, as a relation of their own, and that a walk that binds is one of them.
use Rattle.std.proofs.Common.{◌≡◌, ℕ, zero, suc, ◌+◌, ◌-◌, ◌<◌, ◌≤◌, Bool, true, false, cond, T, eqb, ltb, ◌⊎◌, List, [], ◌∷◌, length, get_or, take, drop, set, replicate, Some, None, Option, sym, refl, ap, ◌∙◌, subst, inl, inr, ⊎_elim, arith, get_or-set_other, get_or-set_same}
use lib.Seq.{set_out}
use Rattle.std.proofs.lemmas.Bool.{cases_eq, cases_lt, ltb-true, ltb-false, eqb-true}
use Rattle.patterns.specs.declared.row.Element.{Element}
use Rattle.patterns.specs.declared.row.Element.TheVariants.{Lexeme, Variable, Group}
use Rattle.trees.specs.Forest.{Forest, size_at, subtree, same, no_node}
use Rattle.patterns.specs.Elements.{number_of, extent, least_extent, WellFormed}
use Rattle.matching.specs.declared.nodes.Seen.{Seen}
use Rattle.matching.specs.declared.nodes.Seen.TheVariants.{Leaf, Inner}
use Rattle.matching.specs.declared.rule.Rule.{Rule}
use Rattle.matching.specs.declared.rule.Rule.TheVariants.{Stuck, BothGo, BindBeforeLexeme, Enter, Open}
use Rattle.matching.specs.Rules.{next, fits, Bindings, Outcome, Walk, choose, choose_none, choose_leaf, choose_inner, choose_last, by_rule, bind, after, after_bound, fails, walk}
use Rattle.trees.proofs.Same.{same_true}
use Rattle.trees.specs.Windows.{win, win_none, win_cons, rest_win, Sound, Fits, fits_later, fits_inner}

-- what a pattern's elements must be one by one
abbrev pub Good : Element → Type 0
Good (Lexeme l) = Unit {0}
Good (Variable x c) = x < 16
Good (Group k) = 1 ≤ k

abbrev pub Goods : List Element → Type 0
Goods [] = Unit {0}
Goods (a ∷ es) = Good a × Goods es

pub goods_take : (n : ℕ) (es : List Element) → Goods es → Goods (take n es)
goods_take zero es g = tt
goods_take (suc n) [] g = tt
goods_take (suc n) (a ∷ es) g = (g.0, goods_take n es g.1)

pub goods_drop : (n : ℕ) (es : List Element) → Goods es → Goods (drop n es)
goods_drop zero es g = g
goods_drop (suc n) [] g = tt
goods_drop (suc n) (a ∷ es) g = goods_drop n es g.1

good_sits : (a : Element) → number_of a < 16 → least_extent a ≤ extent a → Good a
good_sits (Lexeme l) h k = tt
good_sits (Variable x c) h k = h
good_sits (Group k) h i = omega arith

goods_by_place : (es : List Element) → ((i : ℕ) → i < length es → Good (get_or es i (Lexeme 0))) → Goods es
goods_by_place [] h = tt
goods_by_place (a ∷ es) h = (h 0 (omega arith), goods_by_place es (λ i k. h (suc i) (omega arith)))

pub goods_formed : (es : List Element) → WellFormed es → Goods es
goods_formed es h = goods_by_place es (λ i k. good_sits (get_or es i (Lexeme 0)) (h.each i k).numbered (h.each i k).sized)

-- a variable gets a place, or has one with the same tree
pub data Binds (m : Forest) (b : Bindings) (x p : ℕ) : Bindings → Type 0 where
  fresh : get_or b x None ≡ None → Binds m b x p (set b x (Some p))
  again : (q : ℕ) → get_or b x None ≡ Some q → subtree m q ≡ subtree m p → Binds m b x p b

pub data Won (m : Forest) : List Element → ℕ → ℕ → Bindings → Bindings → Type 0 where
  over : {p e : ℕ} {b : Bindings} → e ≤ p → Won m [] p e b b
  both : {l p e : ℕ} {es : List Element} {b c : Bindings} → p < e → size_at m p ≡ 1 → (get_or m p no_node).label ≡ l → Won m es (p + 1) e b c → Won m (Lexeme l ∷ es) p e b c
  put : {x p e : ℕ} {k : Option ℕ} {es : List Element} {b c d : Bindings} → p < e → 1 < size_at m p → T (fits k (get_or m p no_node).label) → Binds m b x p c → Won m es (p + size_at m p) e c d → Won m (Variable x k ∷ es) p e b d
  entered : {k p e : ℕ} {es : List Element} {b c d : Bindings} → p < e → 1 < size_at m p → Won m (take (k - 1) es) (p + 1) (p + size_at m p) b c → Won m (drop (k - 1) es) (p + size_at m p) e c d → Won m (Group k ∷ es) p e b d
  opened : {p e : ℕ} {es : List Element} {b c : Bindings} → p < e → 1 < size_at m p → Won m es (p + 1) e b c → Won m es p e b c

-- comparison
pub none_some : {A X : Type 0} (a : A) → ◌≡◌ {A = Option A} None (Some a) → X
none_some a h = let z : ◌≡◌ {A = ℕ} 0 1 = cc in absurd (omega arith)

-- what a set of bindings holds after one more, and at the start
pub set_some : (b : Bindings) (x p y q : ℕ) → get_or (set b x (Some p)) y None ≡ Some q → ((y ≡ x) × (q ≡ p)) ⊎ (get_or b y None ≡ Some q)
set_some b x p y q i = ⊎_elim
    (λ e. ⊎_elim (λ k. let w : Some p ≡ Some q = sym (get_or-set_same b x (Some p) None k) ∙ ap (λ (j : ℕ). get_or (set b x (Some p)) j None) (sym e) ∙ i in inl (e, cc))
    (λ k. inr (ap (λ (c : Bindings). get_or c y None) (sym (set_out b x (Some p) k)) ∙ i)) (cases_lt x (length b)))
    (λ d. inr (sym (get_or-set_other b x y (Some p) None d) ∙ i)) (cases_eq y x)

pub blank : (n x : ℕ) → get_or (replicate {A = Option ℕ} n None) x None ≡ None
blank zero x = refl
blank (suc n) zero = refl
blank (suc n) (suc x) = blank n x

-- what a bind and an after with a result say
bind_some : (m : Forest) (b : Bindings) (o : Option ℕ) (x p : ℕ) (k : Bindings → Outcome) (c : Bindings) → get_or b x None ≡ o → (bind m b o x p k).bound ≡ Some c → (d : Bindings) × (Binds m b x p d) × ((k d).bound ≡ Some c)
bind_some m b None x p k c h e = (set b x (Some p), fresh h, e)
bind_some m b (Some q) x p k c h e = go (same (subtree m q) (subtree m p)) refl e
  where
    go : (t : Bool) → same (subtree m q) (subtree m p) ≡ t → (cond t (k b) fails).bound ≡ Some c → (d : Bindings) × (Binds m b x p d) × ((k d).bound ≡ Some c)
    go true s e = (b, again q h (same_true (subtree m q) (subtree m p) s), e)
    go false s e = none_some c e

pub after_some : (o : Outcome) (k : Bindings → Outcome) (c : Bindings) → (after o k).bound ≡ Some c → (d : Bindings) × (o.bound ≡ Some d) × ((k d).bound ≡ Some c)
after_some o k c h = go o.bound refl h
  where
    go : (r : Option Bindings) → o.bound ≡ r → (after_bound o r k).bound ≡ Some c → (d : Bindings) × (o.bound ≡ Some d) × ((k d).bound ≡ Some c)
    go None e h = none_some c (sym e ∙ h)
    go (Some d) e h = (d, e, h)

pub drop_group : (n : ℕ) (a : Element) (es : List Element) → 1 ≤ n → drop n (a ∷ es) ≡ drop (n - 1) es
drop_group zero a es h = absurd (omega arith)
drop_group (suc n) a es h = let z : n ≡ suc n - 1 = omega arith in ap (λ (i : ℕ). drop i es) z

-- the rule at a place inside, by the two windows
pub choose_some : (m : Forest) → Sound m → (es : List Element) (p e : ℕ) → Fits m p e → p < e →
    choose es (win m p e) ≡ cond (ltb 1 (size_at m p)) (choose_inner es (get_or m p no_node).label (win m (p + size_at m p) e)) (choose_leaf es (get_or m p no_node).label)
choose_some m s es p e f h = ap (choose es) (win_cons m p e h f.within) ∙ ap (λ (w : Forest). cond (ltb 1 (size_at m p)) (choose_inner es (get_or m p no_node).label w) (choose_leaf es (get_or m p no_node).label)) (rest_win m s p e f h)

pub choose_nothing : (m : Forest) (es : List Element) (p e : ℕ) → e ≤ p → choose es (win m p e) ≡ choose_none es
choose_nothing m es p e h = ap (choose es) (win_none m p e h)

module _ (m : Forest) (s : Sound m) where
  one_there : (q : ℕ) → q < length m → size_at m q ≤ 1 → size_at m q ≡ 1
  one_there q h k = omega (arith, s.sizes q h)

  leaf_there : (q e l : ℕ) → Fits m q e → next (win m q e) ≡ Some (Leaf l) → (q < e) × ((size_at m q ≡ 1) × ((get_or m q no_node).label ≡ l))
  leaf_there q e l f h = ⊎_elim (λ k. (k, size k (ltb 1 (size_at m q)) refl (subst (λ (w : Forest). next w ≡ Some (Leaf l)) (win_cons m q e k f.within) h)))
      (λ k. let z : ◌≡◌ {A = Option Seen} None (Some (Leaf l)) = subst (λ (w : Forest). next w ≡ Some (Leaf l)) (win_none m q e k) h in let y : ◌≡◌ {A = ℕ} 0 1 = cc in absurd (omega arith)) (cases_lt q e)
    where
      size : q < e → (t : Bool) → ltb 1 (size_at m q) ≡ t → ◌≡◌ {A = Option Seen} (Some (cond t Inner (Leaf (get_or m q no_node).label))) (Some (Leaf l)) → (size_at m q ≡ 1) × ((get_or m q no_node).label ≡ l)
      size k true u v = let y : ◌≡◌ {A = ℕ} 0 1 = cc in absurd (omega arith)
      size k false u v = (one_there q (omega (arith, f.within)) (omega (arith, ltb-false 1 (size_at m q) u)), cc)

  module _ (go : Walk) (wins : (es : List Element) (p e : ℕ) (b c : Bindings) → Fits m p e → Goods es → (go es p e b).bound ≡ Some c → Won m es p e b c)
      (p e : ℕ) (f : Fits m p e) (h : p < e) (b c : Bindings) where
    won_lexeme : size_at m p ≤ 1 → (l : ℕ) (es : List Element) → Goods es → (t : Bool) → eqb l (get_or m p no_node).label ≡ t → (by_rule go m (Lexeme l ∷ es) p (size_at m p) e b (cond t BothGo Stuck)).bound ≡ Some c → Won m (Lexeme l ∷ es) p e b c
    won_lexeme k l es g true z w = both h (one_there p (omega (arith, f.within)) k) (sym (eqb-true l (get_or m p no_node).label z)) (wins es (p + 1) e b c (fits_later f (p + 1) (omega arith)) g w)
    won_lexeme k l es g false z w = none_some c w

    won_leaf : size_at m p ≤ 1 → (es : List Element) → Goods es → (by_rule go m es p (size_at m p) e b (choose_leaf es (get_or m p no_node).label)).bound ≡ Some c → Won m es p e b c
    won_leaf k [] g w = none_some c w
    won_leaf k (Lexeme l ∷ es) g w = won_lexeme k l es g.1 (eqb l (get_or m p no_node).label) refl w
    won_leaf k (Variable x o ∷ es) g w = none_some c w
    won_leaf k (Group n ∷ es) g w = none_some c w

    module _ (k : 1 < size_at m p) where
      won_opening : (es : List Element) → Goods es → (by_rule go m es p (size_at m p) e b Open).bound ≡ Some c → Won m es p e b c
      won_opening es g w = opened h k (wins es (p + 1) e b c (fits_later f (p + 1) (omega arith)) g w)

      won_bind : (x : ℕ) (o : Option ℕ) → T (fits o (get_or m p no_node).label) → (es : List Element) → Goods es → (bind m b (get_or b x None) x p (go es (p + size_at m p) e)).bound ≡ Some c → Won m (Variable x o ∷ es) p e b c
      won_bind x o t es g w =
          let (d, i, j) = bind_some m b (get_or b x None) x p (go es (p + size_at m p) e) c refl w in
          put h k t i (wins es (p + size_at m p) e d c (fits_later f (p + size_at m p) (omega arith)) g j)

      won_bind_lexeme : (x : ℕ) (o : Option ℕ) → T (fits o (get_or m p no_node).label) → (l r : ℕ) (es : List Element) → Goods (Variable x o ∷ (Lexeme l ∷ es)) → next (win m (p + size_at m p) e) ≡ Some (Leaf r) → (u : Bool) → eqb l r ≡ u →
          (by_rule go m (Variable x o ∷ (Lexeme l ∷ es)) p (size_at m p) e b (cond u (BindBeforeLexeme x) Open)).bound ≡ Some c → Won m (Variable x o ∷ (Lexeme l ∷ es)) p e b c
      won_bind_lexeme x o t l r es g z true y w =
          let (d, i, j) = bind_some m b (get_or b x None) x p (go es (p + size_at m p + 1) e) c refl w in
          let (q, v) = leaf_there (p + size_at m p) e r (fits_later f (p + size_at m p) (omega arith)) z in
          put h k t i (both q v.0 (v.1 ∙ sym (eqb-true l r y)) (wins es (p + size_at m p + 1) e d c (fits_later f (p + size_at m p + 1) (omega arith)) g.1.1 j))
      won_bind_lexeme x o t l r es g z false y w = won_opening (Variable x o ∷ (Lexeme l ∷ es)) g w

      won_last : (x : ℕ) (o : Option ℕ) → T (fits o (get_or m p no_node).label) → (es : List Element) → Goods (Variable x o ∷ es) → (n : Option Seen) → next (win m (p + size_at m p) e) ≡ n →
          (by_rule go m (Variable x o ∷ es) p (size_at m p) e b (choose_last x es n)).bound ≡ Some c → Won m (Variable x o ∷ es) p e b c
      won_last x o t [] g None z w = won_bind x o t [] tt w
      won_last x o t [] g (Some (Leaf l)) z w = won_opening (Variable x o ∷ []) g w
      won_last x o t [] g (Some Inner) z w = won_bind x o t [] tt w
      won_last x o t (Lexeme l ∷ es) g None z w = won_opening (Variable x o ∷ (Lexeme l ∷ es)) g w
      won_last x o t (Lexeme l ∷ es) g (Some (Leaf r)) z w = won_bind_lexeme x o t l r es g z (eqb l r) refl w
      won_last x o t (Lexeme l ∷ es) g (Some Inner) z w = won_bind x o t (Lexeme l ∷ es) g.1 w
      won_last x o t (Variable y u ∷ es) g None z w = won_opening (Variable x o ∷ (Variable y u ∷ es)) g w
      won_last x o t (Variable y u ∷ es) g (Some (Leaf r)) z w = won_opening (Variable x o ∷ (Variable y u ∷ es)) g w
      won_last x o t (Variable y u ∷ es) g (Some Inner) z w = won_bind x o t (Variable y u ∷ es) g.1 w
      won_last x o t (Group n ∷ es) g None z w = won_opening (Variable x o ∷ (Group n ∷ es)) g w
      won_last x o t (Group n ∷ es) g (Some (Leaf r)) z w = won_opening (Variable x o ∷ (Group n ∷ es)) g w
      won_last x o t (Group n ∷ es) g (Some Inner) z w = won_bind x o t (Group n ∷ es) g.1 w

      won_variable : (x : ℕ) (o : Option ℕ) (es : List Element) → Goods (Variable x o ∷ es) → (t : Bool) → fits o (get_or m p no_node).label ≡ t →
          (by_rule go m (Variable x o ∷ es) p (size_at m p) e b (cond t (choose_last x es (next (win m (p + size_at m p) e))) Open)).bound ≡ Some c → Won m (Variable x o ∷ es) p e b c
      won_variable x o es g true z w = won_last x o (subst T (sym z) tt) es g (next (win m (p + size_at m p) e)) refl w
      won_variable x o es g false z w = won_opening (Variable x o ∷ es) g w

      won_enter : (n : ℕ) (es : List Element) → Goods (Group n ∷ es) → (by_rule go m (Group n ∷ es) p (size_at m p) e b (Enter n)).bound ≡ Some c → Won m (Group n ∷ es) p e b c
      won_enter n es g w =
          let (d, i, j) = after_some (go (take (n - 1) es) (p + 1) (p + size_at m p) b) (go (drop n (Group n ∷ es)) (p + size_at m p) e) c w in
          let y : (go (drop (n - 1) es) (p + size_at m p) e d).bound ≡ Some c = subst (λ (r : List Element). (go r (p + size_at m p) e d).bound ≡ Some c) (drop_group n (Group n) es g.0) j in
          entered h k (wins (take (n - 1) es) (p + 1) (p + size_at m p) b d (fits_inner s p (omega (arith, f.within))) (goods_take (n - 1) es g.1) i)
          (wins (drop (n - 1) es) (p + size_at m p) e d c (fits_later f (p + size_at m p) (omega arith)) (goods_drop (n - 1) es g.1) y)

      won_inner : (es : List Element) → Goods es → (by_rule go m es p (size_at m p) e b (choose_inner es (get_or m p no_node).label (win m (p + size_at m p) e))).bound ≡ Some c → Won m es p e b c
      won_inner [] g w = none_some c w
      won_inner (Lexeme l ∷ es) g w = won_opening (Lexeme l ∷ es) g w
      won_inner (Variable x o ∷ es) g w = won_variable x o es g (fits o (get_or m p no_node).label) refl w
      won_inner (Group n ∷ es) g w = won_enter n es g w

    won_some : (es : List Element) → Goods es → (t : Bool) → ltb 1 (size_at m p) ≡ t → (by_rule go m es p (size_at m p) e b (cond t (choose_inner es (get_or m p no_node).label (win m (p + size_at m p) e)) (choose_leaf es (get_or m p no_node).label))).bound ≡ Some c → Won m es p e b c
    won_some es g true z w = won_inner (ltb-true 1 (size_at m p) z) es g w
    won_some es g false z w = won_leaf (ltb-false 1 (size_at m p) z) es g w

  won_none : (go : Walk) (es : List Element) (p e : ℕ) (b c : Bindings) → e ≤ p → (by_rule go m es p (size_at m p) e b (choose_none es)).bound ≡ Some c → Won m es p e b c
  won_none go [] p e b c h w = let z : b ≡ c = cc in subst (λ (d : Bindings). Won m [] p e b d) z (over h)
  won_none go (a ∷ es) p e b c h w = none_some c w

pub won : (m : Forest) → Sound m → (n : ℕ) (es : List Element) (p e : ℕ) (b c : Bindings) → Fits m p e → Goods es → (walk n m es p e b).bound ≡ Some c → Won m es p e b c
won m s zero es p e b c f g w = none_some c w
won m s (suc n) es p e b c f g w = ⊎_elim
    (λ h. won_some m s (walk n m) (won m s n) p e f h b c es g (ltb 1 (size_at m p)) refl (subst (λ (r : Rule). (by_rule (walk n m) m es p (size_at m p) e b r).bound ≡ Some c) (choose_some m s es p e f h) w))
    (λ h. won_none m s (walk n m) es p e b c h (subst (λ (r : Rule). (by_rule (walk n m) m es p (size_at m p) e b r).bound ≡ Some c) (choose_nothing m es p e h) w)) (cases_lt p e)
