-- What was won is a reading.
use Rattle.std.proofs.Common.{◌≡◌, ℕ, ◌+◌, ◌-◌, ◌<◌, List, [], ◌∷◌, length, get_or, take, drop, replicate, Some, None, sym, refl, ap, ◌∙◌, subst, ⊎_elim, arith, length-set, get_or-set_other, get_or-set_same}
use Rattle.std.proofs.lemmas.Bool.{cases_eq}
use Rattle.patterns.specs.declared.row.Element.{Element}
use Rattle.patterns.specs.declared.row.Element.TheVariants.{Lexeme, Variable, Group}
use Rattle.trees.specs.Forest.{Forest, size_at, subtree, no_node}
use Rattle.matching.specs.Rules.{Bindings}
use Rattle.matching.specs.Readings.{Reads, nothing_left, lexeme, variable, group, opening, bound_trees}
use Rattle.matching.specs.Laws.{MatchIsAReading}
use Rattle.trees.specs.Windows.{win, win_none, win_cons, rest_win, first_win, subtree_win, subtree_cons, Sound, sound, Fits, fits_later, fits_inner, fits_at}
use Rattle.matching.proofs.Winning.{Goods, goods_take, goods_drop, goods_formed, Binds, fresh, again, Won, over, both, put, entered, opened, none_some, won}

abbrev pub Grows : Bindings → Bindings → Type 0
Grows b c = (x q : ℕ) → get_or b x None ≡ Some q → get_or c x None ≡ Some q

pub binds_grows : {m : Forest} {b c : Bindings} {x p : ℕ} → Binds m b x p c → Grows b c
binds_grows {b = b} {x = x} {p = p} (fresh n) y q h = ⊎_elim (λ e. none_some q (sym n ∙ ap (λ (i : ℕ). get_or b i None) (sym e) ∙ h)) (λ d. get_or-set_other b x y (Some p) None d ∙ h) (cases_eq y x)
binds_grows (again r n e) y q h = h

pub won_grows : {m : Forest} {es : List Element} {p e : ℕ} {b c : Bindings} → Won m es p e b c → Grows b c
won_grows (over h) x q i = i
won_grows (both h y l w) x q i = won_grows w x q i
won_grows (put h k t d w) x q i = won_grows w x q (binds_grows d x q i)
won_grows (entered h k v w) x q i = won_grows w x q (won_grows v x q i)
won_grows (opened h k w) x q i = won_grows w x q i

binds_length : {m : Forest} {b c : Bindings} {x p : ℕ} → Binds m b x p c → length c ≡ length b
binds_length {b = b} {x = x} {p = p} (fresh n) = length-set b x (Some p)
binds_length (again r n e) = refl

pub won_length : {m : Forest} {es : List Element} {p e : ℕ} {b c : Bindings} → Won m es p e b c → length c ≡ length b
won_length (over h) = refl
won_length (both h y l w) = won_length w
won_length (put h k t d w) = won_length w ∙ binds_length d
won_length (entered h k v w) = won_length w ∙ won_length v
won_length (opened h k w) = won_length w

-- the tree of a bound variable
pub bound_tree : (m : Forest) (d : Bindings) (x q : ℕ) → get_or d x None ≡ Some q → bound_trees m d x ≡ subtree m q
bound_tree m d x q h = rw (h, bound_trees)

binds_tree : {m : Forest} {b c : Bindings} {x p : ℕ} → Binds m b x p c → x < length b → (d : Bindings) → Grows c d → bound_trees m d x ≡ subtree m p
binds_tree {m} {b} {c} {x} {p} (fresh n) h d g = bound_tree m d x p (g x p (get_or-set_same b x (Some p) None h))
binds_tree {m} {b} {c} {x} {p} (again q n e) h d g = bound_tree m d x q (g x q n) ∙ e

module _ (m : Forest) (s : Sound m) (d : Bindings) where
  reads : {es : List Element} {p e : ℕ} {b c : Bindings} → Won m es p e b c → Fits m p e → Goods es → length b ≡ 16 → Grows c d → Reads (bound_trees m d) es (win m p e)
  reads {p = p} {e = e} (over h) f g l i = subst (λ (w : Forest). Reads (bound_trees m d) [] w) (sym (win_none m p e h)) nothing_left
  reads {p = p} {e = e} (both {l = a} {es = es} h y z w) f g l i =
      let r : Reads (bound_trees m d) es (win m (p + 1) e) = reads w (fits_later f (p + 1) (omega arith)) g.1 l i in
      subst (λ (y : Forest). Reads (bound_trees m d) (Lexeme a ∷ es) y) (sym (win_cons m p e h f.within)) (lexeme {a = get_or m p no_node} y z r)
  reads {p = p} {e = e} (put {x = x} {k = o} {es = es} {b = b} {c = c} {d = a} h k t y w) f g l i =
      let r : Reads (bound_trees m d) es (win m (p + size_at m p) e) = reads w (fits_later f (p + size_at m p) (omega arith)) g.1 (binds_length y ∙ l) i in
      let j : Grows c d = λ z q n. i z q (won_grows w z q n) in
      let u : x < length b = omega (arith, l, g.0) in
      subst (λ (z : Forest). Reads (bound_trees m d) (Variable x o ∷ es) z) (sym (win_cons m p e h f.within))
      (variable {a = get_or m p no_node} k t (binds_tree y u d j ∙ subtree_cons m s p e f h) (subst (λ (z : Forest). Reads (bound_trees m d) es z) (sym (rest_win m s p e f h)) r))
  reads {p = p} {e = e} (entered {k = n} {es = es} {b = b} {c = c} {d = a} h k v w) f g l i =
      let j : Grows c d = λ z q n. i z q (won_grows w z q n) in
      let r : Reads (bound_trees m d) (drop (n - 1) es) (win m (p + size_at m p) e) = reads w (fits_later f (p + size_at m p) (omega arith)) (goods_drop (n - 1) es g.1) (won_length v ∙ l) i in
      let q : Reads (bound_trees m d) (take (n - 1) es) (win m (p + 1) (p + size_at m p)) = reads v (fits_inner s p (omega (arith, f.within))) (goods_take (n - 1) es g.1) l j in
      subst (λ (z : Forest). Reads (bound_trees m d) (Group n ∷ es) z) (sym (win_cons m p e h f.within))
      (group {k = n} {a = get_or m p no_node} k (subst (λ (z : Forest). Reads (bound_trees m d) (take (n - 1) es) z) (sym (first_win m p e f h)) q) (subst (λ (z : Forest). Reads (bound_trees m d) (drop (n - 1) es) z) (sym (rest_win m s p e f h)) r))
  reads {p = p} {e = e} (opened {es = es} h k w) f g l i =
      subst (λ (z : Forest). Reads (bound_trees m d) es z) (sym (win_cons m p e h f.within)) (opening {a = get_or m p no_node} k (reads w (fits_later f (p + 1) (omega arith)) g l i))

-- a match's bindings are a reading
pub match_is_a_reading : MatchIsAReading
match_is_a_reading m es p l q h c w =
    let s : Sound m = sound m l in
    let g : Goods es = goods_formed es q in
    subst (λ (z : Forest). Reads (bound_trees m c) es z) (sym (subtree_win m p))
    (reads m s c (won m s (1 + length m) es p (p + size_at m p) (replicate 16 None) c (fits_at s p h) g w) (fits_at s p h) g refl (λ x q i. i))
