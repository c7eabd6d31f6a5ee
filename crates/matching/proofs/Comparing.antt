-- Two subtrees, compared pair by pair.
use Rattle.std.proofs.Common.{◌≡◌, ℕ, ◌+◌, ◌<◌, Bool, true, false, ◌&&◌, not, eqb, ◌∷◌, length, get_or, sym, refl, ap, ◌∙◌, ⊎_elim, arith}
use Rattle.std.proofs.lemmas.Bool.{and_parts, eqb-true, cases_lt, cond-true, cond-false}
use Rattle.trees.specs.Forest.{Forest, no_node, size_at, label_at, subtree, same_node, same, compared}
use Rattle.trees.specs.Windows.{win, win_cons, Sound, fits_whole}

-- the test of two nodes by what is known of them
pub nodes_tested : (m : Forest) (q p : ℕ) (k l x y : ℕ) (t : Bool) → k ≡ label_at m q → x ≡ size_at m q → l ≡ label_at m p → y ≡ size_at m p → t ≡ not (eqb k l && eqb x y) → same_node (get_or m q no_node) (get_or m p no_node) ≡ not t
nodes_tested m q p k l x y t a b c d e = (λ i. eqb (sym a i) (sym c i) && eqb (sym b i) (sym d i)) ∙ twice (eqb k l && eqb x y) ∙ ap not (sym e)
  where
    twice : (t : Bool) → t ≡ not (not t)
    twice true = refl
    twice false = refl

-- what is left of two subtrees behind the first n pairs
abbrev pub rest : Forest → ℕ → ℕ → Forest
rest m q n = win m (q + n) (q + size_at m q)

-- the first n pairs are the same
pub record SoFar (m : Forest) (q p n : ℕ) : Type 0 where
  pub alike : same (subtree m q) (subtree m p) ≡ same (rest m q n) (rest m p n)
  pub counted : compared (subtree m q) (subtree m p) ≡ n + compared (rest m q n) (rest m p n)
  pub sized : 0 < n → size_at m q ≡ size_at m p

module _ (m : Forest) (s : Sound m) (q p : ℕ) (h : q < length m) (k : p < length m) where
  module _ (n : ℕ) (l : n < size_at m p) (so : SoFar m q p n) where
    pub there : n < size_at m q
    there = ⊎_elim (λ z. omega (arith, so.sized z)) (λ z. omega (arith, s.sizes q h)) (cases_lt 0 n)

    rest_cons : (r : ℕ) → r < length m → n < size_at m r → rest m r n ≡ get_or m (r + n) no_node ∷ rest m r (n + 1)
    rest_cons r i j = win_cons m (r + n) (r + size_at m r) (omega arith) (fits_whole m s r i) ∙ ap (λ (x : ℕ). get_or m (r + n) no_node ∷ win m x (r + size_at m r)) (omega arith)

    pub one_more : same_node (get_or m (q + n) no_node) (get_or m (p + n) no_node) ≡ true → SoFar m q p (n + 1)
    one_more e =
        let a = rest_cons q h there in
        let b = rest_cons p k l in
        record {
          alike = so.alike ∙ (λ i. same (a i) (b i)) ∙ ap (λ t. t && same (rest m q (n + 1)) (rest m p (n + 1))) e;
          counted = so.counted ∙ ap (λ (x : ℕ). n + x) ((λ i. compared (a i) (b i)) ∙ cond-true _ (1 + compared (rest m q (n + 1)) (rest m p (n + 1))) 1 e) ∙ omega arith;
          sized = λ z. ⊎_elim (λ y. so.sized y) (λ y. first (omega arith)) (cases_lt 0 n);
        }
      where
        first : n ≡ 0 → size_at m q ≡ size_at m p
        first z =
            let (t, u) = and_parts (eqb (label_at m (q + n)) (label_at m (p + n))) (eqb (size_at m (q + n)) (size_at m (p + n))) e in
            let y : q + n ≡ q = omega arith in
            let x : p + n ≡ p = omega arith in
            ap (size_at m) (sym y) ∙ eqb-true (size_at m (q + n)) (size_at m (p + n)) u ∙ ap (size_at m) x

    pub differ : same_node (get_or m (q + n) no_node) (get_or m (p + n) no_node) ≡ false → (same (subtree m q) (subtree m p) ≡ false) × (compared (subtree m q) (subtree m p) ≡ n + 1)
    differ e =
        let a = rest_cons q h there in
        let b = rest_cons p k l in (
          so.alike ∙ (λ i. same (a i) (b i)) ∙ ap (λ t. t && same (rest m q (n + 1)) (rest m p (n + 1))) e,
          so.counted ∙ ap (λ (x : ℕ). n + x) ((λ i. compared (a i) (b i)) ∙ cond-false _ (1 + compared (rest m q (n + 1)) (rest m p (n + 1))) 1 e),
        )
