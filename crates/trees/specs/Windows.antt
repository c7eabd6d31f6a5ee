-- The forest between two places, and what a tree's sizes say of it.
use Rattle.std.specs.Prelude.{◌≡◌, ℕ, zero, suc, ◌+◌, ◌-◌, ◌<◌, ◌≤◌, [], ◌∷◌, length, take, drop, slice_index_or, slice_range}
use Rattle.std.proofs.Common.{sym, ap, ◌∙◌, subst, ⊎_elim, arith, length-take, drop-cons, take-take, drop-drop}
use Rattle.std.proofs.lemmas.List.{drop-take}
use Rattle.std.proofs.lemmas.Bool.{cases_eq}
use Rattle.trees.specs.Forest.{Forest, Law, size_at, subtree, no_node}

abbrev pub win : Forest → ℕ → ℕ → Forest
win m p e = slice_range m p e

pub win_none : (m : Forest) (p e : ℕ) → e ≤ p → win m p e ≡ []
win_none m p e h = let z : e - p ≡ 0 = omega arith in rw z

pub win_cons : (m : Forest) (p e : ℕ) → p < e → e ≤ length m → win m p e ≡ slice_index_or m p no_node ∷ win m (p + 1) e
win_cons m p e h k =
    let z : e - p ≡ suc (e - (p + 1)) = omega arith in
    let y : suc p ≡ p + 1 = omega arith in
    let i : p < length m = omega arith in
    rw (z, drop-cons m p no_node i) (rw y)

pub win_take : (m : Forest) (p q e : ℕ) → q ≤ e → take (q - p) (win m p e) ≡ win m p q
win_take m p q e h = take-take (q - p) (e - p) (drop p m) (omega arith)

pub win_drop : (m : Forest) (p q e : ℕ) → p ≤ q → q ≤ e → drop (q - p) (win m p e) ≡ win m q e
win_drop m p q e h k =
    let z : e - p ≡ (q - p) + (e - q) = omega arith in
    let y : p + (q - p) ≡ q = omega arith in
    rw z (drop-take (q - p) (e - q) (drop p m) ∙ ap (take (e - q)) (drop-drop (q - p) p m ∙ ap (λ (i : ℕ). drop i m) y))

pub length_win : (m : Forest) (p e : ℕ) → length (win m p e) ≤ e - p
length_win m p e = simp length-take (omega arith)

-- what a law says of the sizes alone
pub record Sound (m : Forest) : Type 0 where
  pub whole : size_at m 0 ≡ length m
  pub sizes : (p : ℕ) → p < length m → 0 < size_at m p
  pub inside : (p q : ℕ) → p < length m → p < q → q < p + size_at m p → q + size_at m q ≤ p + size_at m p

pub sound : (m : Forest) → Law m → Sound m
sound m h = record { whole = h.whole; sizes = h.sizes; inside = h.inside }

pub fits_whole : (m : Forest) → Sound m → (p : ℕ) → p < length m → p + size_at m p ≤ length m
fits_whole m h zero k = omega (arith, h.whole)
fits_whole m h (suc p) k = let z : suc p + size_at m (suc p) ≤ 0 + size_at m 0 = h.inside 0 (suc p) (omega arith) (omega arith) (omega (arith, h.whole)) in omega (arith, z, h.whole)

-- the places from p to e hold whole trees
pub record Fits (m : Forest) (p e : ℕ) : Type 0 where
  pub within : e ≤ length m
  pub ends : (q : ℕ) → p ≤ q → q < e → q + size_at m q ≤ e

pub fits_later : {m : Forest} {p e : ℕ} → Fits m p e → (q : ℕ) → p ≤ q → Fits m q e
fits_later h q k = record { within = h.within; ends = λ r i j. h.ends r (omega arith) j }

pub fits_inner : {m : Forest} → Sound m → (p : ℕ) → p < length m → Fits m (p + 1) (p + size_at m p)
fits_inner {m} h p k = record { within = fits_whole m h p k; ends = λ q i j. h.inside p q k (omega arith) j }

pub fits_at : {m : Forest} → Sound m → (p : ℕ) → p < length m → Fits m p (p + size_at m p)
fits_at {m} h p k = record { within = fits_whole m h p k; ends = λ q i j. ⊎_elim (λ e. subst (λ (x : ℕ). x + size_at m x ≤ p + size_at m p) e (omega arith)) (λ n. h.inside p q k (omega (arith, n)) j) (cases_eq p q) }

pub rest_win : (m : Forest) → Sound m → (p e : ℕ) → Fits m p e → p < e → drop (size_at m p - 1) (win m (p + 1) e) ≡ win m (p + size_at m p) e
rest_win m s p e f h =
    let i : 0 < size_at m p = s.sizes p (omega (arith, f.within)) in
    let z : size_at m p - 1 ≡ (p + size_at m p) - (p + 1) = omega arith in
    ap (λ (k : ℕ). drop k (win m (p + 1) e)) z ∙ win_drop m (p + 1) (p + size_at m p) e (omega arith) (f.ends p (omega arith) h)

pub first_win : (m : Forest) (p e : ℕ) → Fits m p e → p < e → take (size_at m p - 1) (win m (p + 1) e) ≡ win m (p + 1) (p + size_at m p)
first_win m p e f h =
    let z : size_at m p - 1 ≡ (p + size_at m p) - (p + 1) = omega arith in
    ap (λ (k : ℕ). take k (win m (p + 1) e)) z ∙ win_take m (p + 1) (p + size_at m p) e (f.ends p (omega arith) h)

pub subtree_win : (m : Forest) (p : ℕ) → subtree m p ≡ win m p (p + size_at m p)
subtree_win m p = let z : size_at m p ≡ (p + size_at m p) - p = omega arith in ap (λ (k : ℕ). take k (drop p m)) z

-- the subtree at p, at the head of its window
pub subtree_cons : (m : Forest) → Sound m → (p e : ℕ) → Fits m p e → p < e → subtree m p ≡ slice_index_or m p no_node ∷ take (size_at m p - 1) (win m (p + 1) e)
subtree_cons m s p e f h =
    let i : 0 < size_at m p = s.sizes p (omega (arith, f.within)) in
    subtree_win m p ∙ win_cons m p (p + size_at m p) (omega arith) (omega (arith, f.ends p (omega arith) h, f.within)) ∙ ap (λ (w : Forest). slice_index_or m p no_node ∷ w) (sym (first_win m p e f h))
