-- How the number of places above a place changes from place to place.
use Rattle.std.specs.Prelude.{◌≡◌, ℕ, zero, suc, ◌+◌, ◌-◌, ◌<◌, ◌≤◌, cond, length, nat_lt}
use Rattle.std.proofs.Common.{ap, ⊎_elim, arith}
use Rattle.std.proofs.lemmas.Bool.{cases_lt, cases_eq, lt-ltb, le-ltb, cond-true, cond-false}
use Rattle.trees.specs.Forest.{Forest, size_at, enclosing}
use Rattle.trees.specs.Windows.{Sound}

-- each subtree ends inside those around it
abbrev pub Inside : Forest → Type 0
Inside m = (p q : ℕ) → p < length m → p < q → q < p + size_at m p → q + size_at m q ≤ p + size_at m p

pub in_more : (m : Forest) (p n : ℕ) → p < n + size_at m n → enclosing m p (suc n) ≡ suc (enclosing m p n)
in_more m p n h = let e : ◌≡◌ {A = ℕ} (cond (nat_lt p (n + size_at m n)) 1 0) 1 = cond-true (nat_lt p (n + size_at m n)) 1 0 (lt-ltb p (n + size_at m n) h) in omega (arith, e)

pub out_more : (m : Forest) (p n : ℕ) → n + size_at m n ≤ p → enclosing m p (suc n) ≡ enclosing m p n
out_more m p n h = let e : ◌≡◌ {A = ℕ} (cond (nat_lt p (n + size_at m n)) 1 0) 0 = cond-false (nat_lt p (n + size_at m n)) 1 0 (le-ltb p (n + size_at m n) h) in omega (arith, e)

-- fewer hold a later place
pub enclosing_anti : (m : Forest) (p q n : ℕ) → p ≤ q → enclosing m q n ≤ enclosing m p n
enclosing_anti m p q zero h = omega arith
enclosing_anti m p q (suc n) h =
    let ih = enclosing_anti m p q n h in
    ⊎_elim (λ a. omega (arith, in_more m q n a, in_more m p n (omega arith))) (λ a. ⊎_elim (λ b. omega (arith, out_more m q n a, in_more m p n b)) (λ b. omega (arith, out_more m q n a, out_more m p n b)) (cases_lt p (n + size_at m n))) (cases_lt q (n + size_at m n))

-- more places hold no fewer
pub enclosing_mono : (m : Forest) (q n k : ℕ) → enclosing m q n ≤ enclosing m q (n + k)
enclosing_mono m q n zero = let e : n + 0 ≡ n = omega arith in omega (arith, ap (enclosing m q) e)
enclosing_mono m q n (suc k) =
    let e : n + suc k ≡ suc (n + k) = omega arith in
    let ih = enclosing_mono m q n k in
    let s = ap (enclosing m q) e in
    ⊎_elim (λ a. omega (arith, s, ih, in_more m q (n + k) a)) (λ a. omega (arith, s, ih, out_more m q (n + k) a)) (cases_lt q ((n + k) + size_at m (n + k)))

-- what holds a place holds its subtree
pub enclosing_under : (m : Forest) → Inside m → (p q n : ℕ) → p < length m → p ≤ q → q < p + size_at m p → n ≤ p → enclosing m p n ≤ enclosing m q n
enclosing_under m s p q zero l a b h = omega arith
enclosing_under m s p q (suc n) l a b h =
    let ih = enclosing_under m s p q n l a b (omega arith) in
    ⊎_elim (λ x. omega (arith, ih, in_more m p n x, in_more m q n (omega (arith, s n p (omega arith) (omega arith) x)))) (λ x. omega (arith, ih, out_more m p n x, out_more m q n (omega arith))) (cases_lt p (n + size_at m n))

-- nothing in a subtree reaches past its end
pub enclosing_past : (m : Forest) → Inside m → (p k : ℕ) → p < length m → k ≤ size_at m p → enclosing m (p + size_at m p) (p + k) ≤ enclosing m (p + size_at m p) p
enclosing_past m s p zero l h = let e : p + 0 ≡ p = omega arith in omega (arith, ap (enclosing m (p + size_at m p)) e)
enclosing_past m s p (suc k) l h =
    let e : p + suc k ≡ suc (p + k) = omega arith in
    let ih = enclosing_past m s p k l (omega arith) in
    let inner : (p + k) + size_at m (p + k) ≤ p + size_at m p = ⊎_elim (λ z. let y : p + k ≡ p = omega arith in omega (arith, ap (size_at m) y)) (λ n. s p (p + k) l (omega (arith, n)) (omega arith)) (cases_eq k 0) in
    omega (arith, ih, ap (enclosing m (p + size_at m p)) e, out_more m (p + size_at m p) (p + k) inner)

-- a place inside a subtree is deeper than its root
pub deeper_inside : (m : Forest) → Inside m → (p q : ℕ) → p < length m → p < q → q < p + size_at m p → enclosing m p p < enclosing m q q
deeper_inside m s p q l a b =
    let (k, e) = gap p q a in
    omega (arith, enclosing_under m s p q p l (omega arith) b (omega arith), in_more m q p b, enclosing_mono m q (suc p) k, ap (enclosing m q) e)
  where
    gap : (p q : ℕ) → p < q → (k : ℕ) × (suc p + k ≡ q)
    gap p q h = (q - suc p, omega arith)

-- the place after a subtree is no deeper than its root
pub shallower_after : (m : Forest) → Inside m → (p : ℕ) → p < length m → enclosing m (p + size_at m p) (p + size_at m p) ≤ enclosing m p p
shallower_after m s p l = omega (arith, enclosing_past m s p (size_at m p) l (omega arith), enclosing_anti m p (p + size_at m p) p (omega arith))

-- a place is at most one deeper than the place before it
pub one_deeper : (m : Forest) (p : ℕ) → enclosing m (suc p) (suc p) ≤ enclosing m p p + 1
one_deeper m p =
    let a = enclosing_anti m p (suc p) p (omega arith) in
    ⊎_elim (λ h. omega (arith, a, in_more m (suc p) p h)) (λ h. omega (arith, a, out_more m (suc p) p h)) (cases_lt (suc p) (p + size_at m p))

-- every place but the first is under another
pub under_root : (m : Forest) → Sound m → (p : ℕ) → p < length m → 0 < p → 0 < enclosing m p p
under_root m s p l h = omega (arith, deeper_inside m s.inside 0 p (omega arith) h (omega (arith, s.whole)))
