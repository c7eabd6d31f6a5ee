-- The ends of the open subtrees, and the ends around a place.
use Rattle.std.specs.Prelude.{◌≡◌, ℕ, zero, suc, ◌+◌, ◌<◌, ◌≤◌, cond, List, [], ◌∷◌, length, nat_lt, refl}
use Rattle.std.proofs.Common.{ap, sym, ◌∙◌, ⊎_elim, arith, add-one}
use Rattle.std.proofs.lemmas.Bool.{cases_lt, cases_eq, lt-ltb, le-ltb, cond-true, cond-false}
use Rattle.trees.specs.Forest.{Forest, size_at, enclosing}
use Rattle.trees.specs.Images.{around, inner_end}
use Rattle.trees.specs.Opened.{popped}
use Rattle.trees.specs.Enclosing.{in_more, out_more}

keep : (p e : ℕ) (es : List ℕ) → p < e → popped p (e ∷ es) ≡ e ∷ es
keep p e es h = cond-true (nat_lt p e) (e ∷ es) (popped p es) (lt-ltb p e h)

pop : (p e : ℕ) (es : List ℕ) → e ≤ p → popped p (e ∷ es) ≡ popped p es
pop p e es h = cond-false (nat_lt p e) (e ∷ es) (popped p es) (le-ltb p e h)

popped_twice : (p j : ℕ) (es : List ℕ) → p ≤ j → popped j (popped p es) ≡ popped j es
popped_twice p j [] h = refl
popped_twice p j (e ∷ es) h =
    ⊎_elim (λ a. ap (popped j) (keep p e es a)) (λ a. ap (popped j) (pop p e es a) ∙ popped_twice p j es h ∙ sym (pop j e es (omega arith))) (cases_lt p e)

pub around_in : (m : Forest) (p n : ℕ) → p < n + size_at m n → around m p (suc n) ≡ (n + size_at m n) ∷ around m p n
around_in m p n h = cond-true (nat_lt p (n + size_at m n)) _ _ (lt-ltb p (n + size_at m n) h)

pub around_out : (m : Forest) (p n : ℕ) → n + size_at m n ≤ p → around m p (suc n) ≡ around m p n
around_out m p n h = cond-false (nat_lt p (n + size_at m n)) _ _ (le-ltb p (n + size_at m n) h)

pub around_length : (m : Forest) (p n : ℕ) → length (around m p n) ≡ enclosing m p n
around_length m p zero = refl
around_length m p (suc n) =
    let ih = around_length m p n in
    ⊎_elim (λ h. omega (arith, ih, ap length (around_in m p n h), in_more m p n h)) (λ h. omega (arith, ih, ap length (around_out m p n h), out_more m p n h)) (cases_lt p (n + size_at m n))

-- the ends depend on the sizes alone
pub around_sized : (m t : Forest) → ((q : ℕ) → size_at t q ≡ size_at m q) → (p n : ℕ) → around t p n ≡ around m p n
around_sized m t z p zero = refl
around_sized m t z p (suc n) = let a : around t p n ≡ around m p n = around_sized m t z p n in λ i. cond (nat_lt p (n + z n i)) ((n + z n i) ∷ a i) (a i)

-- the subtrees before place n end inside those around them
abbrev pub Nested : Forest → ℕ → Type 0
Nested m n = (p q : ℕ) → q < n → p < q → q < p + size_at m p → q + size_at m q ≤ p + size_at m p

-- the innermost end is the least
pub inner_least : (m : Forest) (w n k a : ℕ) → Nested m n → k ≤ n → a < k → n < a + size_at m a → inner_end w (around m n k) ≤ a + size_at m a
inner_least m w n zero a s h b l = absurd (omega arith)
inner_least m w n (suc k) a s h b l = ⊎_elim
    (λ x. let e = ap (inner_end w) (around_in m n k x) in ⊎_elim (λ z. omega (arith, e, ap (size_at m) z)) (λ z. omega (arith, e, s a k (omega arith) (omega (arith, z)) (omega arith))) (cases_eq a k))
    (λ x. let e = ap (inner_end w) (around_out m n k x) in ⊎_elim (λ z. absurd (omega (arith, ap (size_at m) z))) (λ z. omega (arith, e, inner_least m w n k a s (omega arith) (omega (arith, z)) l)) (cases_eq a k))
    (cases_lt n (k + size_at m k))

-- the next place ends inside the subtrees around it, if it ends inside the innermost
pub nested_more : (m : Forest) (w n : ℕ) → Nested m n → n + size_at m n ≤ inner_end w (around m n n) → Nested m (n + 1)
nested_more m w n s h p q l a b = ⊎_elim
    (λ e. omega (arith, ap (size_at m) e, inner_least m w n n p s (omega arith) (omega arith) (omega arith)))
    (λ e. s p q (omega (arith, e)) a b)
    (cases_eq q n)

-- what is around a place is around its subtree
pub around_under : (m : Forest) (p q n : ℕ) → Nested m (p + 1) → p ≤ q → q < p + size_at m p → n ≤ p → around m q n ≡ around m p n
around_under m p q zero s a b h = refl
around_under m p q (suc n) s a b h =
    let ih = around_under m p q n s a b (omega arith) in
    ⊎_elim
    (λ x. around_in m q n (omega (arith, s n p (omega arith) (omega arith) x)) ∙ ap (λ es. (n + size_at m n) ∷ es) ih ∙ sym (around_in m p n x))
    (λ x. around_out m q n (omega arith) ∙ ih ∙ sym (around_out m p n x))
    (cases_lt p (n + size_at m n))

-- some ends are, at each later place, the ends around it of the subtrees before place p
abbrev pub Opened : Forest → ℕ → List ℕ → Type 0
Opened m p es = (q : ℕ) → p ≤ q → popped q es ≡ around m q p

-- the step of the walk
pub opened_more : (m : Forest) (p e : ℕ) (es fs : List ℕ) → Nested m (p + 1) → Opened m p es → fs ≡ popped p es → e ≡ p + size_at m p → Opened m (p + 1) (e ∷ fs)
opened_more m p e es fs s o f z q h =
    let to : around m q (suc p) ≡ around m q (p + 1) = ap (around m q) (sym (add-one p)) in
    let whole : popped q (e ∷ fs) ≡ popped q ((p + size_at m p) ∷ popped p es) = λ i. popped q (z i ∷ f i) in
    whole ∙ ⊎_elim
    (λ l. keep q (p + size_at m p) (popped p es) l ∙ ap (λ gs. (p + size_at m p) ∷ gs) (o p (omega arith) ∙ sym (around_under m p q p s (omega arith) l (omega arith))) ∙ sym (around_in m q p l))
    (λ l. pop q (p + size_at m p) (popped p es) l ∙ popped_twice p q es (omega arith) ∙ o q (omega arith) ∙ sym (around_out m q p l))
    (cases_lt q (p + size_at m p)) ∙ to
