-- The head that is read at a place of an image, and the bytes of a label.
use Rattle.std.proofs.Common.{◌≡◌, ℕ, zero, suc, ◌+◌, ◌*◌, ◌/◌, ◌%◌, ◌<◌, ◌≤◌, List, [], ◌∷◌, length, get_or, take, drop, Some, None, Option, MatchOption, sym, refl, ap, ◌∙◌, subst, arith, drop-drop}
use Rattle.std.specs.Option.{IsSome}
use Rattle.std.specs.Simd.{first_chunks}
use Rattle.std.proofs.lemmas.Bool.{cond-false, le-ltb}
use Rattle.std.proofs.lemmas.List.{get_or-take, get_or-drop, length-take-le, length-drop}
use Rattle.records.specs.declared.Head.{Head}
use Rattle.records.specs.Heads.{head_of, length_of, kind_of}
use Rattle.trees.specs.Images.{length_in, label_in}

pub chunk_at : (bs : List ℕ) (n p : ℕ) → p < n → get_or (first_chunks 6 n bs) p [] ≡ take 6 (drop (6 * p) bs)
chunk_at bs zero p h = absurd (omega arith)
chunk_at bs (suc n) zero h = refl
chunk_at bs (suc n) (suc p) h =
    let e : 6 + 6 * p ≡ 6 * suc p = omega arith in
    chunk_at (drop 6 bs) n p (omega arith) ∙ ap (take 6) (drop-drop (6 * p) 6 bs ∙ ap (λ (i : ℕ). drop i bs) e)

-- a byte of the record
byte_at : (bs rec : List ℕ) (p k : ℕ) → k < 6 → rec ≡ take 6 (drop (6 * p) bs) → get_or rec k 0 ≡ get_or bs (6 * p + k) 0
byte_at bs rec p k h e = ap (λ xs. get_or xs k 0) e ∙ get_or-take 6 (drop (6 * p) bs) k 0 h ∙ get_or-drop (6 * p) bs k 0

abbrev pub HeadAt : List ℕ → ℕ → Head → Type 0
HeadAt bs p head = (6 * p + 6 ≤ length bs) × (head.length ≡ length_in bs p) × (head.kind ≡ label_in bs p)

pub head_found : (bs rec : List ℕ) (p : ℕ) (r : Option Head) → p < length bs / 6 → rec ≡ take 6 (drop (6 * p) bs) → r ≡ head_of rec → MatchOption r (length bs < 6 * p + 6) (HeadAt bs p)
head_found bs rec p r h e f =
    let room : 6 * p + 6 ≤ length bs = omega arith in
    let long : length rec ≡ 6 = ap length e ∙ length-take-le 6 (drop (6 * p) bs) (omega (arith, length-drop (6 * p) bs)) in
    let b₀ = byte_at bs rec p 0 (omega arith) e in
    let z : 6 * p + 0 ≡ 6 * p = omega arith in
    let b₁ = byte_at bs rec p 1 (omega arith) e in
    let b₂ = byte_at bs rec p 2 (omega arith) e in
    let b₃ = byte_at bs rec p 3 (omega arith) e in
    let b₄ = byte_at bs rec p 4 (omega arith) e in
    let b₅ = byte_at bs rec p 5 (omega arith) e in
    let a : length_of rec ≡ length_in bs p = omega (arith, ap (λ i. get_or bs i 0) z) in
    let k : kind_of rec ≡ label_in bs p = omega arith in
    let s : r ≡ Some (record { length = length_of rec; kind = kind_of rec }) = f ∙ cond-false _ None (Some (record { length = length_of rec; kind = kind_of rec })) (le-ltb (length rec) 6 (omega arith)) in
    subst (λ o. MatchOption o (length bs < 6 * p + 6) (HeadAt bs p)) (sym s) (room, a, k)

-- a place inside the bytes has a head
pub some_head : (bs : List ℕ) (p : ℕ) (r : Option Head) → p < length bs / 6 → MatchOption r (length bs < 6 * p + 6) (HeadAt bs p) → IsSome r
some_head bs p None h m = absurd (omega arith)
some_head bs p (Some head) h m = refl

-- a label is told by its two bytes
pub label_bytes : (bytes : List ℕ) (l : ℕ) → l < 32768 → bytes ≡ l % 256 ∷ l / 256 % 256 ∷ [] → (get_or bytes 0 0 < 256) × (get_or bytes 0 0 + 256 * get_or bytes 1 0 ≡ l)
label_bytes bytes l h e =
    let low : get_or bytes 0 0 ≡ l % 256 = ap (λ xs. get_or xs 0 0) e in
    let high : get_or bytes 1 0 ≡ l / 256 % 256 = ap (λ xs. get_or xs 1 0) e in
    (omega arith, omega arith)
