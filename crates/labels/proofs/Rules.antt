-- The tests of names and labels say what the rules of books say.
use Rattle.std.proofs.Common.{◌≡◌, ℕ, ◌<◌, ◌≤◌, true, false, not, eqb, ltb, leb, List, [], ◌∷◌, length, is_some, sym, refl, ap, ◌∙◌, arith}
use Rattle.std.proofs.lemmas.Bool.{true≢false, and_parts, and_from, ltb-true, lt-ltb, leb-true, le-leb, not-true, not-false, not_from_false, not_from_true, eqb-false, ne_eqb, ltb-false, le-ltb, or_parts, or_from}
use Rattle.std.proofs.ByRecursion.{All-weaker}
use Rattle.std.specs.List.{AllByRecursion, list_all}
use Rattle.labels.specs.Entries.{Entry, Rising, name_byte, good_name, label_of, above_last, bad_label, bad_name}
use Rattle.labels.specs.Laws.{GoodName, MayFollow, IsBook, empty, more}
use Rattle.labels.proofs.Chains.{other_name, same_name}

-- a byte of a name
abbrev Byte : ℕ → Type 0
Byte b = (33 ≤ b) × (b ≤ 126) × (b ≡ 39 → ⊥)

byte_from : (b : ℕ) → name_byte b ≡ true → Byte b
byte_from b h =
    let (x, k) = and_parts (leb 33 b) _ h in
    let (y, z) = and_parts (leb b 126) (not (eqb b 39)) k in
    (leb-true 33 b x, leb-true b 126 y, eqb-false b 39 (not-true (eqb b 39) z))

byte_to : (b : ℕ) → Byte b → name_byte b ≡ true
byte_to b h = and_from (leb 33 b) _ (le-leb 33 b h.0) (and_from (leb b 126) (not (eqb b 39)) (le-leb b 126 h.1) (not_from_false (eqb b 39) (ne_eqb b 39 h.2)))

bytes_from : (n : List ℕ) → list_all name_byte n ≡ true → AllByRecursion Byte n
bytes_from [] h = tt
bytes_from (b ∷ n) h = let (x, y) = and_parts (name_byte b) (list_all name_byte n) h in (byte_from b x, bytes_from n y)

bytes_to : (n : List ℕ) → AllByRecursion Byte n → list_all name_byte n ≡ true
bytes_to [] h = refl
bytes_to (b ∷ n) h = and_from (name_byte b) (list_all name_byte n) (byte_to b h.0) (bytes_to n h.1)

pub good_from : (n : List ℕ) → good_name n ≡ true → GoodName n
good_from n h =
    let (x, k) = and_parts (ltb 0 (length n)) _ h in
    let (y, z) = and_parts (leb (length n) 64) (list_all name_byte n) k in
    record { some = ltb-true 0 (length n) x; short = leb-true (length n) 64 y; bytes = bytes_from n z }

pub good_to : (n : List ℕ) → GoodName n → good_name n ≡ true
good_to n h = and_from (ltb 0 (length n)) _ (lt-ltb 0 (length n) h.some) (and_from (leb (length n) 64) (list_all name_byte n) (le-leb (length n) 64 h.short) (bytes_to n h.bytes))

-- a name that can follow is short
pub short_name : (es : List Entry) (n : List ℕ) → bad_name es n ≡ false → length n ≤ 64
short_name es n h =
    let (z, w) = or_parts (not (good_name n)) (is_some (label_of es n)) h in
    (good_from n (not-false (good_name n) z)).short

-- a name that none of the entries has
pub new_from : (es : List Entry) (n : List ℕ) → is_some (label_of es n) ≡ false → AllByRecursion (λ (d : Entry). d.name ≡ n → ⊥) es
new_from [] n h = tt
new_from (e ∷ es) n h =
    let d : e.name ≡ n → ⊥ = λ k. true≢false (sym (ap is_some (same_name e es n k)) ∙ h) in
    (d, new_from es n (sym (ap is_some (other_name e es n d)) ∙ h))

pub new_to : (es : List Entry) (n : List ℕ) → AllByRecursion (λ (d : Entry). d.name ≡ n → ⊥) es → is_some (label_of es n) ≡ false
new_to [] n h = refl
new_to (e ∷ es) n h = ap is_some (other_name e es n h.0) ∙ new_to es n h.1

pub book_rising : {es : List Entry} {bs : List ℕ} → IsBook es bs → Rising es
book_rising empty = tt
book_rising (more b f r s) = (f.above, book_rising b)

-- above the last label is above all
above_from : (es : List Entry) (l : ℕ) → Rising es → above_last es l ≡ true → AllByRecursion (λ (d : Entry). d.label < l) es
above_from [] l r h = tt
above_from (e ∷ es) l r h = (ltb-true e.label l h, All-weaker (λ (d : Entry). d.label < e.label) (λ (d : Entry). d.label < l) (λ d k. omega (arith, ltb-true e.label l h)) es r.0)

above_to : (es : List Entry) (l : ℕ) → AllByRecursion (λ (d : Entry). d.label < l) es → above_last es l ≡ true
above_to [] l h = refl
above_to (e ∷ es) l h = lt-ltb e.label l h.0

-- the tests of a label and of a name, together
pub follows_from : (es : List Entry) (e : Entry) → Rising es → length es < 4096 → bad_label es e.label ≡ false → bad_name es e.name ≡ false → MayFollow es e
follows_from es e r room l n =
    let (x, y) = or_parts (ltb 32767 e.label) (not (above_last es e.label)) l in
    let (z, w) = or_parts (not (good_name e.name)) (is_some (label_of es e.name)) n in
    record {
      room = room;
      small = omega (arith, ltb-false 32767 e.label x);
      above = above_from es e.label r (not-false (above_last es e.label) y);
      good = good_from e.name (not-false (good_name e.name) z);
      new = new_from es e.name w;
    }

pub label_fine : (es : List Entry) (e : Entry) → MayFollow es e → bad_label es e.label ≡ false
label_fine es e f = or_from (ltb 32767 e.label) (not (above_last es e.label)) (le-ltb 32767 e.label (omega (arith, f.small))) (not_from_true (above_last es e.label) (above_to es e.label f.above))

pub name_fine : (es : List Entry) (e : Entry) → MayFollow es e → bad_name es e.name ≡ false
name_fine es e f = or_from (not (good_name e.name)) (is_some (label_of es e.name)) (not_from_true (good_name e.name) (good_to e.name f.good)) (new_to es e.name f.new)
