-- One record after the other, as `read-on` has it.
use Rattle.std.proofs.Common.{◌≡◌, ℕ, zero, suc, ◌+◌, ◌-◌, ◌*◌, ◌<◌, ◌≤◌, false, subst, length-drop, List, [], ◌∷◌, length, drop, Some, None, Ok, Err, Option, Result, sym, refl, ap, ◌∙◌, ⊎_elim, arith}
use Rattle.std.proofs.lemmas.Bool.{cases_Bool}
use Rattle.std.proofs.lemmas.List.{drop-drop, drop_all}
use Rattle.records.specs.Heads.{length_of}
use Rattle.refusals.specs.declared.Cause.{Cause}
use Rattle.refusals.specs.declared.Cause.TheVariants.{BadLength, BadLabel, BadName}
use Rattle.refusals.specs.declared.Layer.TheVariants.{Book}
use Rattle.refusals.specs.declared.Refusal.{Refusal}
use Rattle.refusals.specs.Numbers.{refused}
use Rattle.labels.specs.Entries.{Entry, first_entry, bad_length, bad_label, bad_name, fault, read_on, read_book, pairs}
use Rattle.labels.proofs.Faults.{fault_length, fault_label, fault_name}
use Rattle.labels.proofs.Rules.{short_name}
use Rattle.labels.proofs.Wholes.{Parts, good_parts, parts_good, name_length}

-- what `read-on` does by the fault of the first record
abbrev pub by_fault : ℕ → List Entry → ℕ → List ℕ → Option Cause → Result (List Entry) Refusal
by_fault n es i bs f = elim f [ None ↦ read_on n (first_entry bs ∷ es) (i + length_of bs) (drop (length_of bs) bs) | Some c ↦ Err (refused c Book i 0) ]

pub read_step : (n : ℕ) (es : List Entry) (i : ℕ) (bs : List ℕ) → 0 < length bs → fault es bs ≡ None → read_on (suc n) es i bs ≡ read_on n (first_entry bs ∷ es) (i + length_of bs) (drop (length_of bs) bs)
read_step n es i [] h f = absurd (omega arith)
read_step n es i (b ∷ bs) h f = ap (by_fault n es i (b ∷ bs)) f

pub read_fault : (n : ℕ) (es : List Entry) (i : ℕ) (bs : List ℕ) (c : Cause) → 0 < length bs → fault es bs ≡ Some c → read_on (suc n) es i bs ≡ Err (refused c Book i 0)
read_fault n es i [] c h f = absurd (omega arith)
read_fault n es i (b ∷ bs) c h f = ap (by_fault n es i (b ∷ bs)) f

pub read_end : (n : ℕ) (es : List Entry) (i : ℕ) → read_on n es i [] ≡ Ok es
read_end zero es i = refl
read_end (suc n) es i = refl

-- a record with no fault is whole
pub fine_parts : (es : List Entry) (bs : List ℕ) → fault es bs ≡ None → Parts bs
fine_parts es bs f = ⊎_elim
    (λ t. let wrong : Some BadLength ≡ None = sym (fault_length es bs t) ∙ f in cc)
    (λ g. good_parts bs g)
    (cases_Bool (bad_length bs))

-- and its label and its name can follow
pub fine_tests : (es : List Entry) (bs : List ℕ) → fault es bs ≡ None → (bad_label es (first_entry bs).label ≡ false) × (bad_name es (first_entry bs).name ≡ false)
fine_tests es bs f =
    let p = fine_parts es bs f in
    let long = parts_good bs p.least p.fits in
    ⊎_elim (λ t. let wrong : Some BadLabel ≡ None = sym (fault_label es bs long t) ∙ f in cc) (λ l.
    ⊎_elim (λ t. let wrong : Some BadName ≡ None = sym (fault_name es bs long l t) ∙ f in cc) (λ n. (l, n))
    (cases_Bool (bad_name es (first_entry bs).name)))
    (cases_Bool (bad_label es (first_entry bs).label))

-- so it is short
fine_short : (es : List Entry) (bs : List ℕ) → fault es bs ≡ None → length_of bs ≤ 70
fine_short es bs f = omega (arith, name_length bs (fine_parts es bs f), short_name es (first_entry bs).name (fine_tests es bs f).1)

-- a book is read up to the byte i, with these entries, of which each takes at most 70 bytes
pub record Underway (bs : List ℕ) (es : List Entry) (i : ℕ) : Type 0 where
  pub within : i ≤ length bs
  pub few : length es ≤ i
  pub near : i ≤ 70 * length es
  pub left : read_book bs ≡ read_on (length bs - length es) es i (drop i bs)

pub sets_out : (bs : List ℕ) (es : List Entry) → es ≡ [] → Underway bs es 0
sets_out bs es e =
    let all : length bs ≡ length bs - 0 = omega arith in
    subst (λ (xs : List Entry). Underway bs xs 0) (sym e) (record { within = omega arith; few = omega arith; near = omega arith; left = ap (λ (k : ℕ). read_on k [] 0 bs) all })

pub goes_on : (bs : List ℕ) (es fs : List Entry) (i j : ℕ) → Underway bs es i → i < length bs → fault es (drop i bs) ≡ None → fs ≡ first_entry (drop i bs) ∷ es → j ≡ i + length_of (drop i bs) → Underway bs fs j × (i < j)
goes_on bs es fs i j u h f m n =
    let rest = drop i bs in
    let parts = fine_parts es rest f in
    let more : length fs ≡ suc (length es) = ap length m in
    let fuel : length bs - length es ≡ suc (length bs - length fs) = omega (arith, more, u.few, h) in (
      record {
        within = omega (arith, n, parts.fits, length-drop i bs, h);
        few = omega (arith, n, parts.least, more, u.few);
        near = omega (arith, n, fine_short es rest f, more, u.near);
        left = u.left
            ∙ ap (λ (k : ℕ). read_on k es i rest) fuel
            ∙ read_step (length bs - length fs) es i rest (omega (arith, length-drop i bs, h)) f
            ∙ ap (λ (xs : List Entry). read_on (length bs - length fs) xs (i + length_of rest) (drop (length_of rest) rest)) (sym m)
            ∙ ap (read_on (length bs - length fs) fs (i + length_of rest)) (drop-drop (length_of rest) i bs)
            ∙ ap (λ (k : ℕ). read_on (length bs - length fs) fs k (drop k bs)) (sym n);
      },
      omega (arith, n, parts.least),
    )

pub stops : (bs : List ℕ) (es : List Entry) (i : ℕ) (c : Cause) → Underway bs es i → i < length bs → fault es (drop i bs) ≡ Some c → read_book bs ≡ Err (refused c Book i 0)
stops bs es i c u h f =
    let fuel : length bs - length es ≡ suc (length bs - suc (length es)) = omega (arith, u.few, h) in
    u.left ∙ ap (λ (k : ℕ). read_on k es i (drop i bs)) fuel ∙ read_fault (length bs - suc (length es)) es i (drop i bs) c (omega (arith, length-drop i bs, h)) f

pub arrives : (bs : List ℕ) (es : List Entry) (i : ℕ) → Underway bs es i → length bs ≤ i → read_book bs ≡ Ok es
arrives bs es i u h = u.left ∙ ap (read_on (length bs - length es) es i) (drop_all i bs h) ∙ read_end (length bs - length es) es i

-- pairs tell entries
pub pairs_tell : (es fs : List Entry) → pairs es ≡ pairs fs → es ≡ fs
pairs_tell [] [] h = refl
pairs_tell [] (f ∷ fs) h = cc
pairs_tell (e ∷ es) [] h = cc
pairs_tell (e ∷ es) (f ∷ fs) h =
    let d : ◌≡◌ {A = ℕ × List ℕ} (e.label, e.name) (f.label, f.name) = cc in
    let r : pairs es ≡ pairs fs = cc in
    let s : es ≡ fs = pairs_tell es fs r in
    λ i. record { label = (d i).0; name = (d i).1 } ∷ s i
