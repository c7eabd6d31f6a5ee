-- The bytes that are read are exactly the books, and the first fault is found.
use Rattle.std.proofs.Common.{◌≡◌, ℕ, zero, suc, ◌+◌, ◌-◌, ◌*◌, ◌<◌, ◌≤◌, false, List, [], ◌∷◌, ◌++◌, length, get_or, take, drop, Some, None, Ok, Err, Option, Result, sym, refl, ap, ◌∙◌, subst, ⊎_elim, zero-add, arith, length-append, length-drop}
use Rattle.std.proofs.lemmas.List.{append_assoc, append-nil, take-append-drop, get_or_append_left, get_or-take, drop-take, take_at, drop_at, drop-append-le, length-take-le, nil_from_length}
use Rattle.std.proofs.lemmas.Bool.{cases_lt}
use Rattle.records.specs.Heads.{length_of, kind_of}
use Rattle.refusals.specs.declared.Cause.{Cause}
use Rattle.refusals.specs.declared.Layer.TheVariants.{Book}
use Rattle.refusals.specs.declared.Refusal.{Refusal}
use Rattle.refusals.specs.Numbers.{refused}
use Rattle.labels.specs.Entries.{Entry, Rising, first_entry, bad_length, bad_label, bad_name, fault, read_on, read_book, counted, entries}
use Rattle.labels.specs.Laws.{IsRecord, MayFollow, IsBook, empty, more, FirstFault, Judged}
use Rattle.labels.proofs.Faults.{fault_many, fault_none}
use Rattle.labels.proofs.Reading.{by_fault, read_step, read_end, fine_parts, fine_tests}
use Rattle.labels.proofs.Rules.{book_rising, follows_from, label_fine, name_fine}
use Rattle.labels.proofs.Wholes.{Parts, parts_good, name_length}

-- the head of a record that is followed by others is its own
length_of_front : (r s : List ℕ) → 6 ≤ length r → length_of (r ++ s) ≡ length_of r
length_of_front r s h =
    let a : (k : ℕ) → k < 6 → get_or (r ++ s) k 0 ≡ get_or r k 0 = λ k i. get_or_append_left r s 0 k (omega arith) in
    λ i. a 0 (omega arith) i + a 1 (omega arith) i * 256 + a 2 (omega arith) i * 65536 + a 3 (omega arith) i * 16777216

kind_of_front : (r s : List ℕ) → 6 ≤ length r → kind_of (r ++ s) ≡ kind_of r
kind_of_front r s h =
    let a : (k : ℕ) → k < 6 → get_or (r ++ s) k 0 ≡ get_or r k 0 = λ k i. get_or_append_left r s 0 k (omega arith) in
    λ i. a 4 (omega arith) i + a 5 (omega arith) i * 256

-- the entry of a record, whatever follows it
first_is : (e : Entry) (r s : List ℕ) → IsRecord e r → first_entry (r ++ s) ≡ e
first_is e r s h =
    let six : 6 ≤ length r = omega (arith, h.whole) in
    let l : kind_of (r ++ s) ≡ e.label = kind_of_front r s six ∙ h.label in
    let n : take (length_of (r ++ s) - 6) (drop 6 (r ++ s)) ≡ e.name =
    (λ i. take (length_of_front r s six i - 6) (drop-append-le 6 r s six i))
    ∙ (λ i. take (length_of r - 6) (h.name i ++ s))
    ∙ take_at e.name s (length_of r - 6) (omega (arith, h.whole, h.counts)) in
    λ i. record { label = l i; name = n i }

-- a record that may follow the entries has no fault, whatever follows it
fine_is : (es : List Entry) (e : Entry) (r s : List ℕ) → IsRecord e r → MayFollow es e → fault es (r ++ s) ≡ None
fine_is es e r s h f =
    let six : 6 ≤ length r = omega (arith, h.whole) in
    let first = first_is e r s h in
    fault_none es (r ++ s)
    (parts_good (r ++ s) (omega (arith, length_of_front r s six, h.counts)) (omega (arith, length_of_front r s six, h.counts, length-append r s)))
    (ap (λ (d : Entry). bad_label es d.label) first ∙ label_fine es e f)
    (ap (λ (d : Entry). bad_name es d.name) first ∙ name_fine es e f)
    f.room

-- reading a book leads to its entries, and goes on with what follows it
through : {es : List Entry} {ds : List ℕ} → IsBook es ds → (s : List ℕ) (n : ℕ) → read_on (length es + n) [] 0 (ds ++ s) ≡ read_on n es (length ds) s
through empty s n = ap (λ (k : ℕ). read_on k [] 0 s) (zero-add n)
through (more {es} {e} {ds} {r} {bs} b f h d) s n =
    let fuel : suc (length es) + n ≡ length es + suc n = omega arith in
    let six : 6 ≤ length r = omega (arith, h.whole) in
    let long : length_of (r ++ s) ≡ length r = length_of_front r s six ∙ h.counts in
    let sum : length ds + length_of (r ++ s) ≡ length bs = omega (arith, long, ap length d, length-append ds r) in
    (λ i. read_on (fuel i) [] 0 (d i ++ s))
    ∙ ap (read_on (length es + suc n) [] 0) (append_assoc ds r s)
    ∙ through b (r ++ s) (suc n)
    ∙ read_step n es (length ds) (r ++ s) (omega (arith, length-append r s)) (fine_is es e r s h f)
    ∙ (λ i. read_on n (first_is e r s h i ∷ es) (sum i) (drop (long i) (r ++ s)))
    ∙ ap (read_on n (e ∷ es) (length bs)) (drop_at r s (length r) refl)

-- there are no more entries than bytes
book_long : {es : List Entry} {bs : List ℕ} → IsBook es bs → length es ≤ length bs
book_long empty = omega arith
book_long (more {es} {e} {ds} {r} {bs} b f h d) = omega (arith, book_long b, h.whole, ap length d, length-append ds r)

-- a book is read as its entries
pub reads : (es : List Entry) (bs : List ℕ) → IsBook es bs → read_book bs ≡ Ok es
reads es bs b =
    let fuel : length bs ≡ length es + (length bs - length es) = omega (arith, book_long b) in
    (λ i. read_on (fuel i) [] 0 (sym (append-nil bs) i))
    ∙ through b [] (length bs - length es)
    ∙ read_end (length bs - length es) es (length bs)

-- the front of whole bytes is the record of their first entry
record_is : (bs : List ℕ) → Parts bs → IsRecord (first_entry bs) (take (length_of bs) bs)
record_is bs p =
    let n = length_of bs in
    let long : length (take n bs) ≡ n = length-take-le n bs p.fits in
    let a : (k : ℕ) → k < 6 → get_or (take n bs) k 0 ≡ get_or bs k 0 = λ k i. get_or-take n bs k 0 (omega (arith, p.least)) in
    let rest : n ≡ 6 + (n - 6) = omega (arith, p.least) in
    record {
      whole = long ∙ sym (name_length bs p);
      counts = (λ i. a 0 (omega arith) i + a 1 (omega arith) i * 256 + a 2 (omega arith) i * 65536 + a 3 (omega arith) i * 16777216) ∙ sym long;
      label = λ i. a 4 (omega arith) i + a 5 (omega arith) i * 256;
      name = ap (λ (k : ℕ). drop 6 (take k bs)) rest ∙ drop-take 6 (n - 6) bs;
    }

some_none : {c : Cause} (o : Option Cause) → o ≡ Some c → o ≡ None → ⊥
some_none o h k = cc

-- an entry whose record has no fault may follow
fine_follows : (es : List Entry) (bs : List ℕ) → Rising es → fault es bs ≡ None → MayFollow es (first_entry bs)
fine_follows es bs r f =
    let long : bad_length bs ≡ false = let p = fine_parts es bs f in parts_good bs p.least p.fits in
    let (l, n) = fine_tests es bs f in
    ⊎_elim (λ room. follows_from es (first_entry bs) r room l n) (λ t. absurd (some_none (fault es bs) (fault_many es bs long l n t) f))
    (cases_lt (length es) 4096)

-- what reading comes to: a book, or a first fault if there is no book
abbrev pub Outcome : List ℕ → Result (List Entry) Refusal → Type 0
Outcome bs (Ok es) = IsBook es bs
Outcome bs (Err f) = ((fs : List Entry) → IsBook fs bs → ⊥) → FirstFault bs f

judge_on : (n : ℕ) (es : List Entry) (i : ℕ) (ds rest all : List ℕ) → length rest ≤ n → IsBook es ds → i ≡ length ds → all ≡ ds ++ rest → Outcome all (read_on n es i rest)
judge_on zero es i ds rest all h b e s = subst (IsBook es) (sym (s ∙ ap (λ (r : List ℕ). ds ++ r) (nil_from_length rest (omega arith)) ∙ append-nil ds)) b
judge_on (suc n) es i ds [] all h b e s = subst (IsBook es) (sym (s ∙ append-nil ds)) b
judge_on (suc n) es i ds (x ∷ xs) all h b e s =
    let r : List ℕ = x ∷ xs in
    let go : (f : Option Cause) → fault es r ≡ f → Outcome all (by_fault n es i r f) = λ f.
    elim f as (λ g. fault es r ≡ g → Outcome all (by_fault n es i r g)) [
      | None ↦ λ k.
          let p = fine_parts es r k in
          let l = length_of r in
          judge_on n (first_entry r ∷ es) (i + l) (ds ++ take l r) (drop l r) all
          (omega (arith, length-drop l r, p.least))
          (more b (fine_follows es r (book_rising b) k) (record_is r p) refl)
          (omega (arith, length-append ds (take l r), length-take-le l r p.fits))
          (s ∙ ap (λ (t : List ℕ). ds ++ t) (sym (take-append-drop l r)) ∙ sym (append_assoc ds (take l r) (drop l r)))
      | Some c ↦ λ k none. record { before = es; front = ds; rest = r; cause = c; split = s; book = b; wrong = k; said = ap (λ (j : ℕ). refused c Book j 0) e; none = none }
    ] in
    go (fault es r) refl

pub outcome : (bs : List ℕ) → Outcome bs (read_book bs)
outcome bs = judge_on (length bs) [] 0 [] bs bs (omega arith) empty refl refl

-- bytes that are refused are no book
pub no_book : (bs : List ℕ) (f : Refusal) → read_book bs ≡ Err f → (fs : List Entry) → IsBook fs bs → ⊥
no_book bs f k fs d = let wrong : Ok fs ≡ Err f = sym (reads fs bs d) ∙ k in cc

abbrev entries_in : Result (List Entry) Refusal → List Entry
entries_in (Ok es) = es
entries_in (Err f) = []

-- what the check answers is right
pub judged : (bs : List ℕ) → Judged bs (counted (read_book bs))
judged bs =
    let go : (r : Result (List Entry) Refusal) → read_book bs ≡ r → Outcome bs r → Judged bs (counted r) = λ r.
    elim r as (λ q. read_book bs ≡ q → Outcome bs q → Judged bs (counted q)) [
      | Ok es ↦ λ k b. (es, b, refl, λ fs d. ap entries_in (sym (reads fs bs d) ∙ k))
      | Err f ↦ λ k o. o (no_book bs f k)
    ] in
    go (read_book bs) refl (outcome bs)

-- the entries of any bytes rise
pub entries_rise : (bs : List ℕ) → Rising (entries bs)
entries_rise bs =
    let go : (r : Result (List Entry) Refusal) → Outcome bs r → Rising (elim r [ Ok es ↦ es | Err f ↦ [] ]) = λ r.
    elim r as (λ q. Outcome bs q → Rising (elim q [ Ok es ↦ es | Err f ↦ [] ])) [ Ok es ↦ λ b. book_rising b | Err f ↦ λ o. tt ] in
    go (read_book bs) (outcome bs)
