-- The nodes of an image, what it says of bytes that they are accepted, and that their nodes keep the law of trees.
use Rattle.std.specs.Prelude.{◌≡◌, ℕ, zero, suc, ◌+◌, ◌*◌, ◌/◌, ◌%◌, ◌<◌, ◌≤◌, true, false, ◌&&◌, ◌||◌, List, length, is_ok, Some, None, Ok, Err, ◌==◌, nat_lt, slice_index_or}
use Rattle.std.proofs.Common.{ap, sym, subst, ◌∙◌, ⊎_elim, arith, add-one}
use Rattle.std.proofs.lemmas.List.FromFn.{length-map-range_with_len, get_or-map-range_with_len}
use Rattle.std.proofs.lemmas.List.{get_or_past}
use Rattle.std.proofs.lemmas.Bool.{cases_lt, ltb-false, le-ltb, eqb-false, ne_eqb, eq-eqb, and_cases, or_parts, or_from, cond-true, cond-false}
use Rattle.refusals.specs.declared.Cause.{Cause}
use Rattle.refusals.specs.declared.Cause.TheVariants.{OneTree, BadLength, BadLabel, TooMany}
use Rattle.refusals.specs.declared.Layer.TheVariants.{Image}
use Rattle.refusals.specs.Numbers.{refused}
use Rattle.trees.specs.Forest.{Forest, Law, no_node, size_at, label_at, enclosing}
use Rattle.trees.specs.Scan.{scan}
use Rattle.trees.specs.Images.{length_in, label_in, node_in, image_nodes, around, inner_end, place_fault, image_fault, image_answer}
use Rattle.trees.specs.Scans.{Clean, scan_all, scan_first, clean}
use Rattle.trees.specs.Faults.{no_fault, not_two}
use Rattle.trees.specs.Enclosing.{Inside, shallower_after}
use Rattle.trees.specs.Opens.{Nested, nested_more, around_length}

pub many : (bs : List ℕ) → length (image_nodes bs) ≡ length bs / 6
many bs = length-map-range_with_len (node_in bs) 0 (length bs / 6)

pub at : (bs : List ℕ) (p : ℕ) → p < length bs / 6 → slice_index_or (image_nodes bs) p no_node ≡ node_in bs p
at bs p h = get_or-map-range_with_len (node_in bs) 0 (length bs / 6) p p no_node h (omega arith)

pub size_read : (bs : List ℕ) (p : ℕ) → p < length bs / 6 → size_at (image_nodes bs) p ≡ length_in bs p / 6
size_read bs p h = ap (λ a. a.size) (at bs p h)

pub label_read : (bs : List ℕ) (p : ℕ) → p < length bs / 6 → label_at (image_nodes bs) p ≡ label_in bs p
label_read bs p h = ap (λ a. a.label) (at bs p h)

-- nothing is wrong with a record
pub record Fit (bs : List ℕ) (p depth end : ℕ) : Type 0 where
  pub one : 0 < p → 0 < depth
  pub room : 6 * p + 6 ≤ length bs
  pub some : 6 ≤ length_in bs p
  pub within : p + length_in bs p / 6 ≤ end
  pub even : length_in bs p % 6 ≡ 0
  pub small : label_in bs p < 32768
  pub few : p < 4096
  pub low : depth < 64

pub fit : (bs : List ℕ) (p depth end : ℕ) → place_fault bs p depth end ≡ None → Fit bs p depth end
fit bs p depth end h =
    let n = length_in bs p in
    let a = no_fault (nat_lt 0 p && depth == 0) OneTree _ h in
    let b = no_fault (nat_lt (length bs) (6 * p + 6)) BadLength _ a.1 in
    let c = no_fault (nat_lt n 6 || (nat_lt end (p + n / 6) || nat_lt 0 (n % 6))) BadLength _ b.1 in
    let d = no_fault (nat_lt 32767 (label_in bs p)) BadLabel _ c.1 in
    let e = no_fault (nat_lt 4095 p || nat_lt 63 depth) TooMany None d.1 in
    let f = or_parts (nat_lt n 6) (nat_lt end (p + n / 6) || nat_lt 0 (n % 6)) c.0 in
    let g = or_parts (nat_lt end (p + n / 6)) (nat_lt 0 (n % 6)) f.1 in
    let k = or_parts (nat_lt 4095 p) (nat_lt 63 depth) e.0 in
    record {
      one = λ l. ⊎_elim (λ z. absurd (omega (arith, ltb-false 0 p z))) (λ z. let y = eqb-false depth 0 z in omega (arith, y)) (and_cases (nat_lt 0 p) (depth == 0) a.0);
      room = ltb-false (length bs) (6 * p + 6) b.0;
      some = ltb-false n 6 f.0;
      within = ltb-false end (p + n / 6) g.0;
      even = omega (arith, ltb-false 0 (n % 6) g.1);
      small = omega (arith, ltb-false 32767 (label_in bs p) d.0);
      few = omega (arith, ltb-false 4095 p k.0);
      low = omega (arith, ltb-false 63 depth k.1);
    }

pub faultless : (bs : List ℕ) (p depth end : ℕ) → Fit bs p depth end → place_fault bs p depth end ≡ None
faultless bs p depth end f =
    let n = length_in bs p in
    cond-false (nat_lt 0 p && depth == 0) _ _ (not_two p depth f.one)
    ∙ cond-false (nat_lt (length bs) (6 * p + 6)) _ _ (le-ltb (length bs) (6 * p + 6) f.room)
    ∙ cond-false (nat_lt n 6 || (nat_lt end (p + n / 6) || nat_lt 0 (n % 6))) _ _ (or_from (nat_lt n 6) _ (le-ltb n 6 f.some) (or_from (nat_lt end (p + n / 6)) (nat_lt 0 (n % 6)) (le-ltb end (p + n / 6) f.within) (le-ltb 0 (n % 6) (omega (arith, f.even)))))
    ∙ cond-false (nat_lt 32767 (label_in bs p)) _ _ (le-ltb 32767 (label_in bs p) (omega (arith, f.small)))
    ∙ cond-false (nat_lt 4095 p || nat_lt 63 depth) _ _ (or_from (nat_lt 4095 p) (nat_lt 63 depth) (le-ltb 4095 p (omega (arith, f.few))) (le-ltb 63 depth (omega (arith, f.low))))

-- nothing is wrong with the record of a place
abbrev pub FitsAt : List ℕ → ℕ → Type 0
FitsAt bs p = Fit bs p (length (around (image_nodes bs) p p)) (inner_end (length bs / 6) (around (image_nodes bs) p p))

some_bytes : (bs : List ℕ) → 0 < length bs → image_answer bs ≡ scan (image_fault bs) (λ p c. refused c Image (6 * p) 0) 0 ((length bs + 5) / 6)
some_bytes bs h = cond-false (length bs == 0) _ _ (ne_eqb (length bs) 0 (λ e. omega arith))

pub image_stops : (bs : List ℕ) (p : ℕ) (c : Cause) → Clean (image_fault bs) p → p < (length bs + 5) / 6 → image_fault bs p ≡ Some c → image_answer bs ≡ Err (refused c Image (6 * p) 0)
image_stops bs p c h l s = some_bytes bs (omega arith) ∙ scan_first (image_fault bs) (λ q x. refused x Image (6 * q) 0) ((length bs + 5) / 6) p c h l s

-- what it says of all bytes that they are accepted
pub record Taken (bs : List ℕ) : Type 0 where
  pub some : 0 < length bs
  pub each : (p : ℕ) → 6 * p < length bs → FitsAt bs p

pub taken : (bs : List ℕ) → is_ok (image_answer bs) ≡ true → Taken bs
taken bs h = ⊎_elim
    (λ l. record { some = l; each = λ p k. fit bs p _ _ (clean (image_fault bs) (λ q c. refused c Image (6 * q) 0) ((length bs + 5) / 6) (ap is_ok (sym (some_bytes bs l)) ∙ h) p (omega arith)) })
    (λ l. let e = cond-true (length bs == 0) (Err (refused OneTree Image 0 0)) (scan (image_fault bs) (λ p c. refused c Image (6 * p) 0) 0 ((length bs + 5) / 6)) (eq-eqb (length bs) 0 (omega arith)) in
    let z : false ≡ true = ap is_ok (sym e) ∙ h in let n : ◌≡◌ {A = ℕ} 0 1 = cc in absurd (omega arith))
    (cases_lt 0 (length bs))

-- no bytes are left over
pub exact : (bs : List ℕ) → Taken bs → length bs ≡ 6 * (length bs / 6)
exact bs t = ⊎_elim (λ l. absurd (omega (arith, (t.each (length bs / 6) l).room))) (λ l. omega arith) (cases_lt (6 * (length bs / 6)) (length bs))

pub takes : (bs : List ℕ) → Taken bs → image_answer bs ≡ Ok (length bs / 6)
takes bs t =
    let n : (length bs + 5) / 6 ≡ length bs / 6 = omega (arith, exact bs t) in
    some_bytes bs t.some ∙ scan_all (image_fault bs) (λ p c. refused c Image (6 * p) 0) ((length bs + 5) / 6) (λ p l. faultless bs p _ _ (t.each p (omega arith))) ∙ ap Ok n

-- the subtrees of the places that are fit lie inside one another
pub nested_fit : (bs : List ℕ) (n : ℕ) → n ≤ length bs / 6 → ((p : ℕ) → p < n → FitsAt bs p) → Nested (image_nodes bs) n
nested_fit bs zero h f = λ p q l a b. absurd (omega arith)
nested_fit bs (suc n) h f =
    let ih = nested_fit bs n (omega arith) (λ p l. f p (omega arith)) in
    subst (Nested (image_nodes bs)) (add-one n) (nested_more (image_nodes bs) (length bs / 6) n ih (omega (arith, size_read bs n (omega arith), (f n (omega arith)).within)))

-- also those past the end
inside_all : (m : Forest) → Nested m (length m) → Inside m
inside_all m s p q l a b = ⊎_elim (λ k. s p q k a b) (λ k. omega (arith, ap (λ x. x.size) (get_or_past m q no_node k))) (cases_lt q (length m))

-- a first subtree that ends early leaves a place with nothing around it
root_whole : (m : Forest) → Inside m → 0 < length m → size_at m 0 ≤ length m → (size_at m 0 < length m → 0 < enclosing m (size_at m 0) (size_at m 0)) → size_at m 0 ≡ length m
root_whole m s h l k = ⊎_elim
    (λ x. let e : 0 + size_at m 0 ≡ size_at m 0 = omega arith in absurd (omega (arith, k x, shallower_after m s 0 h, ap (λ q. enclosing m q q) e)))
    (λ x. omega arith)
    (cases_lt (size_at m 0) (length m))

few_fit : (bs : List ℕ) (n : ℕ) → ((p : ℕ) → p < n → FitsAt bs p) → n ≤ 4096
few_fit bs zero f = omega arith
few_fit bs (suc n) f = omega (arith, (f n (omega arith)).few)

-- accepted bytes keep the law
pub image_law : (bs : List ℕ) → Taken bs → Law (image_nodes bs)
image_law bs t =
    let m = image_nodes bs in
    let n = many bs in
    let x = exact bs t in
    let each : (p : ℕ) → p < length m → FitsAt bs p = λ p l. t.each p (omega arith) in
    let s : (p : ℕ) → p < length m → size_at m p ≡ length_in bs p / 6 = λ p l. size_read bs p (omega arith) in
    let inside : Inside m = inside_all m (nested_fit bs (length m) (omega arith) each) in
    let some : 0 < length m = omega (arith, t.some) in
    record {
      some_node = some;
      few_nodes = few_fit bs (length m) each;
      whole = root_whole m inside some (omega (arith, s 0 some, (each 0 some).within)) (λ l. omega (arith, around_length m (size_at m 0) (size_at m 0), (each (size_at m 0) l).one (omega (arith, s 0 some, (each 0 some).some))));
      labels = λ p l. omega (arith, label_read bs p (omega arith), (each p l).small);
      sizes = λ p l. omega (arith, s p l, (each p l).some);
      inside = inside;
      shallow = λ p l. omega (arith, around_length m p p, (each p l).low);
    }
