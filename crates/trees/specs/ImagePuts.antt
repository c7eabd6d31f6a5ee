-- A label stored in an image's bytes.
use Rattle.std.specs.Prelude.{◌≡◌, ℕ, ◌+◌, ◌*◌, ◌/◌, ◌%◌, ◌<◌, true, ◌≢◌, List, length, get_or, set, Option, is_none, is_ok, slice_index, slice_index_or, slice_set, ◌≤◌, None}
use Rattle.std.specs.Option.{ForSome}
use Rattle.std.proofs.Common.{ap, sym, ◌∙◌, ⊎_elim, arith, length-set, get_or-set_same, get_or-set_other}
use Rattle.std.proofs.lemmas.List.{ext_get_or, get_or_past}
use Rattle.std.proofs.lemmas.Bool.{cases_eq, cases_lt}
use Rattle.trees.specs.Forest.{Law, no_node, with_label, size_at, relabel}
use Rattle.trees.specs.Scan.{kept}
use Rattle.trees.specs.Images.{length_in, label_in, node_in, image_nodes, around, inner_end, image_answer}
use Rattle.trees.specs.Leaves.{kept_law, sound_kept}
use Rattle.trees.specs.Opens.{around_sized}
use Rattle.trees.specs.Imaging.{many, at, FitsAt, taken, takes, image_law}

-- bytes that differ in one label alone
pub record Relabelled (bs cs : List ℕ) (p l : ℕ) : Type 0 where
  pub long : length cs ≡ length bs
  pub lengths : (k : ℕ) → length_in cs k ≡ length_in bs k
  pub others : (k : ℕ) → k ≢ p → label_in cs k ≡ label_in bs k
  pub here : label_in cs p ≡ l

lengths_kept : (bs : List ℕ) (i x k : ℕ) → i ≢ 6 * k → i ≢ 6 * k + 1 → i ≢ 6 * k + 2 → i ≢ 6 * k + 3 → length_in (slice_set bs i x) k ≡ length_in bs k
lengths_kept bs i x k n₀ n₁ n₂ n₃ =
    let e₀ : get_or (slice_set bs i x) (6 * k) 0 ≡ get_or bs (6 * k) 0 = get_or-set_other bs i (6 * k) x 0 (omega arith) in
    let e₁ : get_or (slice_set bs i x) (6 * k + 1) 0 ≡ get_or bs (6 * k + 1) 0 = get_or-set_other bs i (6 * k + 1) x 0 (omega arith) in
    let e₂ : get_or (slice_set bs i x) (6 * k + 2) 0 ≡ get_or bs (6 * k + 2) 0 = get_or-set_other bs i (6 * k + 2) x 0 (omega arith) in
    let e₃ : get_or (slice_set bs i x) (6 * k + 3) 0 ≡ get_or bs (6 * k + 3) 0 = get_or-set_other bs i (6 * k + 3) x 0 (omega arith) in
    cc

labels_kept : (bs : List ℕ) (i x k : ℕ) → i ≢ 6 * k + 4 → i ≢ 6 * k + 5 → label_in (slice_set bs i x) k ≡ label_in bs k
labels_kept bs i x k n₄ n₅ =
    let e₄ : get_or (slice_set bs i x) (6 * k + 4) 0 ≡ get_or bs (6 * k + 4) 0 = get_or-set_other bs i (6 * k + 4) x 0 (omega arith) in
    let e₅ : get_or (slice_set bs i x) (6 * k + 5) 0 ≡ get_or bs (6 * k + 5) 0 = get_or-set_other bs i (6 * k + 5) x 0 (omega arith) in
    cc

-- the low byte is stored, then the high byte
pub low_stored : (bs : List ℕ) (p x : ℕ) → p < length bs / 6 → Relabelled bs (slice_set bs (6 * p + 4) x) p (x + 256 * slice_index bs (6 * p + 5))
low_stored bs p x h = record {
  long = length-set bs (6 * p + 4) x;
  lengths = λ k. lengths_kept bs (6 * p + 4) x k (omega arith) (omega arith) (omega arith) (omega arith);
  others = λ k ne. labels_kept bs (6 * p + 4) x k (omega arith) (omega arith);
  here = omega (arith, get_or-set_same bs (6 * p + 4) x 0 (omega arith), get_or-set_other bs (6 * p + 4) (6 * p + 5) x 0 (omega arith));
}

high_stored : (bs : List ℕ) (p y : ℕ) → p < length bs / 6 → Relabelled bs (slice_set bs (6 * p + 5) y) p (slice_index bs (6 * p + 4) + 256 * y)
high_stored bs p y h = record {
  long = length-set bs (6 * p + 5) y;
  lengths = λ k. lengths_kept bs (6 * p + 5) y k (omega arith) (omega arith) (omega arith) (omega arith);
  others = λ k ne. labels_kept bs (6 * p + 5) y k (omega arith) (omega arith);
  here = omega (arith, get_or-set_same bs (6 * p + 5) y 0 (omega arith), get_or-set_other bs (6 * p + 5) (6 * p + 4) y 0 (omega arith));
}

pub both_stored : (bs : List ℕ) (p x y : ℕ) → p < length bs / 6 → Relabelled bs (slice_set (slice_set bs (6 * p + 4) x) (6 * p + 5) y) p (x + 256 * y)
both_stored bs p x y h =
    let cs = set bs (6 * p + 4) x in
    let a = low_stored bs p x h in
    let b = high_stored cs p y (omega (arith, a.long)) in
    record {
      long = b.long ∙ a.long;
      lengths = λ k. b.lengths k ∙ a.lengths k;
      others = λ k ne. b.others k ne ∙ a.others k ne;
      here = omega (arith, b.here, get_or-set_same bs (6 * p + 4) x 0 (omega arith));
    }

pub nodes_stored : (bs cs : List ℕ) (p l : ℕ) → p < length bs / 6 → Relabelled bs cs p l → image_nodes cs ≡ relabel (image_nodes bs) p l
nodes_stored bs cs p l h r =
    let same : length cs / 6 ≡ length bs / 6 = ap (λ k. k / 6) r.long in
    let new = with_label l (slice_index_or (image_nodes bs) p no_node) in
    let long : length (relabel (image_nodes bs) p l) ≡ length bs / 6 = length-set (image_nodes bs) p new ∙ many bs in
    ext_get_or no_node (image_nodes cs) (relabel (image_nodes bs) p l) (many cs ∙ same ∙ sym long) (λ i hi.
    let lt : i < length bs / 6 = omega (arith, many cs, same) in
    at cs i (omega (arith, same)) ∙
    ⊎_elim
    (λ e. ap (node_in cs) e
    ∙ (let a : label_in cs p ≡ l = r.here in let b : length_in cs p / 6 ≡ length_in bs p / 6 = ap (λ n. n / 6) (r.lengths p) in let f : node_in cs p ≡ with_label l (node_in bs p) = λ j. record { label = a j; size = b j } in f)
    ∙ ap (with_label l) (sym (at bs p h))
    ∙ sym (ap (λ k. get_or (relabel (image_nodes bs) p l) k no_node) e ∙ get_or-set_same (image_nodes bs) p new no_node (omega (arith, many bs))))
    (λ ne.
    (let a : label_in cs i ≡ label_in bs i = r.others i ne in let b : length_in cs i / 6 ≡ length_in bs i / 6 = ap (λ n. n / 6) (r.lengths i) in let f : node_in cs i ≡ node_in bs i = λ j. record { label = a j; size = b j } in f)
    ∙ sym (at bs i lt) ∙ sym (get_or-set_other (image_nodes bs) p i new no_node ne))
    (cases_eq i p))

sizes_stored : (bs cs : List ℕ) (p l : ℕ) → Relabelled bs cs p l → (q : ℕ) → size_at (image_nodes cs) q ≡ size_at (image_nodes bs) q
sizes_stored bs cs p l r q =
    let same : length cs / 6 ≡ length bs / 6 = ap (λ k. k / 6) r.long in
    ⊎_elim
    (λ h. ap (λ a. a.size) (at cs q (omega (arith, same))) ∙ ap (λ n. n / 6) (r.lengths q) ∙ sym (ap (λ a. a.size) (at bs q h)))
    (λ h. ap (λ a. a.size) (get_or_past (image_nodes cs) q no_node (omega (arith, many cs, same))) ∙ sym (ap (λ a. a.size) (get_or_past (image_nodes bs) q no_node (omega (arith, many bs)))))
    (cases_lt q (length bs / 6))

fit_stored : (bs cs : List ℕ) (p l q : ℕ) → l < 32768 → Relabelled bs cs p l → FitsAt bs q → FitsAt cs q
fit_stored bs cs p l q h r f =
    let a : around (image_nodes cs) q q ≡ around (image_nodes bs) q q = around_sized (image_nodes bs) (image_nodes cs) (sizes_stored bs cs p l r) q q in
    let depth = ap length a in
    let n : length cs / 6 ≡ length bs / 6 = ap (λ k. k / 6) r.long in
    let inner : inner_end (length cs / 6) (around (image_nodes cs) q q) ≡ inner_end (length bs / 6) (around (image_nodes bs) q q) = λ i. inner_end (n i) (a i) in
    let size = r.lengths q in
    let part : length_in cs q / 6 ≡ length_in bs q / 6 = ap (λ k. k / 6) size in
    record {
      one = λ k. omega (arith, depth, f.one k);
      room = omega (arith, r.long, f.room);
      some = omega (arith, size, f.some);
      within = omega (arith, part, inner, f.within);
      even = ap (λ k. k % 6) size ∙ f.even;
      small = ⊎_elim (λ e. omega (arith, ap (label_in cs) e, r.here)) (λ ne. omega (arith, r.others q ne, f.small)) (cases_eq q p);
      few = f.few;
      low = omega (arith, depth, f.low);
    }

pub sound_stored : (bs cs : List ℕ) (p l : ℕ) → l < 32768 → Relabelled bs cs p l → is_ok (image_answer bs) ≡ true → is_ok (image_answer cs) ≡ true
sound_stored bs cs p l h r s =
    let t = taken bs s in
    ap is_ok (takes cs (record { some = omega (arith, r.long, t.some); each = λ q k. fit_stored bs cs p l q h r (t.each q (omega (arith, r.long))) }))

-- no leaf is held beside an image
pub image_kept : (leaf : Option ℕ) (bs : List ℕ) → is_none leaf ≡ is_ok (image_answer bs) → ForSome leaf (λ l. l < 32768) → Law (kept leaf (image_nodes bs))
image_kept leaf bs e h = kept_law leaf (image_nodes bs) (λ t. image_law bs (taken bs (sym e ∙ t))) h

pub few_kept : (leaf : Option ℕ) (bs : List ℕ) → leaf ≡ None → is_none leaf ≡ is_ok (image_answer bs) → length bs / 6 ≤ 4096
few_kept leaf bs e f = omega (arith, (image_law bs (taken bs (sound_kept leaf _ e f))).few_nodes, many bs)
