-- The outline of a tree is accepted and means the tree, and accepted records are the outline of what they mean.
use Rattle.std.proofs.Common.{◌≡◌, ℕ, zero, suc, ◌+◌, ◌-◌, ◌<◌, ◌≤◌, List, length, get_or, drop, is_ok, Ok, Result, sym, ap, ◌∙◌, arith, length-drop}
use Rattle.refusals.specs.declared.Refusal.{Refusal}
use Rattle.std.proofs.lemmas.List.FromFn.{length-map-range_with_len, get_or-map-range_with_len}
use Rattle.std.proofs.lemmas.List.{ext_get_or, get_or-drop}
use Rattle.trees.specs.declared.record.Record.{Record}
use Rattle.trees.specs.Forest.{Forest, Law, no_node, size_at, label_at, enclosing}
use Rattle.trees.specs.Outlines.{no_record, depth_limit, deeper, outline_nodes, outline_answer, outline_of, outline_meaning}
use Rattle.trees.specs.Laws.{TakesOutlines}
use Rattle.trees.specs.Windows.{sound, fits_whole}
use Rattle.trees.specs.Faults.{Fine, Accepted, accepted, accepts}
use Rattle.trees.specs.Outlining.{length_nodes, label_read, size_read, deeper_to, depth_read, outline_law}
use Rattle.trees.specs.Scan.{leaf}
use Rattle.std.proofs.lemmas.Bool.{cond-true}
use Rattle.trees.specs.Enclosing.{deeper_inside, shallower_after, one_deeper, under_root}

abbrev record_of : Forest → ℕ → Record
record_of m p = record { depth = enclosing m p p; label = label_at m p }

pub length_outline : (m : Forest) → length (outline_of m) ≡ length m
length_outline m = length-map-range_with_len (record_of m) 0 (length m)

at : (m : Forest) (p : ℕ) → p < length m → get_or (outline_of m) p no_record ≡ record_of m p
at m p h = get_or-map-range_with_len (record_of m) 0 (length m) p p no_record h (omega arith)

deep_at : (m : Forest) (p : ℕ) → p < length m → (get_or (outline_of m) p no_record).depth ≡ enclosing m p p
deep_at m p h = ap (λ r. r.depth) (at m p h)

limit_at : (m : Forest) (p : ℕ) → p < length m → enclosing m p p ≤ depth_limit (outline_of m) p
limit_at m zero h = omega arith
limit_at m (suc p) h = omega (arith, deep_at m p (omega arith), one_deeper m p)

fine_at : (m : Forest) → Law m → (p : ℕ) → p < length m → Fine p (depth_limit (outline_of m) p) (get_or (outline_of m) p no_record)
fine_at m h p l =
    let d = deep_at m p l in
    record {
      one = λ k. omega (arith, d, under_root m (sound m h) p l k);
      near = omega (arith, d, limit_at m p l);
      small = omega (arith, ap (λ r. r.label) (at m p l), h.labels p l);
      few = omega (arith, h.few_nodes);
      low = omega (arith, d, h.shallow p l);
    }

outline_accepted : (m : Forest) → Law m → Accepted (outline_of m)
outline_accepted m h =
    let n = length_outline m in
    record { some = omega (arith, n, h.some_node); each = λ p l. fine_at m h p (omega (arith, n)) }

size_of : (m : Forest) → Law m → (p : ℕ) → p < length m → size_at (outline_nodes (outline_of m)) p ≡ size_at m p
size_of m h p l =
    let rs = outline_of m in
    let n = length_outline m in
    let d = deep_at m p l in
    let s = h.sizes p l in
    let f = fits_whole m (sound m h) p l in
    let count : deeper (get_or rs p no_record).depth (drop (suc p) rs) ≡ size_at m p - 1 = deeper_to (get_or rs p no_record).depth (drop (suc p) rs) (size_at m p - 1) (omega (arith, length-drop (suc p) rs))
    (λ k i. omega (arith, ap (λ r. r.depth) (get_or-drop (suc p) rs k no_record), deep_at m (suc p + k) (omega arith), d, deeper_inside m h.inside p (suc p + k) l (omega arith) (omega arith)))
    (λ i. let e : suc p + (size_at m p - 1) ≡ p + size_at m p = omega arith in
    omega (arith, ap (λ r. r.depth) (get_or-drop (suc p) rs (size_at m p - 1) no_record), ap (λ k. (get_or rs k no_record).depth) e, deep_at m (p + size_at m p) (omega (arith, length-drop (suc p) rs)), d, shallower_after m h.inside p l)) in
    omega (arith, size_read rs p (omega (arith, n)), count)

pub outline_means : (m : Forest) → Law m → outline_nodes (outline_of m) ≡ m
outline_means m h =
    let n = length_nodes (outline_of m) ∙ length_outline m in
    ext_get_or no_node (outline_nodes (outline_of m)) m n (λ p i.
    let l : p < length m = omega (arith, n) in
    let a : label_at (outline_nodes (outline_of m)) p ≡ label_at m p = label_read (outline_of m) p ∙ ap (λ r. r.label) (at m p l) in
    let b : size_at (outline_nodes (outline_of m)) p ≡ size_at m p = size_of m h p l in
    λ j. record { label = a j; size = b j })

pub outline_taken : (m : Forest) → Law m → outline_answer (outline_of m) ≡ Ok (length m)
outline_taken m h = accepts (outline_of m) (outline_accepted m h) ∙ ap Ok (length_outline m)

pub outline_is : (rs : List Record) → Accepted rs → rs ≡ outline_of (outline_nodes rs)
outline_is rs a =
    let m = outline_nodes rs in
    let n = length_nodes rs in
    ext_get_or no_record rs (outline_of m) (sym (length_outline m ∙ n)) (λ p i.
    let d : (get_or rs p no_record).depth ≡ enclosing m p p = sym (depth_read rs a p i) in
    let l : (get_or rs p no_record).label ≡ label_at m p = sym (label_read rs p) in
    let e : get_or rs p no_record ≡ record_of m p = λ j. record { depth = d j; label = l j } in
    e ∙ sym (at m p (omega (arith, n))))

-- what the check answers is exact
pub takes_outlines : (rs : List Record) (r : Result ℕ Refusal) → r ≡ outline_answer rs → TakesOutlines rs r
takes_outlines rs r e = (
  (λ h. let a = accepted rs (ap is_ok (sym e) ∙ h) in (outline_nodes rs, outline_law rs a, outline_is rs a)),
  (λ m h k. e ∙ ap outline_answer k ∙ outline_taken m h),
)

-- the tree made of a tree's outline means that tree
pub outline_meant : (rs : List Record) (m : Forest) → Law m → rs ≡ outline_of m → outline_meaning rs ≡ m
outline_meant rs m h e = ap outline_meaning e ∙ cond-true (is_ok (outline_answer (outline_of m))) (outline_nodes (outline_of m)) (leaf 0) (ap is_ok (outline_taken m h)) ∙ outline_means m h
