-- A label stored in an outline's records.
use Rattle.std.specs.Prelude.{◌≡◌, ℕ, zero, suc, ◌+◌, ◌<◌, true, cond, List, [], ◌∷◌, length, get_or, ◌≤◌, None, Option, is_none, is_ok, nat_lt, slice_index_or, slice_set, refl}
use Rattle.std.specs.Option.{ForSome}
use Rattle.std.proofs.Common.{ap, sym, ◌∙◌, arith, length-set}
use Rattle.trees.specs.declared.record.Record.{Record}
use Rattle.trees.specs.Forest.{Law, relabel}
use Rattle.trees.specs.Scan.{kept}
use Rattle.trees.specs.Outlines.{no_record, depth_limit, deeper, outline_nodes, outline_answer}
use Rattle.trees.specs.Faults.{Fine, Accepted, accepted, accepts}
use Rattle.trees.specs.Outlining.{outline_law, length_nodes}
use Rattle.trees.specs.Leaves.{kept_law, kept_none, sound_kept}

abbrev pub stored : List Record → ℕ → ℕ → List Record
stored rs p l = slice_set rs p (record { depth = (get_or rs p no_record).depth; label = l })

deeper_stored : (d : ℕ) (rs : List Record) (p l : ℕ) → deeper d (stored rs p l) ≡ deeper d rs
deeper_stored d [] p l = refl
deeper_stored d (r ∷ rs) zero l = refl
deeper_stored d (r ∷ rs) (suc p) l = ap (λ n. cond (nat_lt d r.depth) (suc n) 0) (deeper_stored d rs p l)

pub nodes_stored : (rs : List Record) (p l : ℕ) → outline_nodes (stored rs p l) ≡ relabel (outline_nodes rs) p l
nodes_stored [] p l = refl
nodes_stored (r ∷ rs) zero l = refl
nodes_stored (r ∷ rs) (suc p) l =
    let e : suc (deeper r.depth (stored rs p l)) ≡ suc (deeper r.depth rs) = ap suc (deeper_stored r.depth rs p l) in
    let f = nodes_stored rs p l in
    cc

depth_stored : (rs : List Record) (p l i : ℕ) → (get_or (stored rs p l) i no_record).depth ≡ (get_or rs i no_record).depth
depth_stored [] p l i = refl
depth_stored (r ∷ rs) zero l zero = refl
depth_stored (r ∷ rs) zero l (suc i) = refl
depth_stored (r ∷ rs) (suc p) l zero = refl
depth_stored (r ∷ rs) (suc p) l (suc i) = depth_stored rs p l i

label_stored : (rs : List Record) (p l i : ℕ) → l < 32768 → (get_or rs i no_record).label < 32768 → (get_or (stored rs p l) i no_record).label < 32768
label_stored [] p l i h k = k
label_stored (r ∷ rs) zero l zero h k = h
label_stored (r ∷ rs) zero l (suc i) h k = k
label_stored (r ∷ rs) (suc p) l zero h k = k
label_stored (r ∷ rs) (suc p) l (suc i) h k = label_stored rs p l i h k

limit_stored : (rs : List Record) (p l i : ℕ) → depth_limit (stored rs p l) i ≡ depth_limit rs i
limit_stored rs p l zero = refl
limit_stored rs p l (suc i) = ap (λ d. d + 1) (depth_stored rs p l i)

fine_stored : (rs : List Record) (p l i : ℕ) → l < 32768 → Fine i (depth_limit rs i) (slice_index_or rs i no_record) → Fine i (depth_limit (stored rs p l) i) (slice_index_or (stored rs p l) i no_record)
fine_stored rs p l i h f =
    let d = depth_stored rs p l i in
    let n = limit_stored rs p l i in
    record {
      one = λ k. omega (arith, d, f.one k);
      near = omega (arith, d, n, f.near);
      small = label_stored rs p l i h f.small;
      few = f.few;
      low = omega (arith, d, f.low);
    }

accepted_stored : (rs : List Record) (p l : ℕ) → l < 32768 → Accepted rs → Accepted (stored rs p l)
accepted_stored rs p l h a =
    let n : length (stored rs p l) ≡ length rs = length-set rs p (record { depth = (get_or rs p no_record).depth; label = l }) in
    record { some = omega (arith, n, a.some); each = λ i k. fine_stored rs p l i h (a.each i (omega (arith, n))) }

pub sound_stored : (rs : List Record) (p l : ℕ) → l < 32768 → is_ok (outline_answer rs) ≡ true → is_ok (outline_answer (stored rs p l)) ≡ true
sound_stored rs p l h s = ap is_ok (accepts (stored rs p l) (accepted_stored rs p l h (accepted rs s)))

-- no leaf is held beside an outline
pub outline_kept : (leaf : Option ℕ) (rs : List Record) → is_none leaf ≡ is_ok (outline_answer rs) → ForSome leaf (λ l. l < 32768) → Law (kept leaf (outline_nodes rs))
outline_kept leaf rs e h = kept_law leaf (outline_nodes rs) (λ t. outline_law rs (accepted rs (sym e ∙ t))) h

pub few_kept : (leaf : Option ℕ) (rs : List Record) → leaf ≡ None → is_none leaf ≡ is_ok (outline_answer rs) → length rs ≤ 4096
few_kept leaf rs e f = omega (arith, (outline_law rs (accepted rs (sound_kept leaf _ e f))).few_nodes, length_nodes rs)

pub put_kept : (leaf : Option ℕ) (rs : List Record) (p l : ℕ) → leaf ≡ None → kept leaf (outline_nodes (stored rs p l)) ≡ relabel (kept leaf (outline_nodes rs)) p l
put_kept leaf rs p l e = kept_none leaf (outline_nodes (stored rs p l)) e ∙ nodes_stored rs p l ∙ ap (λ m. relabel m p l) (sym (kept_none leaf (outline_nodes rs) e))
