-- A single leaf keeps the law, and what a make means by the leaf that it may hold.
use Rattle.std.specs.Prelude.{◌≡◌, ℕ, zero, suc, ◌<◌, Bool, true, length, Some, None, Option, is_none, refl}
use Rattle.std.specs.Option.{ForSome}
use Rattle.std.proofs.Common.{ap, sym, ◌∙◌, arith}
use Rattle.trees.specs.Forest.{Forest, Law, label_at, relabel}
use Rattle.trees.specs.Scan.{leaf, kept}

leaf_labels : (l p : ℕ) → l < 32768 → p < 1 → label_at (leaf l) p < 32768
leaf_labels l zero h k = h
leaf_labels l (suc p) h k = absurd (omega arith)

pub leaf_law : (l : ℕ) → l < 32768 → Law (leaf l)
leaf_law l h = record {
  some_node = omega arith;
  few_nodes = omega arith;
  whole = refl;
  labels = λ p k. leaf_labels l p h k;
  sizes = elim [ zero ↦ λ k. omega arith | suc p ↦ λ k. absurd (omega arith) ];
  inside = elim [ zero ↦ λ q k a c. absurd (omega arith) | suc p ↦ λ q k a c. absurd (omega arith) ];
  shallow = elim [ zero ↦ λ k. omega arith | suc p ↦ λ k. absurd (omega arith) ];
}

pub kept_law : (leaf : Option ℕ) (m : Forest) → (is_none leaf ≡ true → Law m) → ForSome leaf (λ l. l < 32768) → Law (kept leaf m)
kept_law None m f h = f refl
kept_law (Some l) m f h = leaf_law l (h l refl)

pub kept_none : (leaf : Option ℕ) (m : Forest) → leaf ≡ None → kept leaf m ≡ m
kept_none leaf m e = ap (λ l. kept l m) e

pub length_kept : (leaf : Option ℕ) (m : Forest) → leaf ≡ None → length (kept leaf m) ≡ length m
length_kept leaf m e = ap length (kept_none leaf m e)

pub sound_kept : (leaf : Option ℕ) (sound : Bool) → leaf ≡ None → is_none leaf ≡ sound → sound ≡ true
sound_kept leaf sound e f = sym f ∙ ap is_none e

-- the leaf takes the label
pub leaf_put : (m : Forest) (l p k : ℕ) → p < length (kept (Some l) m) → kept (Some k) m ≡ relabel (kept (Some l) m) p k
leaf_put m l zero k h = refl
leaf_put m l (suc p) k h = absurd (omega arith)
