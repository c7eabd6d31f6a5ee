-- The laws speak of something: the trees and patterns of the rows are lawful.
use Rattle.std.proofs.Common.{◌≡◌, ℕ, Bool, true, cond, ◌&&◌, ltb, leb, List, length, sym, refl, ◌∙◌}
use Rattle.std.proofs.lemmas.Bool.{cond-true, ltb-true, leb-true, lt-ltb, and_parts}
use Rattle.trees.specs.Forest.{Law}
use Rattle.trees.proofs.Testing.{all_below, all_below_at, lawful, lawful_law}
use Rattle.patterns.specs.declared.row.Element.{Element}
use Rattle.patterns.specs.Elements.{extent, least_extent, number_of, element_at, ends, around, WellFormed}
use Rattle.matching.specs.Rows.{S, D, bb, gyzt}

pub law_S : Law S
unfolding lawful all_below
law_S = lawful_law S refl

pub law_D : Law D
unfolding lawful all_below
law_D = lawful_law D refl

abbrev element_fine : List Element → ℕ → Bool
element_fine es i = ltb (number_of (element_at es i)) 16 && (leb (least_extent (element_at es i)) (extent (element_at es i)) && (leb (ends es i) (length es) && leb (around es i i) 16))

abbrev pair_fine : List Element → ℕ → ℕ → Bool
pair_fine es i g = cond (ltb i (ends es g)) (leb (ends es i) (ends es g)) true

-- well-formed, as a test
unfoldable formed : List Element → Bool
formed es = (leb 1 (length es) && leb (length es) 64) && (all_below (length es) (element_fine es) && all_below (length es) (λ i. all_below i (pair_fine es i)))

formed_well : (es : List Element) → formed es ≡ true → WellFormed es
unfolding formed
formed_well es h =
    let (a, b) = and_parts (leb 1 (length es) && leb (length es) 64) (all_below (length es) (element_fine es) && all_below (length es) (λ i. all_below i (pair_fine es i))) h in
    let (some, few) = and_parts (leb 1 (length es)) (leb (length es) 64) a in
    let (one, two) = and_parts (all_below (length es) (element_fine es)) (all_below (length es) (λ i. all_below i (pair_fine es i))) b in
    record {
      some_element = leb-true 1 (length es) some;
      few_elements = leb-true (length es) 64 few;
      each = λ i k.
          let (x, r) = and_parts (ltb (number_of (element_at es i)) 16) _ (all_below_at (length es) (element_fine es) one i k) in
          let (y, t) = and_parts (leb (least_extent (element_at es i)) (extent (element_at es i))) _ r in
          let (z, w) = and_parts (leb (ends es i) (length es)) (leb (around es i i) 16) t in
          record {
            numbered = ltb-true _ _ x;
            sized = leb-true _ _ y;
            inside = leb-true _ _ z;
            shallow = leb-true _ _ w;
            nested = λ g j l. leb-true _ _ (sym (cond-true (ltb i (ends es g)) (leb (ends es i) (ends es g)) true (lt-ltb _ _ l)) ∙ all_below_at i (pair_fine es i) (all_below_at (length es) (λ i. all_below i (pair_fine es i)) two i k) g j);
          };
    }

pub formed_bb : WellFormed bb
unfolding formed all_below
formed_bb = formed_well bb refl

pub formed_gyzt : WellFormed gyzt
unfolding formed all_below
formed_gyzt = formed_well gyzt refl
