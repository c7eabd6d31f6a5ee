-- What stands before an element holds it as the whole list does.
use Rattle.std.proofs.Common.{◌≡◌, ℕ, zero, suc, ◌+◌, ◌<◌, ◌≤◌, ltb, cond, List, length, take, refl, ap, ◌∙◌, arith, length-take-le, get_or-take}
use Rattle.patterns.specs.declared.row.Element.{Element}
use Rattle.patterns.specs.declared.row.Element.TheVariants.{Lexeme}
use Rattle.patterns.specs.Elements.{extent, ends, around}
use Rattle.patterns.proofs.check.sits.Goals as goal

ends_before : (es : List Element) (i g : ℕ) → g < i → ends (take i es) g ≡ ends es g
ends_before es i g h = ap (λ a. g + extent a) (get_or-take i es g (Lexeme 0) h)

around_before : (es : List Element) (i k n : ℕ) → n ≤ i → around (take i es) k n ≡ around es k n
around_before es i k zero h = refl
around_before es i k (suc n) h = λ j. around_before es i k n (omega arith) j + cond (ltb k (ends_before es i n (omega arith) j)) 1 0

-- an element that passed each test sits, and one that sits passes the last
module _ (es : List Element) (i : ℕ) (h : i < length es) where
  whole : length (take i es) ≡ i
  whole = length-take-le i es (omega arith)

  around_is : around (take i es) (length (take i es)) (length (take i es)) ≡ around es i i
  around_is = (λ j. around (take i es) (whole j) (whole j)) ∙ around_before es i i i (omega arith)

  nested_is : (end : ℕ) → ((g : ℕ) → g < length (take i es) → length (take i es) < ends (take i es) g → end ≤ ends (take i es) g) → (g : ℕ) → g < i → i < ends es g → end ≤ ends es g
  nested_is end n g k l =
      let e = ends_before es i g k in
      omega (arith, e, whole, n g (omega (arith, whole)) (omega (arith, whole, e)))

  nested_from : (end : ℕ) → ((g : ℕ) → g < i → i < ends es g → end ≤ ends es g) → (g : ℕ) → g < length (take i es) → length (take i es) < ends (take i es) g → end ≤ ends (take i es) g
  nested_from end n g k l =
      let b : g < i = omega (arith, whole, k) in
      let e = ends_before es i g b in
      omega (arith, e, n g b (omega (arith, whole, e, l)))

pub returns-then-end-elements : goal.returns-then-end-elements
returns-then-end-elements c =
    let es = c.args.elements.now in
    let i = c.args.i in
    let a = around_is es i c.requires in
    let z = c.is_sized.ensures.0 c.if-end-elements.true.0 in (
      λ t.
          let n = c.is_nested.ensures.0 t in
          record {
            numbered = z.0;
            sized = z.1;
            inside = omega (arith, c.extent.ensures.value, c.if-end-elements.true.1);
            nested = λ g k l. omega (arith, c.extent.ensures.value, nested_is es i c.requires (i + c.extent.result) n.0 g k l);
            shallow = omega (arith, a, n.1);
          },
      λ s. c.is_nested.ensures.1 (nested_from es i c.requires (i + c.extent.result) (λ g k l. omega (arith, c.extent.ensures.value, s.nested g k l)), omega (arith, a, s.shallow)),
    )
