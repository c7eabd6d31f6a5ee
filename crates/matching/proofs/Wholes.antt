-- Parts of a level are levels.
use Rattle.std.proofs.Common.{◌≡◌, ℕ, ◌+◌, ◌-◌, ◌<◌, ◌≤◌, List, length, take, drop, sym, ap, ◌∙◌, subst, arith, length-drop, length-take-le, get_or-drop, get_or-take}
use Rattle.patterns.specs.declared.row.Element.{Element}
use Rattle.patterns.specs.declared.row.Element.TheVariants.{Lexeme, Group}
use Rattle.patterns.specs.Elements.{extent, least_extent, number_of, element_at, ends}
use Rattle.matching.specs.Levels.{Level}

-- a level whose elements are those of another from a place on is one
moved : (es fs : List Element) (n : ℕ) → ((i : ℕ) → i < length fs → element_at fs i ≡ element_at es (n + i)) → n + length fs ≤ length es → ((i : ℕ) → i < length fs → ends es (n + i) ≤ n + length fs) → Level es → Level fs
moved es fs n same long inner h i k =
    let w = h (n + i) (omega arith) in
    let e = same i k in
    let x : extent (element_at fs i) ≡ extent (element_at es (n + i)) = ap extent e in
    record {
      numbered = subst (λ (a : Element). number_of a < 16) (sym e) w.numbered;
      sized = subst (λ (a : Element). least_extent a ≤ extent a) (sym e) w.sized;
      inside = omega (arith, x, inner i k);
      nested = λ g j l.
          let y : extent (element_at fs g) ≡ extent (element_at es (n + g)) = ap extent (same g (omega arith)) in
          omega (arith, x, y, w.nested (n + g) (omega arith) (omega (arith, y, l)));
    }

pub level_drop : (n : ℕ) (es : List Element) → n ≤ length es → Level es → Level (drop n es)
level_drop n es h l =
    let d : length (drop n es) ≡ length es - n = length-drop n es in
    moved es (drop n es) n (λ i k. get_or-drop n es i (Lexeme 0)) (omega arith) (λ i k. omega (arith, (l (n + i) (omega arith)).inside)) l

-- the group that a level begins with
pub group_inside : (es : List Element) (k : ℕ) → Level es → 1 ≤ length es → element_at es 0 ≡ Group k → (2 ≤ k) × (k ≤ length es)
group_inside es k l h e = let w = l 0 (omega arith) in let x = ap extent e in let y = ap least_extent e in (omega (arith, x, y, w.sized), omega (arith, x, w.inside))

pub level_group : (es : List Element) (k : ℕ) → Level es → 1 ≤ length es → element_at es 0 ≡ Group k → Level (take (k - 1) (drop 1 es))
level_group es k l h e =
    let (two, all) = group_inside es k l h e in
    let x : extent (element_at es 0) ≡ k = ap extent e in
    let n : length (take (k - 1) (drop 1 es)) ≡ k - 1 = length-take-le (k - 1) (drop 1 es) (simp length-drop (omega arith)) in
    moved es (take (k - 1) (drop 1 es)) 1
    (λ i j. get_or-take (k - 1) (drop 1 es) i (Lexeme 0) (omega arith) ∙ get_or-drop 1 es i (Lexeme 0))
    (omega arith)
    (λ i j. omega (arith, x, (l (1 + i) (omega arith)).nested 0 (omega arith) (omega (arith, x, n, j))))
    l

-- the variable that a level begins with
pub variable_small : (es : List Element) (x : ℕ) → Level es → 1 ≤ length es → number_of (element_at es 0) ≡ x → x < 16
variable_small es x l h e = omega (arith, e, (l 0 (omega arith)).numbered)
