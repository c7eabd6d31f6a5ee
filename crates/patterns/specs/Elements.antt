-- When a list of elements in preorder is a pattern.
use Rattle.std.specs.Prelude.{ℕ, zero, suc, ◌+◌, ◌<◌, ◌≤◌, cond, List, length, take, nat_lt, slice_index_or}
use Rattle.patterns.specs.declared.row.Element.{Element}
use Rattle.patterns.specs.declared.row.Element.TheVariants.{Lexeme, Variable, Group}
use Rattle.patterns.specs.declared.row.Row.{Row}

-- How many elements there are from an element to the end of what stands in it.
abbrev pub extent : Element → ℕ
extent (Lexeme l) = 1
extent (Variable x c) = 1
extent (Group k) = k

-- The least that this may be: a group has something in it.
abbrev pub least_extent : Element → ℕ
least_extent (Lexeme l) = 1
least_extent (Variable x c) = 1
least_extent (Group k) = 2

-- The number of a variable, and 0 of any other element.
abbrev pub number_of : Element → ℕ
number_of (Lexeme l) = 0
number_of (Variable x c) = x
number_of (Group k) = 0

-- The element at i.
abbrev pub element_at : List Element → ℕ → Element
element_at es i = slice_index_or es i (Lexeme 0)

-- Where the element at i ends, with all that stands in it.
abbrev pub ends : List Element → ℕ → ℕ
ends es i = i + extent (element_at es i)

-- How many of the elements below n have the element at i in them.
abbrev pub around : List Element → ℕ → ℕ → ℕ
around es i zero = 0
around es i (suc n) = around es i n + cond (nat_lt i (ends es n)) 1 0

-- The element at i is well formed: it is one of 16 variables or no variable, a group with something in it or no group, it ends inside the list and inside each group that holds it, and no more than 16 groups hold it.
pub record Sits (es : List Element) (i : ℕ) : Type 0 where
  pub numbered : number_of (element_at es i) < 16
  pub sized : least_extent (element_at es i) ≤ extent (element_at es i)
  pub inside : ends es i ≤ length es
  pub nested : (g : ℕ) → g < i → i < ends es g → ends es i ≤ ends es g
  pub shallow : around es i i ≤ 16

-- A well-formed list of elements: 1 to 64 of them, each well formed.
pub record WellFormed (es : List Element) : Type 0 where
  pub some_element : 1 ≤ length es
  pub few_elements : length es ≤ 64
  pub each : (i : ℕ) → i < length es → Sits es i

-- The elements of a row: the slots that it counts.
abbrev pub elements_of : Row → List Element
elements_of r = take r.count r.elements

-- A row that is a pattern: it counts no more slots than it has, and its elements are well formed.
pub record IsPattern (r : Row) : Type 0 where
  pub counted : r.count ≤ length r.elements
  pub formed : WellFormed (elements_of r)

-- Each element ends inside each group that holds it; said of pairs, so that it is seen to have one proof.
abbrev pub Nested : List Element → Type 0
Nested es = (i g : ℕ) → (g < i) × (i < ends es g) × (i < length es) → ends es i ≤ ends es g
