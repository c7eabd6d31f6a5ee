-- What a level of a pattern is, where bound places lie, and what is known of the nodes ahead.
use Rattle.std.specs.Prelude.{◌≡◌, ℕ, ◌<◌, ◌≤◌, cond, List, length, Some, None, Option, IfSome, nat_lt, slice_index_or}
use Rattle.trees.specs.Forest.{Forest, label_at, size_at}
use Rattle.patterns.specs.declared.row.Element.{Element}
use Rattle.patterns.specs.Elements.{extent, least_extent, number_of, element_at, ends}
use Rattle.matching.specs.declared.nodes.Node.{Node}
use Rattle.matching.specs.declared.nodes.Seen.{Seen}
use Rattle.matching.specs.declared.nodes.Seen.TheVariants.{Leaf, Inner}
use Rattle.matching.specs.Rules.{Bindings}

-- The element at i is whole: one of 16 variables or no variable, a group with something in it or no group, and it ends inside the level and inside each group that holds it.
pub record Whole (es : List Element) (i : ℕ) : Type 0 where
  pub numbered : number_of (element_at es i) < 16
  pub sized : least_extent (element_at es i) ≤ extent (element_at es i)
  pub inside : ends es i ≤ length es
  pub nested : (g : ℕ) → g < i → i < ends es g → ends es i ≤ ends es g

-- The elements of a level of a pattern are whole.
abbrev pub Level : List Element → Type 0
Level es = (i : ℕ) → i < length es → Whole es i

-- Each bound place is one of the tree's.
abbrev pub BoundInside : Forest → Bindings → Type 0
BoundInside m b = (x q : ℕ) → slice_index_or b x None ≡ Some q → q < length m

-- What is known of the node at a place: nothing yet, or its label and its size.
abbrev pub Known : Forest → ℕ → Option Node → Type 0
Known m p o = IfSome o (λ a. (a.label ≡ label_at m p) × (a.size ≡ size_at m p))

-- What a node is to those before it.
abbrev pub seen : Node → Seen
seen a = cond (nat_lt 1 a.size) Inner (Leaf a.label)
