-- What it means that a pattern reads a forest, apart from any way of finding it out.
use Rattle.std.specs.Prelude.{◌≡◌, ℕ, ◌-◌, ◌<◌, T, List, [], ◌∷◌, take, drop, Some, None, Option, slice_index_or}
use Rattle.trees.specs.Forest.{Node, Forest, subtree}
use Rattle.patterns.specs.declared.row.Element.{Element}
use Rattle.patterns.specs.declared.row.Element.TheVariants.{Lexeme, Variable, Group}
use Rattle.matching.specs.Rules.{fits, Bindings}

-- A tree for each variable.
abbrev pub Substitution : Type 0
Substitution = ℕ → Forest

-- A lexeme reads a leaf, a variable its tree under an inner node, a group the forest under an inner node, and an inner node may be opened, so that the forest under it is read in its place.
pub data Reads (σ : Substitution) : List Element → Forest → Type 0 where
  nothing_left : Reads σ [] []
  lexeme : {l : ℕ} {a : Node} {es : List Element} {f : Forest} → a.size ≡ 1 → a.label ≡ l → Reads σ es f → Reads σ (Lexeme l ∷ es) (a ∷ f)
  variable : {x : ℕ} {c : Option ℕ} {a : Node} {es : List Element} {f : Forest} → 1 < a.size → T (fits c a.label) → σ x ≡ a ∷ take (a.size - 1) f → Reads σ es (drop (a.size - 1) f) → Reads σ (Variable x c ∷ es) (a ∷ f)
  group : {k : ℕ} {a : Node} {es : List Element} {f : Forest} → 1 < a.size → Reads σ (take (k - 1) es) (take (a.size - 1) f) → Reads σ (drop (k - 1) es) (drop (a.size - 1) f) → Reads σ (Group k ∷ es) (a ∷ f)
  opening : {a : Node} {es : List Element} {f : Forest} → 1 < a.size → Reads σ es f → Reads σ es (a ∷ f)

-- A reading in which nothing is opened.
abbrev pub Plain : {σ : Substitution} {es : List Element} {f : Forest} → Reads σ es f → Type 0
Plain nothing_left = Unit {0}
Plain (lexeme h l r) = Plain r
Plain (variable h c t r) = Plain r
Plain (group h q r) = Plain q × Plain r
Plain (opening h r) = ⊥

-- The trees at the places of some bindings.
abbrev pub bound_trees : Forest → Bindings → Substitution
bound_trees m b x = elim (slice_index_or b x None) [ None ↦ [] | Some p ↦ subtree m p ]
