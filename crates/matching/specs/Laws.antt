-- The laws of matching, each for every tree, well-formed pattern and place.
use Rattle.std.specs.Prelude.{◌≡◌, ℕ, ◌+◌, ◌-◌, ◌*◌, ◌<◌, ◌≤◌, List, map, length, Some, None, Option}
use Rattle.trees.specs.Forest.{Forest, Law, size_at, subtree}
use Rattle.patterns.specs.declared.row.Element.{Element}
use Rattle.patterns.specs.Elements.{WellFormed}
use Rattle.matching.specs.Rules.{Bindings, Outcome, match_at_lem}
use Rattle.matching.specs.Readings.{Substitution, Reads, Plain, bound_trees}

-- The bindings of a match are a reading of the subtree.
abbrev pub MatchIsAReading : Type 0
MatchIsAReading = (m : Forest) (es : List Element) (p : ℕ) → Law m → WellFormed es → p < length m → (b : Bindings) → (match_at_lem m es p).bound ≡ Some b → Reads (bound_trees m b) es (subtree m p)

-- Where there is a plain reading there is a match.
abbrev pub PlainReadingsMatch : Type 0
PlainReadingsMatch = (m : Forest) (es : List Element) (p : ℕ) → Law m → WellFormed es → p < length m → (σ : Substitution) (r : Reads σ es (subtree m p)) → Plain r → (b : Bindings) × ((match_at_lem m es p).bound ≡ Some b)

-- A match takes at most two steps for each node of the subtree.
abbrev pub TwoStepsANode : Type 0
TwoStepsANode = (m : Forest) (es : List Element) (p : ℕ) → Law m → WellFormed es → p < length m → (match_at_lem m es p).steps ≤ 2 * size_at m p

-- A place, moved by as much as q is from p.
abbrev pub moved : ℕ → ℕ → Option ℕ → Option ℕ
moved p q None = None
moved p q (Some x) = Some (q + (x - p))

-- Bindings, each place moved.
abbrev pub moved_bound : ℕ → ℕ → Option Bindings → Option Bindings
moved_bound p q None = None
moved_bound p q (Some b) = Some (map (moved p q) b)

-- An outcome, each place moved.
abbrev pub shifted : ℕ → ℕ → Outcome → Outcome
shifted p q o = record { bound = moved_bound p q o.bound; steps = o.steps }

-- Where two trees have equal subtrees, at two places, a pattern fares alike: the same steps, and the same bindings with each place moved.
abbrev pub SubtreeAlone : Type 0
SubtreeAlone = (m n : Forest) (es : List Element) (p q : ℕ) → Law m → Law n → WellFormed es → p < length m → q < length n → subtree m p ≡ subtree n q → match_at_lem n es q ≡ shifted p q (match_at_lem m es p)
