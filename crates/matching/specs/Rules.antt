-- How a pattern is matched at a place: one rule at a time, chosen by the pattern's next elements and the nodes ahead.
use Rattle.std.specs.Prelude.{ℕ, zero, suc, ◌+◌, ◌-◌, Bool, true, cond, List, [], ◌∷◌, length, take, drop, replicate, Some, None, Option, ◌==◌, nat_lt, slice_index_or, slice_range, slice_set}
use Rattle.trees.specs.Forest.{Forest, compared, same, size_at, subtree}
use Rattle.patterns.specs.declared.row.Element.{Element}
use Rattle.patterns.specs.declared.row.Element.TheVariants.{Lexeme, Variable, Group}
use Rattle.matching.specs.declared.nodes.Seen.{Seen}
use Rattle.matching.specs.declared.nodes.Seen.TheVariants.{Leaf, Inner}
use Rattle.matching.specs.declared.rule.Rule.{Rule}
use Rattle.matching.specs.declared.rule.Rule.TheVariants.{Done, Stuck, BothGo, BindBeforeLexeme, BindBeforeInner, BindLast, Enter, Open}

-- A lexeme reads a leaf with this label.
abbrev pub alike : ℕ → ℕ → Bool
alike m l = m == l

-- A label suits a variable that asks for it, or for none.
abbrev pub fits : Option ℕ → ℕ → Bool
fits None l = true
fits (Some c) l = c == l

-- What a forest begins with, if anything.
abbrev pub next : Forest → Option Seen
next [] = None
next (a ∷ f) = Some (cond (nat_lt 1 a.size) Inner (Leaf a.label))

-- The rule at an inner node that suits the variable x, by the elements behind the variable and by what follows the node's tree.
abbrev pub choose_last : ℕ → List Element → Option Seen → Rule
choose_last x [] None = BindLast x
choose_last x [] (Some (Leaf l)) = Open
choose_last x [] (Some Inner) = BindBeforeInner x
choose_last x (Lexeme m ∷ es) None = Open
choose_last x (Lexeme m ∷ es) (Some (Leaf l)) = cond (alike m l) (BindBeforeLexeme x) Open
choose_last x (Lexeme m ∷ es) (Some Inner) = BindBeforeInner x
choose_last x (Variable y c ∷ es) None = Open
choose_last x (Variable y c ∷ es) (Some (Leaf l)) = Open
choose_last x (Variable y c ∷ es) (Some Inner) = BindBeforeInner x
choose_last x (Group k ∷ es) None = Open
choose_last x (Group k ∷ es) (Some (Leaf l)) = Open
choose_last x (Group k ∷ es) (Some Inner) = BindBeforeInner x

-- The rule at an inner node with the label l, where the forest f follows its tree.
abbrev pub choose_inner : List Element → ℕ → Forest → Rule
choose_inner [] l f = Stuck
choose_inner (Lexeme m ∷ es) l f = Open
choose_inner (Variable x c ∷ es) l f = cond (fits c l) (choose_last x es (next f)) Open
choose_inner (Group k ∷ es) l f = Enter k

-- The rule at a leaf with the label l.
abbrev pub choose_leaf : List Element → ℕ → Rule
choose_leaf [] l = Stuck
choose_leaf (Lexeme m ∷ es) l = cond (alike m l) BothGo Stuck
choose_leaf (Variable x c ∷ es) l = Stuck
choose_leaf (Group k ∷ es) l = Stuck

-- The rule where no node is left.
abbrev pub choose_none : List Element → Rule
choose_none [] = Done
choose_none (e ∷ es) = Stuck

-- The rule for the elements and the forest ahead.
abbrev pub choose : List Element → Forest → Rule
choose es [] = choose_none es
choose es (a ∷ f) = cond (nat_lt 1 a.size) (choose_inner es a.label (drop (a.size - 1) f)) (choose_leaf es a.label)

-- The place of each variable that has one.
abbrev pub Bindings : Type 0
Bindings = List (Option ℕ)

-- The bindings, if all went well, and the steps taken.
pub record Outcome : Type 0 where
  pub bound : Option Bindings
  pub steps : ℕ

-- An outcome after n steps more.
abbrev pub tick : ℕ → Outcome → Outcome
tick n o = record { bound = o.bound; steps = n + o.steps }

-- No match.
abbrev pub fails : Outcome
fails = record { bound = None; steps = 0 }

-- These bindings, with no step taken.
abbrev pub settled : Bindings → Outcome
settled b = record { bound = Some b; steps = 0 }

-- What an outcome with these bindings goes on with.
abbrev pub after_bound : Outcome → Option Bindings → (Bindings → Outcome) → Outcome
after_bound o None k = o
after_bound o (Some b) k = tick o.steps (k b)

-- An outcome, and what follows it if there are bindings.
abbrev pub after : Outcome → (Bindings → Outcome) → Outcome
after o k = after_bound o o.bound k

-- The variable x gets the place p, or has a place whose subtree is compared with the one at p, a step for each node.
abbrev pub bind : Forest → Bindings → Option ℕ → ℕ → ℕ → (Bindings → Outcome) → Outcome
bind m b None x p k = k (slice_set b x (Some p))
bind m b (Some q) x p k = tick (compared (subtree m q) (subtree m p)) (cond (same (subtree m q) (subtree m p)) (k b) fails)

-- How some elements fare between two places, with the bindings so far.
abbrev pub Walk : Type 0
Walk = List Element → ℕ → ℕ → Bindings → Outcome

-- What a rule does with the elements es between the places p and e, where s is the size at p and go is the rest of the way.
abbrev pub by_rule : Walk → Forest → List Element → ℕ → ℕ → ℕ → Bindings → Rule → Outcome
by_rule go m es p s e b Done = settled b
by_rule go m es p s e b Stuck = fails
by_rule go m es p s e b BothGo = tick 1 (go (drop 1 es) (p + 1) e b)
by_rule go m es p s e b (BindBeforeLexeme x) = tick 1 (bind m b (slice_index_or b x None) x p (go (drop 2 es) (p + s + 1) e))
by_rule go m es p s e b (BindBeforeInner x) = tick 1 (bind m b (slice_index_or b x None) x p (go (drop 1 es) (p + s) e))
by_rule go m es p s e b (BindLast x) = tick 1 (bind m b (slice_index_or b x None) x p (go (drop 1 es) (p + s) e))
by_rule go m es p s e b (Enter k) = tick 1 (after (go (take (k - 1) (drop 1 es)) (p + 1) (p + s) b) (go (drop k es) (p + s) e))
by_rule go m es p s e b Open = tick 1 (go es (p + 1) e b)

-- Rule after rule, at most n deep.
abbrev pub walk : ℕ → Forest → Walk
walk zero m es p e b = fails
walk (suc n) m es p e b = by_rule (walk n m) m es p (size_at m p) e b (choose es (slice_range m p e))

-- Rule after rule, as deep as the places allow.
abbrev pub walks : Forest → Walk
walks m es p e b = walk (1 + (e - p)) m es p e b

-- How a pattern fares at a place.
abbrev pub match_at_lem : Forest → List Element → ℕ → Outcome
match_at_lem m es p = walk (1 + length m) m es p (p + size_at m p) (replicate 16 None)
