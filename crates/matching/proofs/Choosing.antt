-- The rule that is chosen, and what it says of the elements.
use Rattle.std.proofs.Common.{◌≡◌, ℕ, ◌<◌, ◌≤◌, Bool, true, false, cond, ltb, List, [], ◌∷◌, length, Some, None, Option, refl, ap, arith}
use Rattle.trees.specs.Forest.{Forest, size_at, label_at}
use Rattle.trees.specs.Windows.{win, win_cons}
use Rattle.patterns.specs.declared.row.Element.{Element}
use Rattle.patterns.specs.declared.row.Element.TheVariants.{Lexeme, Variable, Group}
use Rattle.patterns.specs.Elements.{number_of, element_at}
use Rattle.matching.specs.declared.nodes.Seen.{Seen}
use Rattle.matching.specs.declared.nodes.Seen.TheVariants.{Leaf, Inner}
use Rattle.matching.specs.declared.rule.Rule.{Rule}
use Rattle.matching.specs.declared.rule.Rule.TheVariants.{Done, Stuck, BothGo, BindBeforeLexeme, BindBeforeInner, BindLast, Enter, Open}
use Rattle.matching.specs.Rules.{alike, fits, next, choose_last, choose_inner, choose_leaf}

pub next_win : (m : Forest) (p e : ℕ) → p < e → e ≤ length m → next (win m p e) ≡ Some (cond (ltb 1 (size_at m p)) Inner (Leaf (label_at m p)))
next_win m p e h k = ap next (win_cons m p e h k)

-- what the elements are where a rule is chosen
abbrev pub Suited : List Element → Rule → Type 0
Suited es Done = Unit {0}
Suited es Stuck = Unit {0}
Suited es BothGo = 1 ≤ length es
Suited es (BindBeforeLexeme x) = (2 ≤ length es) × (number_of (element_at es 0) ≡ x)
Suited es (BindBeforeInner x) = (1 ≤ length es) × (number_of (element_at es 0) ≡ x)
Suited es (BindLast x) = (1 ≤ length es) × (number_of (element_at es 0) ≡ x)
Suited es (Enter k) = (1 ≤ length es) × (element_at es 0 ≡ Group k)
Suited es Open = Unit {0}

suited_test : (es : List Element) (t : Bool) (r s : Rule) → Suited es r → Suited es s → Suited es (cond t r s)
suited_test es true r s h k = h
suited_test es false r s h k = k

suited_last : (x : ℕ) (c : Option ℕ) (es : List Element) (n : Option Seen) → Suited (Variable x c ∷ es) (choose_last x es n)
suited_last x c [] None = (omega arith, refl)
suited_last x c [] (Some (Leaf l)) = tt
suited_last x c [] (Some Inner) = (omega arith, refl)
suited_last x c (Lexeme m ∷ es) None = tt
suited_last x c (Lexeme m ∷ es) (Some (Leaf l)) = suited_test (Variable x c ∷ (Lexeme m ∷ es)) (alike m l) (BindBeforeLexeme x) Open (omega arith, refl) tt
suited_last x c (Lexeme m ∷ es) (Some Inner) = (omega arith, refl)
suited_last x c (Variable y d ∷ es) None = tt
suited_last x c (Variable y d ∷ es) (Some (Leaf l)) = tt
suited_last x c (Variable y d ∷ es) (Some Inner) = (omega arith, refl)
suited_last x c (Group k ∷ es) None = tt
suited_last x c (Group k ∷ es) (Some (Leaf l)) = tt
suited_last x c (Group k ∷ es) (Some Inner) = (omega arith, refl)

suited_inner : (es : List Element) (l : ℕ) (f : Forest) → Suited es (choose_inner es l f)
suited_inner [] l f = tt
suited_inner (Lexeme m ∷ es) l f = tt
suited_inner (Variable x c ∷ es) l f = suited_test (Variable x c ∷ es) (fits c l) (choose_last x es (next f)) Open (suited_last x c es (next f)) tt
suited_inner (Group k ∷ es) l f = (omega arith, refl)

suited_leaf : (es : List Element) (l : ℕ) → Suited es (choose_leaf es l)
suited_leaf [] l = tt
suited_leaf (Lexeme m ∷ es) l = suited_test (Lexeme m ∷ es) (alike m l) BothGo Stuck (omega arith) tt
suited_leaf (Variable x c ∷ es) l = tt
suited_leaf (Group k ∷ es) l = tt

pub suited : (es : List Element) (n l : ℕ) (f : Forest) → Suited es (cond (ltb 1 n) (choose_inner es l f) (choose_leaf es l))
suited es n l f = suited_test es (ltb 1 n) (choose_inner es l f) (choose_leaf es l) (suited_inner es l f) (suited_leaf es l)
