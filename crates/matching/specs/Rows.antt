-- Eight worked matches, each with its bindings and its steps.
use Rattle.std.specs.Prelude.{◌≡◌, ℕ, List, [], ◌∷◌, ◌++◌, replicate, Some, None, Option}
use Rattle.trees.specs.Forest.{Node, Forest, Law}
use Rattle.patterns.specs.declared.row.Element.{Element}
use Rattle.patterns.specs.declared.row.Element.TheVariants.{Lexeme, Variable, Group}
use Rattle.patterns.specs.Elements.{WellFormed}
use Rattle.matching.specs.Rules.{match_at_lem, Outcome}

-- A node by its label and its size.
abbrev pub node : ℕ → ℕ → Node
node l s = record { label = l; size = s }

-- A tree.
abbrev pub S : Forest
S = node 1 10 ∷ (node 2 2 ∷ (node 4 1 ∷ (node 5 1 ∷ (node 3 6 ∷ (node 2 2 ∷ (node 6 1 ∷ (node 7 1 ∷ (node 2 2 ∷ (node 8 1 ∷ [])))))))))

-- Another tree.
abbrev pub D : Forest
D = node 9 10 ∷ (node 9 6 ∷ (node 2 2 ∷ (node 10 1 ∷ (node 5 1 ∷ (node 2 2 ∷ (node 8 1 ∷ (node 5 1 ∷ (node 2 2 ∷ (node 8 1 ∷ [])))))))))

-- Three variables around two lexemes.
abbrev pub abc : List Element
abc = Variable 0 None ∷ (Lexeme 5 ∷ (Variable 1 None ∷ (Lexeme 7 ∷ (Variable 2 None ∷ []))))

-- One variable on both sides of a lexeme.
abbrev pub aa : List Element
aa = Variable 0 None ∷ (Lexeme 5 ∷ (Variable 0 None ∷ []))

-- The same around another lexeme.
abbrev pub bb : List Element
bb = Variable 0 None ∷ (Lexeme 7 ∷ (Variable 0 None ∷ []))

-- A group, a lexeme and a variable.
abbrev pub yzt : List Element
yzt = Group 4 ∷ (Variable 0 None ∷ (Lexeme 5 ∷ (Variable 1 None ∷ (Lexeme 5 ∷ (Variable 2 None ∷ [])))))

-- The same inside a group.
abbrev pub gyzt : List Element
gyzt = Group 7 ∷ yzt

-- A match that binds the first variables to some places.
abbrev pub binds : List (Option ℕ) → ℕ → ℕ → Outcome
binds b rest n = record { bound = Some (b ++ replicate rest None); steps = n }

-- No match, in n steps.
abbrev pub misses : ℕ → Outcome
misses n = record { bound = None; steps = n }

-- The eight rows; their trees and patterns are lawful.
pub record EightRows : Type 0 where
  pub row_1 : match_at_lem S abc 0 ≡ binds (Some 1 ∷ (Some 5 ∷ (Some 8 ∷ []))) 13 5
  pub row_2 : match_at_lem S aa 0 ≡ misses 4
  pub row_3 : match_at_lem S bb 4 ≡ misses 5
  pub row_4 : match_at_lem S (Variable 0 None ∷ []) 9 ≡ misses 0
  pub row_5 : match_at_lem S (Variable 0 (Some 3) ∷ []) 0 ≡ misses 2
  pub row_6 : match_at_lem S (Variable 0 (Some 3) ∷ []) 4 ≡ binds (Some 4 ∷ []) 15 1
  pub row_7 : match_at_lem D yzt 0 ≡ misses 3
  pub row_8 : match_at_lem D gyzt 0 ≡ binds (Some 2 ∷ (Some 5 ∷ (Some 8 ∷ []))) 13 6
  pub lawful_S : Law S
  pub lawful_D : Law D
  pub formed_bb : WellFormed bb
  pub formed_gyzt : WellFormed gyzt

-- A third tree, with inner nodes side by side.
abbrev pub E : Forest
E = node 1 9 ∷ (node 2 2 ∷ (node 4 1 ∷ (node 3 2 ∷ (node 4 1 ∷ (node 5 1 ∷ (node 2 3 ∷ (node 4 1 ∷ (node 6 1 ∷ []))))))))

-- More rows, which with the eight tell almost every other choice of a rule by its steps.
pub record EachRule : Type 0 where
  pub row_9 : match_at_lem E (Variable 0 None ∷ (Variable 1 None ∷ (Lexeme 5 ∷ (Lexeme 5 ∷ [])))) 0 ≡ misses 4
  pub row_10 : match_at_lem E (Variable 0 None ∷ (Group 2 ∷ (Lexeme 4 ∷ []))) 0 ≡ misses 4
  pub row_11 : match_at_lem E (Variable 0 None ∷ (Lexeme 4 ∷ (Lexeme 5 ∷ []))) 0 ≡ misses 5
  pub row_12 : match_at_lem E (Lexeme 4 ∷ (Variable 0 None ∷ [])) 1 ≡ misses 2
  pub row_13 : match_at_lem E (Group 2 ∷ (Variable 0 None ∷ [])) 2 ≡ misses 0
  pub row_14 : match_at_lem E (Lexeme 4 ∷ (Group 2 ∷ (Variable 0 None ∷ []))) 1 ≡ misses 2
  pub row_15 : match_at_lem E (Variable 0 None ∷ (Variable 0 None ∷ (Lexeme 4 ∷ []))) 0 ≡ misses 3
  pub row_16 : match_at_lem E (Variable 0 None ∷ (Variable 0 None ∷ [])) 0 ≡ misses 3
  pub row_17 : match_at_lem E (Variable 0 None ∷ (Variable 0 None ∷ (Variable 0 None ∷ []))) 0 ≡ misses 3
  pub row_18 : match_at_lem E (Variable 0 None ∷ (Variable 0 None ∷ (Group 2 ∷ (Variable 0 None ∷ [])))) 0 ≡ misses 3
  pub row_19 : match_at_lem E (Group 2 ∷ (Variable 0 None ∷ [])) 0 ≡ misses 2
