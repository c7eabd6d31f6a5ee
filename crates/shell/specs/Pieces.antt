-- The pieces of a text.
use Rattle.std.specs.Prelude.{◌≡◌, ◌≢◌, ℕ, List, [], ◌∷◌, ◌++◌, ◌⊎◌, All}

-- A text is a front, which does not hold a byte, then that byte, and then the back.
pub record Cut (text : List ℕ) (byte : ℕ) (front back : List ℕ) : Type 0 where
  pub whole : text ≡ front ++ byte ∷ back
  pub first : All (λ b. b ≢ byte) front

-- The text begins with a line, up to the byte 10 that ends it, or it is one line with no end; the rest stands behind.
abbrev pub BeginsWithLine : List ℕ → List ℕ → List ℕ → Type 0
BeginsWithLine text line rest = Cut text 10 line rest ⊎ ((text ≡ line) × (rest ≡ []) × (line ≢ []) × All (λ b. b ≢ 10) line)
