-- The first of the marks: the lowest place, and there the lowest pattern.
use Rattle.std.specs.Prelude.{◌≡◌, ℕ, ◌<◌, true, false, length, Some, None, Option}
use Rattle.runs.specs.Session.{State, mark}

-- No pattern below n is marked at the place i.
abbrev pub NoneBelow : State → ℕ → ℕ → Type 0
NoneBelow s i n = (j : ℕ) → j < n → mark s i j ≡ false

-- No pattern is marked at a place below n.
abbrev pub NoPlaceBelow : State → ℕ → Type 0
NoPlaceBelow s n = (i : ℕ) → i < n → NoneBelow s i (length s.patterns)

-- The pattern j is marked at the place i, and nothing before it.
pub record IsFirst (s : State) (i j : ℕ) : Type 0 where
  pub place : i < length s.look.marks
  pub pattern : j < length s.patterns
  pub hit : mark s i j ≡ true
  pub lowest : NoPlaceBelow s i
  pub there : NoneBelow s i j

-- What a scan for the first mark finds.
abbrev pub First : State → Option (ℕ × ℕ) → Type 0
First s None = NoPlaceBelow s (length s.look.marks)
First s (Some f) = IsFirst s f.0 f.1
