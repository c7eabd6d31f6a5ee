-- Kinds of bytes, and where a run of them ends.
use Rattle.std.specs.Prelude.{ℕ, ◌+◌, Bool, ◌&&◌, ◌||◌, List, drop, ◌==◌, nat_le}
use Rattle.std.specs.List.{prefix_len}

-- A space, a tab or the end of a line.
abbrev pub blank : ℕ → Bool
blank b = b == 32 || (b == 9 || b == 10)

-- A letter or an underscore.
abbrev pub letter : ℕ → Bool
letter b = (nat_le 97 b && nat_le b 122) || ((nat_le 65 b && nat_le b 90) || b == 95)

-- A byte of a variable's name: a letter, a digit or an underscore.
abbrev pub namey : ℕ → Bool
namey b = (nat_le 97 b && nat_le b 122) || ((nat_le 65 b && nat_le b 90) || ((nat_le 48 b && nat_le b 57) || b == 95))

-- A byte of a word: a letter, a digit, an underscore or a point.
abbrev pub wordy : ℕ → Bool
wordy b = (nat_le 97 b && nat_le b 122) || ((nat_le 65 b && nat_le b 90) || ((nat_le 48 b && nat_le b 57) || (b == 95 || b == 46)))

-- A byte that can be seen.
abbrev pub seen : ℕ → Bool
seen b = nat_le 33 b && nat_le b 126

-- The end of the longest run from i on of bytes that pass this test.
abbrev pub run_end : (ℕ → Bool) → List ℕ → ℕ → ℕ
run_end p s i = i + prefix_len p (drop i s)
