-- How marks are brought up to date, pattern by pattern.
use Rattle.std.specs.Prelude.{◌≡◌, ℕ, zero, suc, ◌-◌, ◌<◌, ◌≤◌, Bool, true, false, cond, ◌||◌, List, [], length, take, drop, is_some, Some, None, Option, nat_le, nat_lt, slice_index_or, slice_set}
use Rattle.patterns.specs.declared.row.Element.{Element}
use Rattle.trees.specs.Forest.{Forest, size_at}
use Rattle.matching.specs.Rules.{match_at_lem}
use Rattle.runs.specs.Session.{State, Marks, any, tabulate, total}

-- The state with this tree, these patterns and these marks, and nothing else.
abbrev pub seen : Forest → List (List Element) → Marks → State
seen m ps k = record { name = 0; tree = m; patterns = ps; journal = record { clicks = []; click = None }; look = k }

-- For each place whether a place of its subtree was touched.
abbrev pub spread_out : Forest → List Bool → List Bool
spread_out m t = tabulate (λ i. any (take (size_at m i) (drop i t))) (length t)

-- The touched place that is nearest to the place p, at it or behind it, if there is one.
abbrev pub Nearest : List Bool → ℕ → Option ℕ → Type 0
Nearest t p None = (q : ℕ) → p ≤ q → slice_index_or t q false ≡ false
Nearest t p (Some a) = (p ≤ a) × (slice_index_or t a false ≡ true) × ((q : ℕ) → p ≤ q → q < a → slice_index_or t q false ≡ false)

-- Such a place is among the n places from p on.
abbrev pub within : Option ℕ → ℕ → ℕ → Bool
within None p n = false
within (Some a) p n = nat_lt (a - p) n

-- The row of the place i after the pattern j was tried there, if it was: it is new, or the subtree was touched.
abbrev pub tried_row : Forest → List Element → ℕ → Bool → List Bool → List (List Bool) → ℕ → List Bool
tried_row m es j new t rows i = cond (new || slice_index_or t i false) (slice_set (slice_index_or rows i []) j (is_some (match_at_lem m es i).bound)) (slice_index_or rows i [])

-- The rows of all places.
abbrev pub tried_rows : Forest → List Element → ℕ → Bool → List Bool → List (List Bool) → List (List Bool)
tried_rows m es j new t rows = tabulate (tried_row m es j new t rows) (length rows)

-- The steps that a pattern takes at the places below n.
abbrev pub tried_steps : Forest → List Element → Bool → List Bool → ℕ → ℕ
tried_steps m es new t n = total (λ i. cond (new || slice_index_or t i false) (match_at_lem m es i).steps 0) n

-- The rows after the patterns below n were tried, where those from k on are new.
abbrev pub all_rows : Forest → List (List Element) → ℕ → List Bool → List (List Bool) → ℕ → List (List Bool)
all_rows m ps k t rows zero = rows
all_rows m ps k t rows (suc j) = tried_rows m (slice_index_or ps j []) j (nat_le k j) t (all_rows m ps k t rows j)

-- Their steps, at so many places.
abbrev pub all_steps : Forest → List (List Element) → ℕ → List Bool → ℕ → ℕ → ℕ
all_steps m ps k t places n = total (λ j. tried_steps m (slice_index_or ps j []) (nat_le k j) t places) n

-- The marks with what was touched spread over the places around.
abbrev pub spreading : Forest → Marks → Marks
spreading m k = record { tried = k.tried; touched = spread_out m k.touched; marks = k.marks; stale = k.stale }

-- The marks after the pattern j was tried.
abbrev pub trying : Forest → List Element → ℕ → Marks → Marks
trying m es j k = record { tried = k.tried; touched = k.touched; marks = tried_rows m es j (nat_le k.tried j) k.touched k.marks; stale = k.stale }

-- The marks after the patterns below n were tried.
abbrev pub trying_all : Forest → List (List Element) → ℕ → Marks → Marks
trying_all m ps n k = record { tried = k.tried; touched = k.touched; marks = all_rows m ps k.tried k.touched k.marks n; stale = k.stale }
