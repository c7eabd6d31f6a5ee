-- Rows that are patterns, each.
use Rattle.std.specs.Prelude.{ℕ, ◌<◌, List, [], length, slice_index_or}
use Rattle.patterns.specs.Elements.{IsPattern}
use Rattle.patterns.specs.declared.row.Row.{Row}

-- What is read where there is no row.
abbrev pub no_row : Row
no_row = record { elements = []; count = 0 }

-- Each of some rows is a pattern.
abbrev pub EachPattern : List Row → Type 0
EachPattern rows = (i : ℕ) → i < length rows → IsPattern (slice_index_or rows i no_row)
