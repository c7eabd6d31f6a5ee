-- What the marks of a session hold.
use Rattle.std.specs.Prelude.{Bool, List, map, vec_items}
use Rattle.sessions.specs.declared.marks.Mark.{Mark}
use Rattle.sessions.specs.declared.marks.Marks.{Marks as Kept}
use Rattle.runs.specs.Session.{Marks}

-- Whether each place was touched.
abbrev pub touched_of : List Mark → List Bool
touched_of ms = map (λ (m : Mark). m.touched) ms

-- The row of each place.
abbrev pub rows_of : List Mark → List (List Bool)
rows_of ms = map (λ (m : Mark). m.matched) ms

-- The marks' value as the marks of a state.
abbrev pub marks_view : Kept → Marks
marks_view k = record { tried = k.tried; touched = touched_of (vec_items k.places); marks = rows_of (vec_items k.places); stale = k.stale }
