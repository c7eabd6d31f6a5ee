-- What a shelf holds.
use Rattle.std.specs.Prelude.{List, map, vec_items}
use Rattle.patterns.specs.declared.row.Element.{Element}
use Rattle.patterns.specs.Elements.{elements_of}
use Rattle.sessions.specs.declared.shelf.Shelf.{Shelf}

-- The patterns of a shelf, by their elements.
abbrev pub shelf_view : Shelf → List (List Element)
shelf_view s = map elements_of (vec_items s.rows)
