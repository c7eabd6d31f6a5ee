-- What becomes of a row to which an element is added.
use Rattle.std.specs.Prelude.{◌≡◌, ◌+◌, ◌<◌, ◌≤◌, [], ◌∷◌, ◌++◌, Ok, Err, Result}
use Rattle.refusals.specs.declared.Cause.{Cause}
use Rattle.refusals.specs.declared.Cause.TheVariants.{TooMany}
use Rattle.patterns.specs.declared.row.Element.{Element}
use Rattle.patterns.specs.declared.row.Row.{Row}
use Rattle.patterns.specs.Elements.{elements_of}

-- One element is put behind those of a row, if there is room.
abbrev pub Put : {U : Type 0} → Row → Element → Row → Result U Cause → Type 0
Put r e q (Ok u) = (r.count < 64) × (elements_of q ≡ elements_of r ++ (e ∷ [])) × (q.count ≡ r.count + 1)
Put r e q (Err c) = (64 ≤ r.count) × (c ≡ TooMany)
