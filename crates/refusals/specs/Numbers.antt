-- The four numbers by which a refusal is known.
use Rattle.std.specs.Prelude.{ℕ}
use Rattle.refusals.specs.declared.Cause.{Cause}
use Rattle.refusals.specs.declared.Cause.TheVariants.{WrongClick, ClickOpen, Stale, NoSuchPattern, NoSuchPlace, ShelfFull, JournalFull, NothingToUndo, BadLength, BadLabel, BadName, BadText, UnknownName, Unpaired, OneTree, TooMany, NoRoom, NoMatch, NoMemory}
use Rattle.refusals.specs.declared.Layer.{Layer}
use Rattle.refusals.specs.declared.Layer.TheVariants.{Book, Image, TreeText, Pattern, Tree, Session}
use Rattle.refusals.specs.declared.Refusal.{Refusal}

-- The number of each cause; 19 to 26 are kept for causes to come.
abbrev pub cause_number : Cause → ℕ
cause_number WrongClick = 1
cause_number ClickOpen = 2
cause_number Stale = 3
cause_number NoSuchPattern = 4
cause_number NoSuchPlace = 5
cause_number ShelfFull = 6
cause_number JournalFull = 7
cause_number NothingToUndo = 8
cause_number BadLength = 9
cause_number BadLabel = 10
cause_number BadName = 11
cause_number BadText = 12
cause_number UnknownName = 13
cause_number Unpaired = 14
cause_number OneTree = 15
cause_number TooMany = 16
cause_number NoRoom = 17
cause_number NoMatch = 18
cause_number NoMemory = 27

-- The number of each layer; 7 is kept for a layer to come.
abbrev pub layer_number : Layer → ℕ
layer_number Book = 1
layer_number Image = 2
layer_number TreeText = 3
layer_number Pattern = 4
layer_number Tree = 5
layer_number Session = 6

-- The refusal with this cause and layer, at a byte, after so many steps.
abbrev pub refused : Cause → Layer → ℕ → ℕ → Refusal
refused c l b s = record { cause = c; layer = l; byte = b; steps = s }

-- The four numbers of a refusal: cause, layer, byte and steps.
abbrev pub numbers : Refusal → ℕ × ℕ × ℕ × ℕ
numbers r = (cause_number r.cause, layer_number r.layer, r.byte, r.steps)
