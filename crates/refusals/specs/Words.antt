-- How a refusal is written.
use Rattle.std.specs.Prelude.{ℕ, List, ◌++◌, codes}
use Rattle.std.specs.Fmt.{decimal}
use Rattle.refusals.specs.declared.Cause.{Cause}
use Rattle.refusals.specs.declared.Cause.TheVariants.{WrongClick, ClickOpen, Stale, NoSuchPattern, NoSuchPlace, ShelfFull, JournalFull, NothingToUndo, BadLength, BadLabel, BadName, BadText, UnknownName, Unpaired, OneTree, TooMany, NoRoom, NoMatch, NoMemory}
use Rattle.refusals.specs.declared.Refusal.{Refusal}
use Rattle.refusals.specs.Numbers.{cause_number, layer_number}

-- The words of each cause.
abbrev pub cause_words : Cause → List ℕ
cause_words WrongClick = codes "wrong click"
cause_words ClickOpen = codes "click open"
cause_words Stale = codes "stale"
cause_words NoSuchPattern = codes "no such pattern"
cause_words NoSuchPlace = codes "no such place"
cause_words ShelfFull = codes "shelf full"
cause_words JournalFull = codes "journal full"
cause_words NothingToUndo = codes "nothing to undo"
cause_words BadLength = codes "bad length"
cause_words BadLabel = codes "bad label"
cause_words BadName = codes "bad name"
cause_words BadText = codes "bad text"
cause_words UnknownName = codes "unknown name"
cause_words Unpaired = codes "unpaired"
cause_words OneTree = codes "one tree"
cause_words TooMany = codes "too many"
cause_words NoRoom = codes "no room"
cause_words NoMatch = codes "no match"
cause_words NoMemory = codes "no memory"

-- A refusal in words: its cause by number and words, and then layer, byte and steps.
abbrev pub refusal_words : Refusal → List ℕ
refusal_words r = codes "refused " ++ (decimal (cause_number r.cause) ++ (codes " " ++ (cause_words r.cause ++ (codes " (layer " ++ (decimal (layer_number r.layer) ++ (codes ", byte " ++ (decimal r.byte ++ (codes ", steps " ++ (decimal r.steps ++ codes ")")))))))))
