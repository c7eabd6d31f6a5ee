-- The reading of tree text, node by node.
use Rattle.std.specs.Prelude.{◌≡◌, ℕ, ◌+◌, ◌-◌, ◌<◌, List, [], ◌∷◌, ◌++◌, length, Some, None, Ok, Err, Option, Result}
use Rattle.refusals.specs.declared.Refusal.{Refusal}
use Rattle.trees.specs.declared.record.Record.{Record}
use Rattle.texts.specs.declared.tree.reading.TreeReader.{TreeReader}
use Rattle.texts.specs.Books.{entries_of}
use Rattle.texts.specs.Tokens.{tokens_from}
use Rattle.texts.specs.TreeText.{tree_scan}

-- The records of the text that is left, behind those that stand.
abbrev pub scan_on : TreeReader → List Record → Result (List Record) Refusal
scan_on p rs = tree_scan (entries_of p.book.now) p.depth p.empty rs (tokens_from p.reader.text.now p.reader.at)

-- How many bytes are left.
abbrev pub bytes_left : TreeReader → ℕ
bytes_left p = length p.reader.text.now - p.reader.at

-- The next node is read, or there is none; and the records that are read in the end stay the same.
abbrev pub Stepped : TreeReader → TreeReader → Result (Option Record) Refusal → Type 0
Stepped p q (Ok (Some r)) = ((rs : List Record) → length rs ≡ p.count → scan_on p rs ≡ scan_on q (rs ++ (r ∷ []))) × (q.count ≡ p.count + 1) × (bytes_left q < bytes_left p)
Stepped p q (Ok None) = ((rs : List Record) → length rs ≡ p.count → scan_on p rs ≡ Ok rs) × (q.count ≡ p.count)
Stepped p q (Err f) = (rs : List Record) → length rs ≡ p.count → scan_on p rs ≡ Err f
