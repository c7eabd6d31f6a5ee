-- The row of a text that is read is a pattern.
use Rattle.texts.specs.Books.{entries_of}
use Rattle.texts.proofs.Accepted.{accepted_row}
use Rattle.texts.proofs.pattern.read_pattern.Goals as goal

pub unwrap-requires : goal.unwrap-requires
unwrap-requires c = c.from_row.ensures.test.1 (accepted_row (entries_of c.open-checked.result.0) c.args.text.now c.in_ok-elements.elements c.in_ok-elements.ensures)
