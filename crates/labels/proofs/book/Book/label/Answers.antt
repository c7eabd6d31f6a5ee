-- The index knows the entries of the book.
use Rattle.std.proofs.Common.{ap, ◌∙◌}
use Rattle.labels.specs.Entries.{label_of}
use Rattle.labels.proofs.Reading.{pairs_tell}
use Rattle.labels.proofs.book.Book.label.Goals as goal

pub returns : goal.returns
returns c = c.label.ensures ∙ ap (λ es. label_of es c.args.name.now) (pairs_tell _ _ c.args.self.now.listed)
