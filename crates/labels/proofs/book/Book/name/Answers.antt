-- The entries of a book rise, and the index knows them.
use Rattle.std.proofs.Common.{sym, ap, ◌∙◌, subst}
use Rattle.labels.specs.Entries.{Rising, name_of}
use Rattle.labels.proofs.Judging.{entries_rise}
use Rattle.labels.proofs.Reading.{pairs_tell}
use Rattle.labels.proofs.book.Book.name.Goals as goal

pub name-requires : goal.name-requires
name-requires c = let b = c.args.self.now in subst Rising (sym (pairs_tell _ _ b.listed)) (entries_rise b.index.bytes.now)

pub returns : goal.returns
returns c = c.name.ensures ∙ ap (λ es. name_of es c.args.label) (pairs_tell _ _ c.args.self.now.listed)
