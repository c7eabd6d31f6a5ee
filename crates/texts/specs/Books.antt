-- The entries by which texts are read.
use Rattle.std.specs.Prelude.{List}
use Rattle.labels.specs.Entries.{Entry, entries}
use Rattle.labels.specs.declared.book.Book.{Book}

-- The entries of an open book.
abbrev pub entries_of : Book → List Entry
entries_of b = entries b.index.bytes.now
