-- The test of the run.
use Rattle.labels.specs.Entries.{name_byte}
use Rattle.texts.proofs.reader.Reader.quoted.Given as goal

abbrev pub ghost-run_end : goal.ghost-run_end
ghost-run_end a = name_byte
