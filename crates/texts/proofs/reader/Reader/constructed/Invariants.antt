-- The test of the run.
use Rattle.texts.specs.Bytes.{wordy}
use Rattle.texts.proofs.reader.Reader.constructed.Given as goal

abbrev pub ghost-run_end : goal.ghost-run_end
ghost-run_end a = wordy
