-- The tests of the two runs.
use Rattle.texts.specs.Bytes.{blank, wordy}
use Rattle.texts.proofs.reader.Reader.next.Given as goal

abbrev pub ghost-run_end : goal.ghost-run_end
ghost-run_end a = blank

abbrev pub ghost-run_end-2 : goal.ghost-run_end-2
ghost-run_end-2 a = wordy
