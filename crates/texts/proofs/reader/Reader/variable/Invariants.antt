-- The test of the run.
use Rattle.texts.specs.Bytes.{namey}
use Rattle.texts.proofs.reader.Reader.variable.Given as goal

abbrev pub ghost-run_end : goal.ghost-run_end
ghost-run_end a = namey
