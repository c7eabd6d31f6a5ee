-- The law of every run, and how long the lists of a session are.
use Rattle.runs.proofs.Every.{every_run_lem}
use Rattle.runs.proofs.Sizes.{every_size_lem}
use Rattle.runs.proofs.every_run.Goals as goal

pub returns : goal.returns
returns c = record { law = every_run_lem; sizes = every_size_lem }
