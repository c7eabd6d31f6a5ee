-- What is left of the bytes gives the entries behind those that are known.
use Rattle.std.proofs.Common.{◌≡◌, ◌-◌, length}
use Rattle.labels.specs.Index.{known}
use Rattle.labels.proofs.Reading.{Underway}
use Rattle.labels.proofs.index.Index.read_all.Given as goal

abbrev pub invariant-loop-at : goal.invariant-loop-at
invariant-loop-at l = record {
  bytes : l.self.bytes.now ≡ l.fn.self.bytes.now;
  underway : Underway l.fn.self.bytes.now (known l.self.bytes.now l.self.tables) l.at;
}

abbrev pub decreases-loop-at : goal.decreases-loop-at
decreases-loop-at l = length l.fn.self.bytes.now - l.at
