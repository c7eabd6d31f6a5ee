-- The ends of nodes leave what is read in the end as it is, and the bytes left become fewer.
use Rattle.std.proofs.Common.{◌≡◌, ◌≤◌, List, length}
use Rattle.trees.specs.declared.record.Record.{Record}
use Rattle.texts.specs.Steps.{bytes_left, scan_on}
use Rattle.texts.proofs.tree.reading.TreeReader.next_record.Given as goal

abbrev pub invariant-loop-name : goal.invariant-loop-name
invariant-loop-name l = record {
  same : (rs : List Record) → length rs ≡ l.initial.self.count → scan_on l.initial.self rs ≡ scan_on l.self rs;
  count : l.self.count ≡ l.initial.self.count;
  left : bytes_left l.self ≤ bytes_left l.initial.self;
}

abbrev pub decreases-loop-name : goal.decreases-loop-name
decreases-loop-name l = bytes_left l.self
