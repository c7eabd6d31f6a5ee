-- The slots that were filled hold what was read so far.
use Rattle.std.proofs.Common.{◌≡◌, false, [], take}
use Rattle.texts.specs.Books.{entries_of}
use Rattle.texts.specs.Tokens.{tokens}
use Rattle.texts.specs.TreeText.{tree_scan}
use Rattle.texts.specs.Steps.{scan_on}
use Rattle.texts.proofs.tree.write_nodes.Given as goal

abbrev pub invariant-loop-slot : goal.invariant-loop-slot
invariant-loop-slot l = record {
  count : l.nodes.count ≡ l.slot-index;
  same : tree_scan (entries_of l.fn.book) 0 false [] (tokens l.text) ≡ scan_on l.nodes (take l.slot-index l.records);
}
