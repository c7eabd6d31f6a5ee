-- What was read so far leads to what is read in the end, and the bytes left become fewer.
use Rattle.std.proofs.Common.{◌≡◌, false, List, [], length}
use Rattle.trees.specs.declared.record.Record.{Record}
use Rattle.texts.specs.Books.{entries_of}
use Rattle.texts.specs.Tokens.{tokens}
use Rattle.texts.specs.TreeText.{tree_scan}
use Rattle.texts.specs.Steps.{bytes_left, scan_on}
use Rattle.texts.proofs.tree.count_nodes.Given as goal

abbrev pub invariant-loop-record : goal.invariant-loop-record
invariant-loop-record l = (rs : List Record) × (length rs ≡ l.nodes.count) × (tree_scan (entries_of l.fn.book) 0 false [] (tokens l.text) ≡ scan_on l.nodes rs)

abbrev pub decreases-loop-record : goal.decreases-loop-record
decreases-loop-record l = bytes_left l.nodes
