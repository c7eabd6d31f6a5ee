-- What the proof of `outline::tree::OutlineTree::places` is asked to show.
use Rattle.std.proofs.Common.{sym, ◌∙◌}
use Rattle.trees.specs.Outlining.{length_nodes}
use Rattle.trees.specs.Leaves.{length_kept}
use Rattle.trees.proofs.outline.tree.OutlineTree.places.Goals as goal

pub returns-in-None : goal.returns-in-None
returns-in-None c = sym (length_kept _ _ c.in-None.is ∙ length_nodes c.args.self.now.records.now)
