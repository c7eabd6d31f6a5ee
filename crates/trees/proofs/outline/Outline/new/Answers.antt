-- What the proof of `outline::Outline::new` is asked to show.
use Rattle.std.proofs.Common.{◌≡◌, ◌∙◌, rules}
use Rattle.trees.specs.Scan.{kept}
use Rattle.trees.specs.Outlines.{outline_nodes, outline_meaning}
use Rattle.trees.proofs.OutlineOf.{outline_meant}
use Rattle.trees.proofs.outline.Outline.new.Goals as goal

pub returns-clause-same : goal.returns-clause-same
returns-clause-same c = λ m h e. let meaning : kept c.map-leaf.result (outline_nodes c.args.records.now) ≡ outline_meaning c.args.records.now = search rules in meaning ∙ outline_meant c.args.records.now m h e
