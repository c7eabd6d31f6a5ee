-- What the proof of `image::Image::new` is asked to show.
use Rattle.std.proofs.Common.{◌≡◌, ◌∙◌, rules}
use Rattle.trees.specs.Scan.{kept}
use Rattle.trees.specs.Images.{image_nodes, image_meaning}
use Rattle.trees.proofs.ImageOf.{image_meant}
use Rattle.trees.proofs.image.Image.new.Goals as goal

pub returns-clause-same : goal.returns-clause-same
returns-clause-same c = λ m h e. let meaning : kept c.map-leaf.result (image_nodes c.args.bytes.now) ≡ image_meaning c.args.bytes.now = search rules in meaning ∙ image_meant c.args.bytes.now m h e
