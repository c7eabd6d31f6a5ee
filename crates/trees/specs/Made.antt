-- What the makes of trees mean.
use Rattle.trees.specs.declared.image.Image.{Image}
use Rattle.trees.specs.declared.outline.Outline.{Outline}
use Rattle.trees.specs.Forest.{Forest}
use Rattle.trees.specs.Scan.{kept}
use Rattle.trees.specs.Outlines.{outline_nodes}
use Rattle.trees.specs.Images.{image_nodes}

-- What an outline means.
abbrev pub outline_tree : Outline → Forest
outline_tree t = kept t.leaf (outline_nodes t.records.now)

-- What an image means.
abbrev pub image_tree : Image → Forest
image_tree t = kept t.leaf (image_nodes t.bytes.now)
