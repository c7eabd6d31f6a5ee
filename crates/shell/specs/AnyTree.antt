-- What a tree of either make means.
use Rattle.shell.specs.declared.desk.store.AnyTree.{AnyTree}
use Rattle.shell.specs.declared.desk.store.AnyTree.TheVariants.{Image, Outline}
use Rattle.trees.specs.Forest.{Forest, Law}
use Rattle.trees.specs.Made.{image_tree, outline_tree}
use Rattle.trees.specs.ImagePuts.{image_kept}
use Rattle.trees.specs.OutlinePuts.{outline_kept}

-- What a tree of either make means: what the image or the outline means.
abbrev pub any_tree : AnyTree → Forest
any_tree (Image t) = image_tree t
any_tree (Outline t) = outline_tree t

-- It keeps the law of every tree.
pub any_kept : (t : AnyTree) → Law (any_tree t)
any_kept (Image t) = image_kept t.leaf t.bytes.now t.checked t.low
any_kept (Outline t) = outline_kept t.leaf t.records.now t.checked t.low
