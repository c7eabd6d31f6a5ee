-- Writing a tree as an image.
use Rattle.std.specs.Prelude.{◌≡◌, ℕ, ◌*◌, cond, List, ◌++◌, length, drop, Ok, Err, Result, nat_lt}
use Rattle.refusals.specs.declared.Cause.TheVariants.{NoRoom}
use Rattle.refusals.specs.declared.Layer.TheVariants.{Image}
use Rattle.refusals.specs.declared.Refusal.{Refusal}
use Rattle.refusals.specs.Numbers.{refused}
use Rattle.trees.specs.Forest.{Forest}
use Rattle.trees.specs.Images.{image_answer, image_meaning, image_of}

-- The answer to the writing of a tree into some bytes: how many it takes, or that they are too few.
abbrev pub write_answer : Forest → List ℕ → Result ℕ Refusal
write_answer m bs = cond (nat_lt (length bs) (6 * length m)) (Err (refused NoRoom Image 0 0)) (Ok (6 * length m))

-- The bytes after the writing of a tree: its image and then what followed, or all as it was where they are too few.
abbrev pub written : Forest → List ℕ → List ℕ
written m bs = cond (nat_lt (length bs) (6 * length m)) bs (image_of m ++ drop (6 * length m) bs)

-- Bytes read back as a tree: they are accepted, and mean it.
abbrev pub ReadsBack : Forest → List ℕ → Type 0
ReadsBack m bs = (image_answer bs ≡ Ok (length m)) × (image_meaning bs ≡ m)
