-- What follows a part that could be read.
use Rattle.std.specs.Prelude.{Ok, Err, Result}

-- What follows a part that could be read; a fault stays.
abbrev pub also : {X Y F : Type 0} → Result X F → (X → Result Y F) → Result Y F
also (Ok x) go = go x
also (Err c) go = Err c
