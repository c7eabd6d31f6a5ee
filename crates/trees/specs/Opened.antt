-- The ends of the open subtrees, as the check of an image keeps them.
use Rattle.std.specs.Prelude.{ℕ, cond, List, [], ◌∷◌, nat_lt}

-- The ends past a place, where the ends are innermost first.
abbrev pub popped : ℕ → List ℕ → List ℕ
popped p [] = []
popped p (e ∷ es) = cond (nat_lt p e) (e ∷ es) (popped p es)
