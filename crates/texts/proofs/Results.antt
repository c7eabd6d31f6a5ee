-- What an answer that is no fault says of the parts before it.
use Rattle.std.proofs.Common.{◌≡◌, ℕ, Bool, true, false, cond, Ok, Err, Result, refl, arith}
use Rattle.texts.specs.Results.{also}

pub err_not_ok : {X F : Type 0} {x : X} {f : F} → ◌≡◌ {A = Result X F} (Err f) (Ok x) → ⊥
err_not_ok h = let z : ◌≡◌ {A = ℕ} 0 1 = cc in omega arith

pub same_ok : {X F : Type 0} {x y : X} → ◌≡◌ {A = Result X F} (Ok x) (Ok y) → x ≡ y
same_ok h = cc

pub also_ok : {X Y F : Type 0} (a : Result X F) (go : X → Result Y F) {q : Y} → also a go ≡ Ok q → (x : X) × (a ≡ Ok x) × (go x ≡ Ok q)
also_ok (Ok x) go h = (x, refl, h)
also_ok (Err c) go h = absurd (err_not_ok h)

-- the branch that answers
pub then_ok : {X F : Type 0} (b : Bool) (x : Result X F) (f : F) {q : X} → cond b x (Err f) ≡ Ok q → (b ≡ true) × (x ≡ Ok q)
then_ok true x f h = (refl, h)
then_ok false x f h = absurd (err_not_ok h)

pub else_ok : {X F : Type 0} (b : Bool) (x : Result X F) (f : F) {q : X} → cond b (Err f) x ≡ Ok q → (b ≡ false) × (x ≡ Ok q)
else_ok true x f h = absurd (err_not_ok h)
else_ok false x f h = (refl, h)
