-- What a tree's answers tell of a place and a label.
use Rattle.std.proofs.Common.{◌≡◌, ℕ, ◌<◌, ◌≤◌, Bool, true, false, cond, ltb, length, Ok, Err, Result, sym, refl, ap, ◌∙◌, ⊎_elim, arith, MatchResult}
use Rattle.std.specs.Result.{result_unwrap_or}
use Rattle.std.proofs.lemmas.Bool.{lt-ltb, le-ltb, cases_lt, cond-true, cond-false, ltb-false}
use Rattle.std.proofs.lemmas.List.{get_or_past}
use Rattle.refusals.specs.declared.Refusal.{Refusal}
use Rattle.trees.specs.Forest.{Forest, Node, no_node, size_at, relabel}
use Rattle.trees.specs.Questions.{size_answer, put_answer, no_such_place, label_too_large}
use Rattle.trees.proofs.Relabel.{relabel_out}

-- a size, and 0 outside
pub size_told : (m : Forest) (p : ℕ) → result_unwrap_or (size_answer m p) 0 ≡ size_at m p
size_told m p = ⊎_elim
    (λ (l : p < length m). ap (λ (r : Result ℕ Refusal). result_unwrap_or r 0) (cond-true (ltb p (length m)) (Ok (size_at m p)) (Err no_such_place) (lt-ltb p (length m) l)))
    (λ (l : length m ≤ p). ap (λ (r : Result ℕ Refusal). result_unwrap_or r 0) (cond-false (ltb p (length m)) (Ok (size_at m p)) (Err no_such_place) (le-ltb p (length m) l)) ∙ sym (ap (λ (a : Node). a.size) (get_or_past m p no_node l)))
    (cases_lt p (length m))

err_put : (b w : Bool) (e : Refusal) → b ≡ true → ◌≡◌ {A = Result (Unit {0}) Refusal} (Err e) (cond b (cond w (Ok tt) (Err label_too_large)) (Err no_such_place)) → (w ≡ false) × (e ≡ label_too_large)
err_put true true e t h = let z : ◌≡◌ {A = ℕ} 0 1 = cc in absurd (omega arith)
err_put true false e t h = (refl, cc)
err_put false true e t h = let z : ◌≡◌ {A = ℕ} 0 1 = cc in absurd (omega arith)
err_put false false e t h = let z : ◌≡◌ {A = ℕ} 0 1 = cc in absurd (omega arith)

-- a label that was refused at a place of the tree, and one that was put
pub put_wide : (m : Forest) (p l : ℕ) (e : Refusal) → p < length m → Err e ≡ put_answer m p l → (32768 ≤ l) × (e ≡ label_too_large)
put_wide m p l e h a =
    let k = err_put (ltb p (length m)) (ltb l 32768) e (lt-ltb p (length m) h) a in
    (ltb-false l 32768 k.0, k.1)

-- a label that is put: at a place outside the tree it leaves the tree, and so does the definition
pub put_kept : {T : Type 0} (f : T → Forest) (t u : T) (p l : ℕ) (r : Result (Unit {0}) Refusal) → r ≡ put_answer (f t) p l → MatchResult r (λ _. f u ≡ relabel (f t) p l) (λ _. u ≡ t) → l < 32768 → f u ≡ relabel (f t) p l
put_kept f t u p l (Ok x) a d h = d
put_kept f t u p l (Err e) a d h =
    ⊎_elim (λ (i : p < length (f t)). absurd (omega (arith, (put_wide (f t) p l e i a).0))) (λ (o : length (f t) ≤ p). ap f d ∙ sym (relabel_out (f t) p l o)) (cases_lt p (length (f t)))
