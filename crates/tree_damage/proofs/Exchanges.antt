-- An exchange of labels that are there is never refused.
use Rattle.std.proofs.Common.{◌≡◌, ℕ, ◌<◌, ◌&&◌, ltb, length, Ok, Err, Result, sym, ap, ◌∙◌, subst, arith, MatchResult}
use Rattle.std.proofs.lemmas.Bool.{lt-ltb, and_from, cond-true}
use Rattle.refusals.specs.declared.Refusal.{Refusal}
use Rattle.trees.specs.Forest.{Forest, Law, label_at, relabel}
use Rattle.trees.specs.Questions.{label_answer, put_answer, no_such_place, label_too_large}
use Rattle.trees.proofs.Relabel.{length_relabel}
use Rattle.trees.proofs.Comparing.{answered_inside}
use Rattle.trees.proofs.Writes.{label_is}
use Rattle.tree_damage.specs.Exchange.{exchanged, exchange_answer}

-- the second of two labels is put
pub second_put : (m n : Forest) (a b first second : ℕ) → Law m → label_answer m a ≡ Ok first → label_answer m b ≡ Ok second → n ≡ relabel m a second → (put_answer n b first ≡ Ok tt) × (exchange_answer m a b ≡ Ok tt) × (relabel n b first ≡ exchanged m a b)
second_put m n a b first second law x y e =
    let i = answered_inside m a first x in
    let j = answered_inside m b second y in
    let f : first ≡ label_at m a = label_is m a first i x in
    let s : second ≡ label_at m b = label_is m b second j y in
    let k : b < length n = omega (arith, ap length e ∙ length_relabel m a second) in
    let low : first < 32768 = omega (arith, law.labels a i) in (
      cond-true (ltb b (length n)) _ (Err no_such_place) (lt-ltb b (length n) k) ∙ cond-true (ltb first 32768) (Ok tt) (Err label_too_large) (lt-ltb first 32768 low),
      cond-true (ltb a (length m) && ltb b (length m)) (Ok tt) (Err no_such_place) (and_from (ltb a (length m)) (ltb b (length m)) (lt-ltb a (length m) i) (lt-ltb b (length m) j)),
      (λ h. relabel (e h) b first) ∙ (λ h. relabel (relabel m a (s h)) b (f h)),
    )

-- what follows from an accepted call
pub accepted : (P R : Type 0) (Q S : Refusal → Type 0) (r : Result (Unit {0}) Refusal) → r ≡ Ok tt → (P → R) → MatchResult r (λ _. P) Q → MatchResult r (λ _. R) S
accepted P R Q S r e f h = subst (λ x. MatchResult x (λ _. R) S) (sym e) (f (subst (λ x. MatchResult x (λ _. P) Q) e h))
