-- The answer to a match, and the laws that it keeps.
use Rattle.std.proofs.Common.{◌≡◌, ℕ, ◌+◌, ◌*◌, ◌<◌, ◌≤◌, Bool, true, false, cond, ltb, List, length, replicate, is_ok, Some, None, Ok, Err, Option, Result, sym, refl, ap, ◌∙◌, subst, ⊎_elim, zero-add, arith}
use Rattle.std.proofs.lemmas.Bool.{cases_lt, cond-true, cond-false, lt-ltb, le-ltb, ltb-true}
use Rattle.refusals.specs.declared.Refusal.{Refusal}
use Rattle.trees.specs.Forest.{Forest, Law, size_at, subtree}
use Rattle.trees.specs.Questions.{size_answer, no_such_place}
use Rattle.trees.specs.Windows.{sound}
use Rattle.patterns.specs.declared.row.Element.{Element}
use Rattle.patterns.specs.Elements.{WellFormed}
use Rattle.matching.specs.declared.found.Match.{Match}
use Rattle.matching.specs.Rules.{Bindings, Outcome, tick, match_at_lem, walks}
use Rattle.matching.specs.Readings.{Reads, bound_trees}
use Rattle.matching.specs.Laws.{moved_bound}
use Rattle.matching.specs.Answers.{answered_by, match_answer, steps_of, moved_answer, MatchLaws}
use Rattle.matching.proofs.Fuel.{match_walks}
use Rattle.matching.proofs.Reading.{match_is_a_reading}
use Rattle.matching.proofs.Plainly.{plain_readings_match}
use Rattle.matching.proofs.Steps.{two_steps_a_node}
use Rattle.matching.proofs.Elsewhere.{subtree_alone}

abbrev Answer : Type 0
Answer = Result Match Refusal

-- the size at a place of the tree
pub size_there : (m : Forest) (p n : ℕ) → Ok n ≡ size_answer m p → (p < length m) × (n ≡ size_at m p)
size_there m p n h = go (ltb p (length m)) refl h
  where
    go : (t : Bool) → ltb p (length m) ≡ t → ◌≡◌ {A = Result ℕ Refusal} (Ok n) (cond t (Ok (size_at m p)) (Err no_such_place)) → (p < length m) × (n ≡ size_at m p)
    go true e h = (ltb-true p (length m) e, cc)
    go false e h = let z : ◌≡◌ {A = ℕ} 0 1 = cc in absurd (omega arith)

-- what the level at the place comes to
pub match_ended : (m : Forest) → Law m → (es : List Element) (p n : ℕ) → p < length m → n ≡ size_at m p → (found : Outcome) → found ≡ tick 0 (walks m es p (p + n) (replicate 16 None)) → match_answer m es p ≡ answered_by found.bound found.steps
match_ended m l es p n h k found i =
    let e : match_at_lem m es p ≡ found = match_walks m (sound m l) es p h ∙ ap (λ (x : ℕ). walks m es p (p + x) (replicate 16 None)) (sym k) ∙ (λ r. record { bound = (walks m es p (p + n) (replicate 16 None)).bound; steps = sym (zero-add (walks m es p (p + n) (replicate 16 None)).steps) r }) ∙ sym i in
    cond-true (ltb p (length m)) _ (Err no_such_place) (lt-ltb p (length m) h) ∙ ap (λ (o : Outcome). answered_by o.bound o.steps) e

module _ (m : Forest) (l : Law m) (es : List Element) (f : WellFormed es) (p : ℕ) where
  inside_reading : p < length m → (o : Option Bindings) → (match_at_lem m es p).bound ≡ o → (a : Match) → answered_by o (match_at_lem m es p).steps ≡ Ok a → Reads (bound_trees m a.places) es (subtree m p)
  inside_reading h None e a k = let z : ◌≡◌ {A = ℕ} 0 1 = cc in absurd (omega arith)
  inside_reading h (Some b) e a k = let z : b ≡ a.places = ap (λ (r : Answer). places_or b r) k in subst (λ (c : Bindings). Reads (bound_trees m c) es (subtree m p)) z (match_is_a_reading m es p l f h b e)
    where
      places_or : Bindings → Answer → Bindings
      places_or c (Ok a) = a.places
      places_or c (Err e) = c

  inside_brief : p < length m → (o : Option Bindings) → steps_of (answered_by o (match_at_lem m es p).steps) ≤ 2 * size_at m p
  inside_brief h None = two_steps_a_node m es p l f h
  inside_brief h (Some b) = two_steps_a_node m es p l f h

  abbrev Here : Answer
  Here = answered_by (match_at_lem m es p).bound (match_at_lem m es p).steps

  answer_in : p < length m → match_answer m es p ≡ Here
  answer_in h = cond-true (ltb p (length m)) Here (Err no_such_place) (lt-ltb p (length m) h)

  answer_out : length m ≤ p → match_answer m es p ≡ Err no_such_place
  answer_out h = cond-false (ltb p (length m)) Here (Err no_such_place) (le-ltb p (length m) h)

  moved_answered : (x y : ℕ) (o : Option Bindings) (k : ℕ) → answered_by (moved_bound x y o) k ≡ moved_answer x y (answered_by o k)
  moved_answered x y None k = refl
  moved_answered x y (Some b) k = refl

  inside_alone : p < length m → (n : Forest) (q : ℕ) → Law n → q < length n → subtree m p ≡ subtree n q → match_answer n es q ≡ moved_answer p q Here
  inside_alone h n q k i e =
      cond-true (ltb q (length n)) (answered_by (match_at_lem n es q).bound (match_at_lem n es q).steps) (Err no_such_place) (lt-ltb q (length n) i)
      ∙ ap (λ (o : Outcome). answered_by o.bound o.steps) (subtree_alone m n es p q l k f h i e)
      ∙ moved_answered p q (match_at_lem m es p).bound (match_at_lem m es p).steps

  pub laws_hold : (r : Answer) → r ≡ match_answer m es p → MatchLaws m es p r
  laws_hold r e = ⊎_elim
      (λ h. subst (MatchLaws m es p) (sym (e ∙ answer_in h)) (record {
        reading = λ a k. inside_reading h (match_at_lem m es p).bound refl a k;
        plain = λ i σ w k. let (b, j) = plain_readings_match m es p l f h σ w k in ap (λ (o : Option Bindings). is_ok (answered_by o (match_at_lem m es p).steps)) j;
        brief = inside_brief h (match_at_lem m es p).bound;
        alone = λ i. inside_alone h;
      }))
      (λ h. subst (MatchLaws m es p) (sym (e ∙ answer_out h)) (record {
        reading = λ a k. let z : ◌≡◌ {A = ℕ} 0 1 = cc in absurd (omega arith);
        plain = λ i σ w k. absurd (omega arith);
        brief = omega arith;
        alone = λ i. absurd (omega arith);
      })) (cases_lt p (length m))
