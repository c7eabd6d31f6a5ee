-- The name that is answered stands beside its label in the book.
use Rattle.std.proofs.Common.{◌≡◌, ℕ, suc, eqb, List, [], ◌∷◌, Some, None, Ok, Err, Option, Result, sym, refl, ◌∙◌, inl, inr, ⊎_elim, arith}
use Rattle.std.proofs.lemmas.Bool.{cases_Bool, cond-true, cond-false, eqb-true, eqb-false}
use Rattle.std.specs.List.{ContainsAt, AllByRecursion}
use Rattle.refusals.specs.declared.Cause.TheVariants.{UnknownName}
use Rattle.refusals.specs.declared.Layer.TheVariants.{Book}
use Rattle.refusals.specs.declared.Refusal.{Refusal}
use Rattle.refusals.specs.Numbers.{refused}
use Rattle.labels.specs.Entries.{Entry, name_of, named, read_book}
use Rattle.labels.specs.Laws.{Named}
use Rattle.labels.proofs.Judging.{Outcome, outcome, no_book}

-- an entry with a label and a name
abbrev entry : ℕ → List ℕ → Entry
entry l n = record { label = l; name = n }

has_more : (e x : Entry) (es : List Entry) → ContainsAt es x → ContainsAt (e ∷ es) x
has_more e x es (k, h, a) = (suc k, omega arith, a)

name_found : (es : List Entry) (l : ℕ) (n : List ℕ) → name_of es l ≡ Some n → ContainsAt es (entry l n)
name_found [] l n h = cc
name_found (e ∷ es) l n h = ⊎_elim
    (λ t.
    let same : e.label ≡ l = eqb-true e.label l t in
    let some : Some e.name ≡ Some n = sym (cond-true (eqb e.label l) (Some e.name) (name_of es l) t) ∙ h in
    let name : e.name ≡ n = cc in
    (0, omega arith, λ d. λ i. record { label = same i; name = name i }))
    (λ f. has_more e (entry l n) es (name_found es l n (sym (cond-false (eqb e.label l) (Some e.name) (name_of es l) f) ∙ h)))
    (cases_Bool (eqb e.label l))

name_missing : (es : List Entry) (l : ℕ) → name_of es l ≡ None → AllByRecursion (λ (e : Entry). e.label ≡ l → ⊥) es
name_missing [] l h = tt
name_missing (e ∷ es) l h = ⊎_elim
    (λ t. let wrong : Some e.name ≡ None = sym (cond-true (eqb e.label l) (Some e.name) (name_of es l) t) ∙ h in cc)
    (λ f. (eqb-false e.label l f, name_missing es l (sym (cond-false (eqb e.label l) (Some e.name) (name_of es l) f) ∙ h)))
    (cases_Bool (eqb e.label l))

abbrev by_name : Option (List ℕ) → Result (List ℕ) Refusal
by_name o = elim o [ Some n ↦ Ok n | None ↦ Err (refused UnknownName Book 0 0) ]

-- what is answered for a name is right
pub named_law : (bs : List ℕ) (l : ℕ) → Named bs l (named (read_book bs) l)
named_law bs l =
    let go : (r : Result (List Entry) Refusal) → read_book bs ≡ r → Outcome bs r → Named bs l (named r l) = λ r.
    elim r as (λ q. read_book bs ≡ q → Outcome bs q → Named bs l (named q l)) [
      | Ok es ↦ λ k b.
          let by : (o : Option (List ℕ)) → name_of es l ≡ o → Named bs l (by_name o) = λ o.
          elim o as (λ p. name_of es l ≡ p → Named bs l (by_name p)) [
            | Some n ↦ λ h. (es, b, name_found es l n h)
            | None ↦ λ h. inl (es, b, refl, name_missing es l h)
          ] in
          by (name_of es l) refl
      | Err f ↦ λ k o. inr (o (no_book bs f k))
    ] in
    go (read_book bs) refl (outcome bs)
