-- The loop reads as `read-on` does.
use Rattle.std.proofs.Common.{◌≡◌, ◌+◌, ◌<◌, ◌≤◌, length, refl, ◌∷◌, List, ℕ, drop, Ok, Err, Some, None, Result, MatchResult, sym, ap, ◌∙◌, subst, rules}
use Rattle.std.specs.Result.{IsErrAnd}
use Rattle.std.proofs.lemmas.Result.{err_from_is_err_and}
use Rattle.records.specs.Heads.{length_of}
use Rattle.refusals.specs.declared.Cause.{Cause}
use Rattle.refusals.specs.declared.Refusal.{Refusal}
use Rattle.refusals.specs.declared.Layer.TheVariants.{Book}
use Rattle.refusals.specs.Numbers.{refused}
use Rattle.labels.specs.Entries.{fault, first_entry}
use Rattle.labels.specs.Index.{known, noted}
use Rattle.labels.proofs.Reading.{sets_out, goes_on, stops, arrives}
use Rattle.labels.proofs.index.Index.read_all.Goals as goal

-- what `map_err` gives, from what is known of the two cases
at_ok : (A : ℕ → Type 0) (Q : Cause → Type 0) (P : Cause → Refusal → Type 0) (r : Result ℕ Cause) (m : Result ℕ Refusal) (x : ℕ) → m ≡ Ok x → MatchResult r (λ y. m ≡ Ok y) (λ e. IsErrAnd m (P e)) → MatchResult r A Q → A x
at_ok A Q P (Ok y) m x e h k = let same : y ≡ x = cc in subst A same k
at_ok A Q P (Err y) m x e h k = let wrong : IsErrAnd (Ok x) (P y) = subst (λ (n : Result ℕ Refusal). IsErrAnd n (P y)) e h in absurd wrong

at_err : (A : ℕ → Type 0) (Q : Cause → Type 0) (P : Cause → Refusal → Type 0) (r : Result ℕ Cause) (m : Result ℕ Refusal) (f : Refusal) → m ≡ Err f → MatchResult r (λ y. m ≡ Ok y) (λ e. IsErrAnd m (P e)) → MatchResult r A Q → (e : Cause) × P e f × Q e
at_err A Q P (Ok y) m f e h k = cc
at_err A Q P (Err y) m f e h k = (y, subst (λ (n : Result ℕ Refusal). IsErrAnd n (P y)) e h, k)

pub loop-at-init : goal.loop-at-init
loop-at-init c = record { bytes = refl; underway = sets_out c.args.self.now.bytes.now _ (ap (noted c.args.self.now.bytes.now c.args.self.now.tables.records) c.requires) }

pub returns : goal.returns
returns c =
    let i = c.loop-at.invariant in
    record { same = i.bytes; read = arrives c.args.self.now.bytes.now (known c.loop-at.self.bytes.now c.loop-at.self.tables) c.loop-at.at i.underway (subst (λ (xs : List ℕ). length xs ≤ c.loop-at.at) i.bytes c.loop-at-test.false) }

pub loop-at-preserved : goal.loop-at-preserved
loop-at-preserved c =
    let i = c.loop-at.invariant in
    let bs = c.args.self.now.bytes.now in
    let at = c.loop-at.at in
    let es = known c.loop-at.self.bytes.now c.loop-at.self.tables in
    let fs = known c.read_record.new.self.bytes.now c.read_record.new.self.tables in
    let P : List ℕ → Type 0 = λ bs. (fault es (drop at bs) ≡ None) × (fs ≡ first_entry (drop at bs) ∷ es) × (c.in_ok-at.at ≡ at + length_of (drop at bs)) in
    let on = subst P i.bytes (at_ok _ _ _ _ _ c.in_ok-at.at c.in_ok-at.was c.map_err.ensures.cases c.read_record.ensures.read) in
    let more : at < length bs = subst (λ (xs : List ℕ). at < length xs) i.bytes c.loop-at-test.true in
    record { bytes = c.read_record.ensures.same ∙ i.bytes; underway = (goes_on bs es fs at c.in_ok-at.at i.underway more on.0 on.1 on.2).0 }

pub returns-in_err-at-clause-read : goal.returns-in_err-at-clause-read
returns-in_err-at-clause-read c =
    let i = c.loop-at.invariant in
    let at = c.loop-at.at in
    let bs = c.args.self.now.bytes.now in
    let es = known c.loop-at.self.bytes.now c.loop-at.self.tables in
    let more : at < length bs = subst (λ (xs : List ℕ). at < length xs) i.bytes c.loop-at-test.true in
    let q = at_err _ _ _ _ _ c.in_err-at.field-0.0 c.in_err-at.was c.map_err.ensures.cases c.read_record.ensures.read in
    let p = err_from_is_err_and c.from_residual.result c.from_residual.ensures.1 in
    let called = q.1 in
    let said : c.in_err-at.field-0.0 ≡ refused q.0 Book at 0 = search rules in
    rw (p.1, p.2) (stops bs es at q.0 i.underway more (subst (λ (xs : List ℕ). fault es (drop at xs) ≡ Some q.0) i.bytes q.2) ∙ ap Err (sym said))
