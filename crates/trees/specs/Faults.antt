-- What it says of a record that nothing is wrong with it, in an outline.
use Rattle.std.specs.Prelude.{◌≡◌, ℕ, ◌<◌, ◌≤◌, Bool, true, false, cond, ◌&&◌, ◌||◌, List, length, is_ok, Some, None, Ok, Err, Option, ◌==◌, nat_lt, slice_index_or, refl}
use Rattle.std.proofs.Common.{sym, ap, ◌∙◌, ⊎_elim, arith}
use Rattle.std.proofs.lemmas.Bool.{cases_lt, ltb-false, le-ltb, lt-ltb, eqb-false, ne_eqb, and_cases, and_left, and_right, or_parts, or_from, cond-true, cond-false, cases_Bool}
use Rattle.refusals.specs.declared.Cause.{Cause}
use Rattle.refusals.specs.declared.Cause.TheVariants.{OneTree, BadLength, BadLabel, TooMany}
use Rattle.refusals.specs.declared.Layer.TheVariants.{Tree}
use Rattle.refusals.specs.Numbers.{refused}
use Rattle.trees.specs.declared.record.Record.{Record}
use Rattle.trees.specs.Scan.{scan}
use Rattle.trees.specs.Outlines.{no_record, depth_limit, record_fault, outline_fault, outline_answer}
use Rattle.trees.specs.Scans.{Clean, scan_all, scan_first, clean}

-- a test that leads to a fault has failed
pub no_fault : (b : Bool) (c : Cause) (o : Option Cause) → cond b (Some c) o ≡ None → (b ≡ false) × (o ≡ None)
no_fault true c o h = let z : ◌≡◌ {A = ℕ} 0 1 = cc in absurd (omega arith)
no_fault false c o h = (refl, h)

pub record Fine (i limit : ℕ) (r : Record) : Type 0 where
  pub one : 0 < i → 0 < r.depth
  pub near : r.depth ≤ limit
  pub small : r.label < 32768
  pub few : i < 4096
  pub low : r.depth < 64

pub fine : (i limit : ℕ) (r : Record) → record_fault i limit r ≡ None → Fine i limit r
fine i limit r h =
    let a = no_fault (nat_lt 0 i && r.depth == 0) OneTree _ h in
    let b = no_fault (nat_lt limit r.depth) BadLength _ a.1 in
    let c = no_fault (nat_lt 32767 r.label) BadLabel _ b.1 in
    let d = no_fault (nat_lt 4095 i || nat_lt 63 r.depth) TooMany None c.1 in
    let e = or_parts (nat_lt 4095 i) (nat_lt 63 r.depth) d.0 in
    record {
      one = λ l. ⊎_elim (λ f. absurd (omega (arith, ltb-false 0 i f))) (λ f. let z = eqb-false r.depth 0 f in omega (arith, z)) (and_cases (nat_lt 0 i) (r.depth == 0) a.0);
      near = ltb-false limit r.depth b.0;
      small = omega (arith, ltb-false 32767 r.label c.0);
      few = omega (arith, ltb-false 4095 i e.0);
      low = omega (arith, ltb-false 63 r.depth e.1);
    }

pub not_two : (i d : ℕ) → (0 < i → 0 < d) → (nat_lt 0 i && d == 0) ≡ false
not_two i d h = ⊎_elim (λ l. and_right (nat_lt 0 i) (d == 0) (ne_eqb d 0 (λ e. omega (arith, h l)))) (λ l. and_left (nat_lt 0 i) (d == 0) (le-ltb 0 i l)) (cases_lt 0 i)

pub faultless : (i limit : ℕ) (r : Record) → Fine i limit r → record_fault i limit r ≡ None
faultless i limit r f =
    cond-false (nat_lt 0 i && r.depth == 0) _ _ (not_two i r.depth f.one)
    ∙ cond-false (nat_lt limit r.depth) _ _ (le-ltb limit r.depth f.near)
    ∙ cond-false (nat_lt 32767 r.label) _ _ (le-ltb 32767 r.label (omega (arith, f.small)))
    ∙ cond-false (nat_lt 4095 i || nat_lt 63 r.depth) _ _ (or_from (nat_lt 4095 i) (nat_lt 63 r.depth) (le-ltb 4095 i (omega (arith, f.few))) (le-ltb 63 r.depth (omega (arith, f.low))))

-- some records are scanned
some_records : (rs : List Record) → 0 < length rs → outline_answer rs ≡ scan (outline_fault rs) (λ i c. refused c Tree i 0) 0 (length rs)
some_records rs h = cond-false (length rs == 0) _ _ (ne_eqb (length rs) 0 (λ e. omega arith))

pub outline_stops : (rs : List Record) (i : ℕ) (c : Cause) → Clean (outline_fault rs) i → i < length rs → outline_fault rs i ≡ Some c → outline_answer rs ≡ Err (refused c Tree i 0)
outline_stops rs i c h l s = some_records rs (omega arith) ∙ scan_first (outline_fault rs) (λ j x. refused x Tree j 0) (length rs) i c h l s

pub outline_passes : (rs : List Record) → 0 < length rs → Clean (outline_fault rs) (length rs) → outline_answer rs ≡ Ok (length rs)
outline_passes rs l h = some_records rs l ∙ scan_all (outline_fault rs) (λ i c. refused c Tree i 0) (length rs) h

-- what it says of all records that they are accepted
pub record Accepted (rs : List Record) : Type 0 where
  pub some : 0 < length rs
  pub each : (i : ℕ) → i < length rs → Fine i (depth_limit rs i) (slice_index_or rs i no_record)

pub accepted : (rs : List Record) → is_ok (outline_answer rs) ≡ true → Accepted rs
accepted rs h = ⊎_elim
    (λ l. record { some = l; each = λ i k. fine i (depth_limit rs i) (slice_index_or rs i no_record) (clean (outline_fault rs) (λ j c. refused c Tree j 0) (length rs) (ap is_ok (sym (some_records rs l)) ∙ h) i k) })
    (λ l. let e = cond-true (length rs == 0) (Err (refused OneTree Tree 0 0)) (scan (outline_fault rs) (λ i c. refused c Tree i 0) 0 (length rs)) (Rattle.std.proofs.lemmas.Bool.eq-eqb (length rs) 0 (omega arith)) in
    let z : false ≡ true = ap is_ok (sym e) ∙ h in let n : ◌≡◌ {A = ℕ} 0 1 = cc in absurd (omega arith))
    (cases_lt 0 (length rs))

pub accepts : (rs : List Record) → Accepted rs → outline_answer rs ≡ Ok (length rs)
accepts rs a = outline_passes rs a.some (λ i k. faultless i (depth_limit rs i) (slice_index_or rs i no_record) (a.each i k))
