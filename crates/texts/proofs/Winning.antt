-- How a tree text that is accepted was read, token by token.
use Rattle.std.proofs.Common.{◌≡◌, ℕ, ◌+◌, ◌-◌, Bool, true, false, List, [], ◌∷◌, ◌++◌, length, Some, None, Ok, Err, Option, Result, sym, refl, ap, ◌∙◌, append_assoc, append-nil, arith, length-append}
use Rattle.refusals.specs.declared.Cause.{Cause}
use Rattle.refusals.specs.declared.Cause.TheVariants.{BadText}
use Rattle.refusals.specs.declared.Refusal.{Refusal}
use Rattle.labels.specs.Entries.{Entry}
use Rattle.trees.specs.declared.record.Record.{Record}
use Rattle.texts.specs.Tokens.{Shape, word, quoted, variable, sign, open_group, close_group, fault, end, Spot}
use Rattle.texts.specs.Results.{also}
use Rattle.texts.specs.TreeText.{tree_fault, node_answer, end_fault_lem, sign_fault_lem, is_open, tree_scan}
use Rattle.texts.proofs.Results.{err_not_ok, same_ok, also_ok, then_ok}

pub no_fault : {X : Type 0} (o : Option Cause) (x : Result X Refusal) (g : Cause → Refusal) {q : X} → ◌≡◌ {A = Result X Refusal} (elim o [ None ↦ x | Some c ↦ Err (g c) ]) (Ok q) → (o ≡ None) × (x ≡ Ok q)
no_fault None x g h = (refl, h)
no_fault (Some c) x g h = absurd (err_not_ok h)

-- these tokens are read into these records, behind those that stand
pub data Scans (es : List Entry) : ℕ → Bool → List Record → List Spot → List Record → Type 0 where
  none : {d : ℕ} {e : Bool} {rs : List Record} → Scans es d e rs [] rs
  stop : {d : ℕ} {e : Bool} {rs : List Record} {t : Spot} → end_fault_lem d (length rs) ≡ None → Scans es d e rs (t ∷ []) rs
  leaf : {d : ℕ} {e : Bool} {rs qs : List Record} {t u : Spot} {us : List Spot} (w : List ℕ) (r : Record) → t.what ≡ quoted w → node_answer es d (length rs) w t.start ≡ Ok r → Scans es d false (rs ++ (r ∷ [])) (u ∷ us) qs → Scans es d e rs (t ∷ u ∷ us) qs
  node : {d : ℕ} {e : Bool} {rs qs : List Record} {t u : Spot} {us : List Spot} (w : List ℕ) (r : Record) → t.what ≡ word w → is_open u.what ≡ true → node_answer es d (length rs) w t.start ≡ Ok r → Scans es (d + 1) true (rs ++ (r ∷ [])) us qs → Scans es d e rs (t ∷ u ∷ us) qs
  close : {d : ℕ} {e : Bool} {rs qs : List Record} {t u : Spot} {us : List Spot} (b : ℕ) → t.what ≡ sign b → sign_fault_lem b d e ≡ None → Scans es (d - 1) false rs (u ∷ us) qs → Scans es d e rs (t ∷ u ∷ us) qs

cast : {es : List Entry} {d : ℕ} {e : Bool} {rs qs ps : List Record} {ts : List Spot} → qs ≡ ps → Scans es d e rs ts qs → Scans es d e rs ts ps
cast h s = rw h at s

pub scans : (es : List Entry) (d : ℕ) (e : Bool) (rs : List Record) (ts : List Spot) (qs : List Record) → tree_scan es d e rs ts ≡ Ok qs → Scans es d e rs ts qs
scans es d e rs [] qs h = cast (same_ok h) none
scans es d e rs (t ∷ []) qs h = let f = no_fault (end_fault_lem d (length rs)) (Ok rs) (λ c. tree_fault c t.start) h in cast (same_ok f.1) (stop f.0)
scans es d e rs (t ∷ u ∷ us) qs h =
    let go : (x : Shape) → t.what ≡ x → tree_scan es d e rs (record { what = x; start = t.start; to = t.to } ∷ u ∷ us) ≡ Ok qs → Scans es d e rs (t ∷ u ∷ us) qs =
    λ x q. elim x as (λ y. t.what ≡ y → tree_scan es d e rs (record { what = y; start = t.start; to = t.to } ∷ u ∷ us) ≡ Ok qs → Scans es d e rs (t ∷ u ∷ us) qs) [
      | word w ↦ λ p g.
          let o = then_ok (is_open u.what) (also (node_answer es d (length rs) w t.start) (λ r. tree_scan es (d + 1) true (rs ++ (r ∷ [])) us)) (tree_fault BadText t.start) g in
          let a = also_ok (node_answer es d (length rs) w t.start) (λ r. tree_scan es (d + 1) true (rs ++ (r ∷ [])) us) o.1 in
          node w a.0 p o.0 a.1 (scans es (d + 1) true (rs ++ (a.0 ∷ [])) us qs a.2)
      | quoted w ↦ λ p g.
          let a = also_ok (node_answer es d (length rs) w t.start) (λ r. tree_scan es d false (rs ++ (r ∷ [])) (u ∷ us)) g in
          leaf w a.0 p a.1 (scans es d false (rs ++ (a.0 ∷ [])) (u ∷ us) qs a.2)
      | variable k w ↦ λ p g. absurd (err_not_ok g)
      | sign b ↦ λ p g.
          let f = no_fault (sign_fault_lem b d e) (tree_scan es (d - 1) false rs (u ∷ us)) (λ c. tree_fault c t.start) g in
          close b p f.0 (scans es (d - 1) false rs (u ∷ us) qs f.1)
      | open_group ↦ λ p g. absurd (err_not_ok g)
      | close_group ↦ λ p g. absurd (err_not_ok g)
      | fault ↦ λ p g. absurd (err_not_ok g)
      | end ↦ λ p g. absurd (err_not_ok g)
    ] q in
    go t.what refl h

-- what stood stays in front
pub extends : {es : List Entry} {d : ℕ} {e : Bool} {rs : List Record} {ts : List Spot} {qs : List Record} → Scans es d e rs ts qs → (ps : List Record) × (qs ≡ rs ++ ps)
extends {es} {d} {e} {rs} none = ([], sym (append-nil rs))
extends {es} {d} {e} {rs} (stop f) = ([], sym (append-nil rs))
extends {es} {d} {e} {rs} (leaf w r p a s) = let x = extends s in (r ∷ x.0, x.1 ∙ append_assoc rs (r ∷ []) x.0)
extends {es} {d} {e} {rs} (node w r p o a s) = let x = extends s in (r ∷ x.0, x.1 ∙ append_assoc rs (r ∷ []) x.0)
extends (close b p f s) = extends s

no_more : (rs ps : List Record) → length rs ≡ length (rs ++ ps) → rs ++ ps ≡ rs
no_more rs [] l = append-nil rs
no_more rs (p ∷ ps) l = absurd (omega (arith, length-append rs (p ∷ ps)))

-- where as many stood as were read, none was added
pub stays : (es : List Entry) (d : ℕ) (e : Bool) (rs : List Record) (ts : List Spot) (qs : List Record) → tree_scan es d e rs ts ≡ Ok qs → length rs ≡ length qs → qs ≡ rs
stays es d e rs ts qs h l = let x = extends (scans es d e rs ts qs h) in x.1 ∙ no_more rs x.0 (l ∙ ap length x.1)
