-- The count is tested last, and a record that passes the tests is noted.
use Rattle.std.proofs.Common.{◌≡◌, ◌<◌, ◌∷◌, List, ℕ, false, length, drop, sym, ap, ◌∙◌, arith, rules}
use Rattle.std.proofs.lemmas.List.{take_rest, length-set}
use Rattle.std.specs.Result.{result_ok}
use Rattle.labels.specs.declared.entry.Entry.{Entry as Lent}
use Rattle.labels.specs.Entries.{Entry, bad_length, bad_label, bad_name, first_entry}
use Rattle.labels.specs.Index.{known}
use Rattle.labels.proofs.Chains.{length_noted, note_known, note_whole, note_heads, note_links}
use Rattle.labels.proofs.Faults.{fault_many, fault_none}
use Rattle.labels.proofs.Wholes.{good_parts, name_length}
use Rattle.labels.proofs.index.Index.read_record.Goals as goal

-- an entry that was read, and the tests that it passed
record Passed (es : List Entry) (r : List ℕ) (e : Lent) : Type 0 where
  long : bad_length r ≡ false
  label : bad_label es (first_entry r).label ≡ false
  name : bad_name es (first_entry r).name ≡ false
  labelled : e.label ≡ (first_entry r).label
  named : e.name.now ≡ (first_entry r).name

passed : (es : List Entry) (s r : List ℕ) (e : Lent) → s ≡ r → (bad_length s ≡ false) × (e.label ≡ (first_entry s).label) × (e.name.now ≡ (first_entry s).name) → false ≡ bad_label es e.label → false ≡ bad_name es e.name.now → Passed es r e
passed es s r e is h l n =
    let labelled : e.label ≡ (first_entry r).label = h.1 ∙ ap (λ x. (first_entry x).label) is in
    let named : e.name.now ≡ (first_entry r).name = h.2 ∙ ap (λ x. (first_entry x).name) is in
    record { long = sym (ap bad_length is) ∙ h.0; label = sym (l ∙ ap (bad_label es) labelled); name = sym (n ∙ ap (bad_name es) named); labelled = labelled; named = named }

pub returns-then-self-ge-MOST-clause-read : goal.returns-then-self-ge-MOST-clause-read
returns-then-self-ge-MOST-clause-read c =
    let x = c.args.self.now in
    let t = x.tables in
    let rest = drop c.args.at x.bytes.now in
    let was = c.ok_or.ensures.ok_part ∙ ap result_ok c.in_ok-entry.was in
    let free = rw (c.ok_or-2.ensures.ok_part ∙ ap result_ok c.in_ok-key.was) at c.free_key.ensures in
    let p = passed (known x.bytes.now t) _ rest c.in_ok-entry.entry (take_rest x.bytes.now c.args.at) (rw was at c.read_entry.ensures) c.if-is_bad_label.ensures (sym free.0) in
    fault_many (known x.bytes.now t) rest p.long p.label p.name (omega (arith, length_noted x.bytes.now t.records t.count (omega (arith, x.full, x.few))))

pub note-requires-clause-near : goal.note-requires-clause-near
note-requires-clause-near c =
    let x = c.args.self.now in
    let t = x.tables in
    omega (arith, c.requires.near, length_noted x.bytes.now t.records t.count (omega (arith, x.full, x.few)))

pub invariant_of-self : goal.invariant_of-self
invariant_of-self c =
    let x = c.args.self.now in
    let s = x.tables in
    let t = c.note.new.self in
    let bs = x.bytes.now in
    let name = c.in_ok-key.key.name.now in
    let room : s.count < length s.records = omega (arith, x.full) in
    let long : length s.last ≡ 4096 = search rules in
    let was = c.ok_or.ensures.ok_part ∙ ap result_ok c.in_ok-entry.was in
    let free = rw (c.ok_or-2.ensures.ok_part ∙ ap result_ok c.in_ok-key.was) at c.free_key.ensures in
    let p = passed (known bs s) _ (drop c.args.at bs) c.in_ok-entry.entry (take_rest bs c.args.at) (rw was at c.read_entry.ensures) c.if-is_bad_label.ensures (sym free.0) in
    let named = sym (free.1 ∙ p.named) in
    record {
      full = ap length c.note.ensures.records ∙ length-set s.records s.count _ ∙ x.full;
      few = omega (arith, c.note.ensures.count);
      whole = note_whole bs s t _ _ name c.note.ensures room p.long x.whole;
      heads = note_heads bs s t _ _ name c.note.ensures room named long x.heads;
      links = note_links bs s t _ _ name c.note.ensures room named x.heads x.links;
    }

pub returns-clause-read : goal.returns-clause-read
returns-clause-read c =
    let x = c.args.self.now in
    let s = x.tables in
    let t = c.note.new.self in
    let bs = x.bytes.now in
    let name = c.in_ok-key.key.name.now in
    let rest = drop c.args.at bs in
    let room : s.count < length s.records = omega (arith, x.full) in
    let was = c.ok_or.ensures.ok_part ∙ ap result_ok c.in_ok-entry.was in
    let free = rw (c.ok_or-2.ensures.ok_part ∙ ap result_ok c.in_ok-key.was) at c.free_key.ensures in
    let p = passed (known bs s) _ rest c.in_ok-entry.entry (take_rest bs c.args.at) (rw was at c.read_entry.ensures) c.if-is_bad_label.ensures (sym free.0) in (
      fault_none (known bs s) rest p.long p.label p.name (omega (arith, length_noted bs s.records s.count (omega arith))),
      note_known bs s t _ _ name c.note.ensures room (sym (free.1 ∙ p.named)) ∙ (λ i. record { label = p.labelled i; name = (free.1 ∙ p.named) i } ∷ known bs s),
      omega (arith, ap length p.named, name_length rest (good_parts rest p.long)),
    )
