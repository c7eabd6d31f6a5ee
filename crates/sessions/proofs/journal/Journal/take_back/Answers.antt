-- The last click's count is lowered, and the last change is taken from the others.
use Rattle.std.proofs.cmp.Tests.{ltb_from_iff}
use Rattle.std.proofs.Common.{◌≡◌, ℕ, ◌+◌, ◌-◌, ◌<◌, ◌≤◌, true, false, List, [], ◌∷◌, ◌++◌, length, get_or, drop, set, is_some, Some, None, vec_items, vec_len, sum_by, Option, sym, refl, ap, ◌∙◌, arith, length-set, rules, MatchOption}
use Rattle.std.proofs.lemmas.List.Sums.{sum_by-set, get_or-le-sum_by}
use Rattle.std.proofs.lemmas.Bool.{lt-ltb, both_ways}
use Rattle.std.specs.Option.{option_to_list}
use Rattle.sessions.specs.declared.entry.Click.{Click}
use Rattle.sessions.specs.declared.entry.Replaced.{Replaced}
use Rattle.sessions.specs.declared.journal.Journal.{Journal as Tables}
use Rattle.sessions.specs.Held.{held, change_of, all_labels}
use Rattle.sessions.proofs.Tables.{of, length_held, one_last, held_empty, held_taken, labels_split}
use Rattle.sessions.proofs.journal.Journal.take_back.Goals as goal

length_some : {A : Type 0} (o : Option A) → is_some o ≡ true → length (option_to_list o) ≡ 1
length_some None t = absurd (both_ways false refl t)
length_some (Some x) t = refl

taken : (ks : List Click) (n : ℕ) (d : Click) → length ks ≡ n + 1 → (y : Click) → (get_or ks n d).changes ≡ y.changes + 1 → (rs qs : List Replaced) (o : Option Replaced) → is_some o ≡ true → rs ≡ qs ++ option_to_list o → all_labels rs ≡ true → MatchOption o (get_or (held ks rs) 0 [] ≡ []) (λ r. (held ks rs ≡ (change_of r ∷ get_or (held (set ks n y) qs) 0 []) ∷ drop 1 (held (set ks n y) qs)) × (r.label < 32768))
taken ks n d e y h rs qs None t i l = absurd (both_ways false refl t)
taken ks n d e y h rs qs (Some r) t i l = (ap (held ks) i ∙ held_taken ks n d e y qs r h, (labels_split qs r (sym (ap all_labels i) ∙ l)).1)

labels_left : (rs qs : List Replaced) (o : Option Replaced) → is_some o ≡ true → rs ≡ qs ++ option_to_list o → all_labels rs ≡ true → all_labels qs ≡ true
labels_left rs qs None t i l = absurd (both_ways false refl t)
labels_left rs qs (Some r) t i l = (labels_split qs r (sym (ap all_labels i) ∙ l)).0

pub returns-in_err-click-2-clause-held : goal.returns-in_err-click-2-clause-held
returns-in_err-click-2-clause-held c =
    let j = c.args.self.now in
    let none : c.in_ok-click.click.now.changes ≡ 0 = search rules in
    rw c.from_residual-in_err-click-2.ensures (held_empty (vec_items j.clicks) (vec_len j.clicks - 1) c.in_ok-click.click.now (one_last j c.requires) (vec_items j.changes) (sym (ap of c.in_ok-click.ensures.value) ∙ none))

-- a click with changes has one in the table
some_change : (j : Tables) (x : Click) → 0 < length (held (vec_items j.clicks) (vec_items j.changes)) → x ≡ get_or (vec_items j.clicks) (vec_len j.clicks - 1) x → 1 ≤ x.changes → 0 < vec_len j.changes
some_change j x h e m = omega (arith, one_last j h, get_or-le-sum_by of (vec_items j.clicks) (vec_len j.clicks - 1) x (omega (arith, one_last j h)), ap of e, m, j.counted)

pub invariant_of-self-2 : goal.invariant_of-self-2
invariant_of-self-2 c =
    let j = c.args.self.now in
    let x = c.in_ok-click.click.now in
    let n = vec_len j.clicks - 1 in
    let y : Click = record { changes = c.in_ok-click-2.field-0 } in
    let inside : vec_len j.clicks - 1 < length (vec_items j.clicks) = omega (arith, one_last j c.requires) in
    let less = sum_by-set of (vec_items j.clicks) (vec_len j.clicks - 1) (record { changes = c.in_ok-click-2.field-0 }) c.in_ok-click.click.now inside in
    let is = ap of c.in_ok-click.ensures.value in
    let t = ltb_from_iff c.pop.ensures.variant ∙ lt-ltb 0 (vec_len j.changes) (some_change j x c.requires c.in_ok-click.ensures.value c.in_ok-click-2.ensures.0) in
    let sums : sum_by of (set (vec_items j.clicks) (vec_len j.clicks - 1) (record { changes = c.in_ok-click-2.field-0 })) ≡ vec_len c.pop.new.self = omega (arith, less, is, j.counted, c.pop.ensures.len, length_some c.pop.result t, c.in_ok-click-2.ensures.0, c.in_ok-click-2.ensures.1) in
    record { click_room = search rules; change_room = search rules; counted = sums; begun = j.begun; labels = labels_left _ _ c.pop.result t c.pop.ensures.items j.labels }

pub returns-clause-held : goal.returns-clause-held
returns-clause-held c =
    let j = c.args.self.now in
    let x = c.in_ok-click.click.now in
    let y : Click = record { changes = c.in_ok-click-2.field-0 } in
    let t = ltb_from_iff c.pop.ensures.variant ∙ lt-ltb 0 (vec_len j.changes) (some_change j x c.requires c.in_ok-click.ensures.value c.in_ok-click-2.ensures.0) in
    taken (vec_items j.clicks) (vec_len j.clicks - 1) x (one_last j c.requires) y (sym (ap of c.in_ok-click.ensures.value) ∙ omega (arith, c.in_ok-click-2.ensures.0, c.in_ok-click-2.ensures.1)) (vec_items j.changes) (vec_items c.pop.new.self) c.pop.result t c.pop.ensures.items j.labels

pub returns-clause-some : goal.returns-clause-some
returns-clause-some c =
    let j = c.args.self.now in
    omega (arith, c.requires, length_held (vec_items j.clicks) (vec_items j.changes), length_held (set (vec_items j.clicks) (vec_len j.clicks - 1) (record { changes = c.in_ok-click-2.field-0 })) (vec_items c.pop.new.self), length-set (vec_items j.clicks) (vec_len j.clicks - 1) (record { changes = c.in_ok-click-2.field-0 }))
