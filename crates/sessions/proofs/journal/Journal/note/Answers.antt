-- The last click's count is raised, and the change is noted behind the others.
use Rattle.std.proofs.Common.{◌≡◌, ◌+◌, ◌-◌, ◌<◌, true, length, get_or, set, Some, vec_items, vec_len, sum_by, Option, MutBor, IfSome, ap, ◌∙◌, subst, arith, rules}
use Rattle.std.proofs.lemmas.List.Sums.{sum_by-set}
use Rattle.sessions.specs.declared.entry.Click.{Click}
use Rattle.sessions.specs.declared.journal.Journal.{Journal as Tables}
use Rattle.sessions.specs.Held.{held, all_labels}
use Rattle.sessions.proofs.Tables.{of, length_held, one_last, total_held, held_noted, labels_push}
use Rattle.sessions.proofs.journal.Journal.note.Goals as goal

-- what is behind the reference to the last click
lent : (j : Tables) (o : Option (MutBor Click)) (r : MutBor Click) → o ≡ Some r → IfSome o (λ x. x.now ≡ get_or (vec_items j.clicks) (vec_len j.clicks - 1) x.now) → r.now ≡ get_or (vec_items j.clicks) (vec_len j.clicks - 1) r.now
lent j o r e h = subst (λ (p : Option (MutBor Click)). IfSome p (λ x. x.now ≡ get_or (vec_items j.clicks) (vec_len j.clicks - 1) x.now)) e h

one : (j : Tables) → j.pending ≡ true → length (vec_items j.clicks) ≡ vec_len j.clicks - 1 + 1
one j h = one_last j (omega (arith, length_held (vec_items j.clicks) (vec_items j.changes), j.begun h, j.clicks.ok.0))

pub push_reserved-requires : goal.push_reserved-requires
push_reserved-requires c =
    let j = c.args.self.now in
    omega (arith, total_held (vec_items j.clicks) (vec_items j.changes) _ j.changes.ok.0 j.counted, c.requires.room, j.change_room)

pub invariant_of-self : goal.invariant_of-self
invariant_of-self c =
    let j = c.args.self.now in
    let is = ap of (lent j c.last_mut.result c.unwrap-click.result c.unwrap-click.ensures c.last_mut.ensures.value) in
    let inside : vec_len j.clicks - 1 < length (vec_items j.clicks) = omega (arith, one j c.requires.during) in
    let more = sum_by-set of (vec_items j.clicks) (vec_len j.clicks - 1) (record { changes = c.unwrap-click.result.now.changes + 1 }) c.unwrap-click.result.now inside in
    let sums : sum_by of (set (vec_items j.clicks) (vec_len j.clicks - 1) (record { changes = c.unwrap-click.result.now.changes + 1 })) ≡ vec_len c.push_reserved.new.self = omega (arith, more, is, j.counted, c.push_reserved.ensures.len) in
    let low : all_labels (vec_items c.push_reserved.new.self) ≡ true = ap all_labels c.push_reserved.ensures.items ∙ labels_push (vec_items j.changes) c.args.replaced j.labels c.requires.small in
    record { click_room = search rules; change_room = search rules; counted = sums; begun = j.begun; labels = low }

pub returns-clause-held : goal.returns-clause-held
returns-clause-held c =
    let j = c.args.self.now in
    let x = c.unwrap-click.result.now in
    let n = vec_len j.clicks - 1 in
    let y : Click = record { changes = c.unwrap-click.result.now.changes + 1 } in
    ap (held (set (vec_items j.clicks) n y)) c.push_reserved.ensures.items
    ∙ held_noted (vec_items j.clicks) n x (one j c.requires.during) y (vec_items j.changes) c.args.replaced (ap (λ k. of k + 1) (lent j c.last_mut.result c.unwrap-click.result c.unwrap-click.ensures c.last_mut.ensures.value))
