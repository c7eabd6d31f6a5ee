-- A click begins with no changes.
use Rattle.std.proofs.Common.{◌≡◌, vec_items, vec_len, sum_by, refl, ap, ◌∙◌, arith, rules}
use Rattle.std.proofs.lemmas.List.Sums.{sum_by_push}
use Rattle.sessions.specs.Held.{held}
use Rattle.sessions.proofs.Tables.{of, length_held, held_begun}
use Rattle.sessions.proofs.journal.Journal.begin.Goals as goal

pub push_reserved-requires : goal.push_reserved-requires
push_reserved-requires c =
    let j = c.args.self.now in
    omega (arith, length_held (vec_items j.clicks) (vec_items j.changes), j.clicks.ok.0, j.click_room, c.requires)

pub invariant_of-self : goal.invariant_of-self
invariant_of-self c =
    let j = c.args.self.now in
    let sums : sum_by of (vec_items c.push_reserved.new.self) ≡ vec_len j.changes = ap (sum_by of) c.push_reserved.ensures.items ∙ sum_by_push of (vec_items j.clicks) (record { changes = 0 }) ∙ omega (arith, j.counted) in
    record { click_room = search rules; change_room = search rules; counted = sums; begun = (λ _. omega (arith, c.push_reserved.ensures.len)); labels = search rules }

pub returns : goal.returns
returns c =
    let j = c.args.self.now in
    record {
      held = ap (λ ks. held ks (vec_items j.changes)) c.push_reserved.ensures.items ∙ held_begun (vec_items j.clicks) (vec_items j.changes);
      opened = refl;
    }
