-- The last entry goes, and it counts no changes.
use Rattle.std.proofs.cmp.Tests.{ltb_from_iff}
use Rattle.std.proofs.Common.{◌≡◌, ◌<◌, true, false, List, [], ◌++◌, length, get_or, drop, is_some, Some, None, vec_items, vec_len, sum_by, Option, sym, refl, ap, ◌∙◌, arith, rules}
use Rattle.std.proofs.lemmas.List.Sums.{sum_by_push}
use Rattle.std.proofs.lemmas.Bool.{lt-ltb, both_ways}
use Rattle.std.specs.Option.{option_to_list}
use Rattle.sessions.specs.declared.entry.Click.{Click}
use Rattle.sessions.specs.declared.entry.Replaced.{Replaced}
use Rattle.sessions.specs.Held.{held}
use Rattle.sessions.proofs.Tables.{of, length_held, forgotten}
use Rattle.sessions.proofs.journal.Journal.forget.Goals as goal

-- the sum stays, and the clicks are those behind the first
record Gone (ks ls : List Click) (rs : List Replaced) : Type 0 where
  sums : sum_by of ls ≡ length rs
  rest : held ls rs ≡ drop 1 (held ks rs)

gone : (ks ls : List Click) (o : Option Click) (rs : List Replaced) → is_some o ≡ true → ks ≡ ls ++ option_to_list o → sum_by of ks ≡ length rs → get_or (held ks rs) 0 [] ≡ [] → Gone ks ls rs
gone ks ls None rs t e s h = absurd (both_ways false refl t)
gone ks ls (Some k) rs t e s h =
    let f = forgotten ls k rs (sym (ap (sum_by of) e) ∙ s) (sym (ap (λ x. get_or (held x rs) 0 []) e) ∙ h) in
    record {
      sums = omega (arith, sum_by_push of ls k, f.none, ap (sum_by of) e, s);
      rest = f.rest ∙ sym (ap (λ x. drop 1 (held x rs)) e);
    }

pub invariant_of-self : goal.invariant_of-self
invariant_of-self c =
    let j = c.args.self.now in
    let some : 0 < vec_len j.clicks = omega (arith, length_held (vec_items j.clicks) (vec_items j.changes), j.clicks.ok.0, c.requires.0) in
    let g = gone _ _ c.pop.result (vec_items j.changes) ((ltb_from_iff c.pop.ensures.variant) ∙ lt-ltb 0 (vec_len j.clicks) some) c.pop.ensures.items (j.counted ∙ j.changes.ok.0) c.requires.1 in
    record { click_room = search rules; change_room = search rules; counted = g.sums ∙ sym j.changes.ok.0; begun = (λ e. absurd (both_ways false refl e)); labels = search rules }

pub returns : goal.returns
returns c =
    let j = c.args.self.now in
    let some : 0 < vec_len j.clicks = omega (arith, length_held (vec_items j.clicks) (vec_items j.changes), j.clicks.ok.0, c.requires.0) in
    let g = gone _ _ c.pop.result (vec_items j.changes) ((ltb_from_iff c.pop.ensures.variant) ∙ lt-ltb 0 (vec_len j.clicks) some) c.pop.ensures.items (j.counted ∙ j.changes.ok.0) c.requires.1 in
    record { held = g.rest; closed = refl }
