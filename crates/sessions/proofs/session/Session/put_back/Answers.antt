-- A change put back is one change less to put back.
use Rattle.std.proofs.Common.{false, List, [], length, get_or, drop, sym, refl, ap, ◌∙◌, arith}
use Rattle.runs.specs.Session.{Change, put, touching}
use Rattle.sessions.specs.Held.{journal_of}
use Rattle.sessions.specs.Journals.{clicks_of}
use Rattle.sessions.specs.Looks.{marks_view}
use Rattle.sessions.specs.Shelves.{shelf_view}
use Rattle.sessions.proofs.Ends.{same_state}
use Rattle.sessions.proofs.Puts.{put_kept}
use Rattle.sessions.proofs.session.Session.put_back.Goals as goal

pub loop-replaced-init : goal.loop-replaced-init
loop-replaced-init g c = (c.requires, refl, refl, refl, refl, refl)

pub take_back-requires : goal.take_back-requires
take_back-requires g c = c.loop-replaced.invariant.0

pub loop-replaced-smaller : goal.loop-replaced-smaller
loop-replaced-smaller g c = omega (arith, ap (λ (gs : List (List Change)). length (get_or gs 0 [])) c.in-Some.ensures.held.0)

pub loop-replaced-preserved : goal.loop-replaced-preserved
loop-replaced-preserved g c =
    let s = c.loop-replaced.self in
    let r = c.in-Some.replaced in
    let gs = clicks_of c.take_back.new.self in
    let was = c.in-Some.ensures.held.0 in
    let kept = put_kept g.T.Meant.meaning s.tree c.put.new.self r.place r.label c.put.result c.put.ensures.answer c.put.ensures.done c.in-Some.ensures.held.1 in (
      c.in-Some.ensures.some,
      ap (put (get_or (clicks_of c.take_back.new.self) 0 [])) kept ∙ sym (ap (λ (x : List (List Change)). put (get_or x 0 []) (g.T.Meant.meaning s.tree)) was) ∙ c.loop-replaced.invariant.1,
      sym (ap (drop 1) was) ∙ c.loop-replaced.invariant.2,
      ap (λ k. touching k (get_or (clicks_of c.take_back.new.self) 0 [])) c.touch.ensures ∙ sym (ap (λ (x : List (List Change)). touching (marks_view s.marks) (get_or x 0 [])) was) ∙ c.loop-replaced.invariant.3,
      c.loop-replaced.invariant.4,
      c.loop-replaced.invariant.5,
    )

pub forget-requires : goal.forget-requires
forget-requires g c = (c.in_default.ensures.some, ap (λ j. get_or (clicks_of j) 0 []) c.in_default.ensures.same ∙ c.in_default.ensures.held)

pub returns : goal.returns
returns g c =
    let s = c.loop-replaced.self in
    let empty = c.in_default.ensures.held in
    same_state
    c.loop-replaced.invariant.5
    (sym (ap (λ (cs : List Change). put cs (g.T.Meant.meaning s.tree)) empty) ∙ c.loop-replaced.invariant.1)
    (ap shelf_view c.loop-replaced.invariant.4)
    (ap (λ b. journal_of b (clicks_of c.forget.new.self)) c.forget.ensures.closed ∙ ap (journal_of false) (c.forget.ensures.held ∙ ap (λ j. drop 1 (clicks_of j)) c.in_default.ensures.same ∙ c.loop-replaced.invariant.2))
    (c.outdate.ensures ∙ sym (ap (touching (marks_view s.marks)) empty) ∙ c.loop-replaced.invariant.3)
