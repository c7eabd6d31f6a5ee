-- The pattern is tried at one place more, or not.
use Rattle.std.proofs.Common.{◌≡◌, ℕ, ◌+◌, ◌<◌, Bool, true, false, cond, ◌||◌, leb, List, [], ◌++◌, length, get_or, drop, set, is_some, sym, refl, ap, ◌∙◌, add-zero, arith}
use Rattle.std.proofs.lemmas.List.{map-set, length-map, get_or-map}
use Rattle.std.proofs.Math.Seq.{map-set_same}
use Rattle.std.proofs.lemmas.Bool.{cond-true, cond-false}
use Rattle.patterns.specs.declared.row.Element.{Element}
use Rattle.patterns.specs.Elements.{elements_of}
use Rattle.trees.specs.Forest.{Forest}
use Rattle.matching.specs.Rules.{match_at_lem}
use Rattle.runs.specs.Session.{tabulate, total}
use Rattle.sessions.specs.declared.marks.Mark.{Mark}
use Rattle.sessions.specs.Looks.{touched_of, rows_of}
use Rattle.sessions.specs.Tries.{tried_row}
use Rattle.sessions.proofs.Tried.{written_more, kept_more, read_here, total_more}
use Rattle.sessions.proofs.marks.Marks.try_pattern.Goals as goal
use Rattle.sessions.proofs.marks.Marks.try_pattern.Goals.{then-tries, else-tries}

pub loop-place-preserved : goal.loop-place-preserved
loop-place-preserved g c =
    let m : Forest = g.T.Meant.meaning c.args.tree.now in
    let es : List Element = elements_of c.args.pattern.now.row in
    let n : ℕ = c.args.number in
    let new : Bool = leb c.args.self.now.tried c.args.number in
    let was : List Mark = c.deref_mut-mark-items.result.now in
    let items : List Mark = c.loop-place.mark-items in
    let t : List Bool = touched_of was in
    let rows : List (List Bool) = rows_of was in
    let p : ℕ = c.loop-place.place in
    let f : ℕ → List Bool = tried_row m es n new t rows in
    let F : ℕ → ℕ = λ i. cond (new || get_or t i false) (match_at_lem m es i).steps 0 in
    let inside : c.loop-place.place < length c.loop-place.mark-items = omega (arith, c.loop-place-test.true, c.loop-place.auto.mark-items) in
    let h : c.loop-place.place < length (rows_of c.deref_mut-mark-items.result.now) = omega (arith, c.loop-place-test.true, c.loop-place.auto.mark-items, length-map c.deref_mut-mark-items.result.now (λ (x : Mark). x.matched)) in
    let read : (get_or items p c.mark-item.result).touched ≡ get_or t p false = sym (get_or-map (λ (x : Mark). x.touched) items p c.mark-item.result false inside) ∙ ap (λ (y : List Bool). get_or y p false) c.loop-place.invariant.touched in
    let test : (new || get_or t p false) ≡ c.tries.result = ap (λ (b : Bool). new || b) (sym read) ∙ sym c.tries.ensures in
    elim c.if-tries.branch [
      | then-tries w ↦
          let yes : (new || get_or t p false) ≡ true = test ∙ w.if-tries.true in
          let hit : Bool = is_some (match_at_lem m es p).bound in
          record {
            touched = ap touched_of w.mark-items-is ∙ map-set_same (λ (x : Mark). x.touched) items p _ c.mark-item.result w.try_pattern-steps.ensures.touched ∙ c.loop-place.invariant.touched;
            rows = ap rows_of w.mark-items-is
                ∙ map-set (λ (x : Mark). x.matched) items p _
                ∙ ap (set (rows_of items) p) (w.try_pattern-steps.ensures.matched ∙ ap (λ (r : List Bool). set r n hit) (sym (get_or-map (λ (x : Mark). x.matched) items p c.mark-item.result [] inside)))
                ∙ ap (λ (y : List (List Bool)). set y p (set (get_or y p []) n hit)) c.loop-place.invariant.rows
                ∙ ap (λ (r : List Bool). set (tabulate f p ++ drop p rows) p (set r n hit)) (read_here f rows p [] h)
                ∙ ap (λ (r : List Bool). set (tabulate f p ++ drop p rows) p r) (sym (cond-true (new || get_or t p false) (set (get_or rows p []) n hit) (get_or rows p []) yes))
                ∙ written_more f rows p [] h;
            steps = w.steps-is ∙ (λ i. c.loop-place.invariant.steps i + (w.try_pattern-steps.ensures.steps ∙ sym (cond-true (new || get_or t p false) (match_at_lem m es p).steps 0 yes)) i) ∙ sym (total_more F p);
            few = omega (arith, w.steps-is, c.loop-place.invariant.few, w.try_pattern-steps.ensures.few);
          }
      | else-tries w ↦
          let nay : (new || get_or t p false) ≡ false = test ∙ w.if-tries.false in
          record {
            touched = ap touched_of w.mark-items-is ∙ map-set_same (λ (x : Mark). x.touched) items p _ c.mark-item.result refl ∙ c.loop-place.invariant.touched;
            rows = ap rows_of w.mark-items-is ∙ map-set_same (λ (x : Mark). x.matched) items p _ c.mark-item.result refl ∙ c.loop-place.invariant.rows ∙ kept_more f rows p [] h (cond-false (new || get_or t p false) (set (get_or rows p []) n (is_some (match_at_lem m es p).bound)) (get_or rows p []) nay);
            steps = w.steps-is ∙ c.loop-place.invariant.steps ∙ sym (total_more F p ∙ ap (λ (x : ℕ). total F p + x) (cond-false (new || get_or t p false) (match_at_lem m es p).steps 0 nay) ∙ add-zero (total F p));
            few = omega (arith, w.steps-is, c.loop-place.invariant.few);
          }
    ]
