-- A blank mark for each place.
use Rattle.std.proofs.Common.{false, ap, ◌∙◌}
use Rattle.sessions.specs.declared.marks.Mark.{Mark}
use Rattle.sessions.specs.Looks.{touched_of, rows_of}
use Rattle.sessions.proofs.Tried.{map_same}
use Rattle.sessions.proofs.marks.Marks.new.Goals as goal

pub returns : goal.returns
returns c =
    let all = c.in_ok-places.ensures.items_if_clones_equal (λ y h. h) in
    λ i. record {
      tried = 0;
      touched = (ap touched_of all ∙ map_same (λ (m : Mark). m.touched) c.args.places _) i;
      marks = (ap rows_of all ∙ map_same (λ (m : Mark). m.matched) c.args.places _) i;
      stale = false;
    }
