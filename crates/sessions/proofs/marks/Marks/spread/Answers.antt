-- One place more, towards the first.
use Rattle.std.proofs.Common.{◌≡◌, ℕ, ◌+◌, ◌-◌, ◌<◌, Bool, false, List, length, get_or, take, drop, set, vec_items, sym, ap, ◌∙◌, subst, ⊎_elim, arith}
use Rattle.std.proofs.lemmas.List.{map-set, length-map, get_or-map, get_or-set_same, get_or-set_other, ext_get_or}
use Rattle.std.proofs.Math.Seq.{map-set_same}
use Rattle.std.proofs.lemmas.Bool.{cases_eq}
use Rattle.std.specs.Bool.{then_some}
use Rattle.std.specs.Option.{option_or}
use Rattle.trees.specs.Forest.{Forest, size_at}
use Rattle.runs.specs.Session.{any}
use Rattle.sessions.specs.declared.marks.Mark.{Mark}
use Rattle.sessions.specs.Looks.{touched_of}
use Rattle.sessions.specs.Tries.{spread_out, Nearest, within}
use Rattle.runs.proofs.Marking.{length_tabulate, get_d_tabulate}
use Rattle.sessions.proofs.Tried.{any_within, nearest_step}
use Rattle.sessions.proofs.marks.Marks.spread.Goals as goal

pub loop-place-preserved : goal.loop-place-preserved
loop-place-preserved g c =
    let m : Forest = g.T.Meant.meaning c.args.tree.now in
    let items : List Mark = vec_items c.loop-place.self.places in
    let t : List Bool = touched_of items in
    let u : List Bool = touched_of (vec_items c.args.self.now.places) in
    let p : ℕ = c.loop-place.place - 1 in
    let one : c.loop-place.place ≡ c.loop-place.place - 1 + 1 = omega arith in
    let inside : c.loop-place.place - 1 < length (vec_items c.loop-place.self.places) = omega (arith, c.loop-place.self.places.ok.0, c.loop-place.invariant.len, c.loop-place.auto.place, c.len-place.ensures) in
    let within_t : c.loop-place.place - 1 < length (touched_of (vec_items c.loop-place.self.places)) = omega (arith, inside, length-map (vec_items c.loop-place.self.places) (λ (x : Mark). x.touched)) in
    let read : c.index.result.now.touched ≡ get_or u p false = ap (λ (x : Mark). x.touched) c.index.ensures ∙ sym (get_or-map (λ (x : Mark). x.touched) items p c.index.result.now false inside) ∙ c.loop-place.invariant.before (c.loop-place.place - 1) (omega arith) in
    let step : c.or-nearest.result ≡ option_or (then_some c.index.result.now.touched (c.loop-place.place - 1)) c.loop-place.nearest = c.or-nearest.ensures ∙ ap (λ x. option_or x c.loop-place.nearest) c.then_some.ensures in
    let near : Nearest u (c.loop-place.place - 1) c.or-nearest.result = subst (Nearest u (c.loop-place.place - 1)) (sym step) (nearest_step u p c.index.result.now.touched c.loop-place.nearest read (subst (λ (k : ℕ). Nearest u k c.loop-place.nearest) one c.loop-place.invariant.near)) in
    let value : c.reaches.result ≡ any (take (size_at m p) (drop p u)) = c.reaches.ensures ∙ ap (within c.or-nearest.result (c.loop-place.place - 1)) c.size_of.ensures ∙ sym (any_within u p (size_at m p) c.or-nearest.result near) in
    record {
      len = c.loop-place.invariant.len;
      tried = c.loop-place.invariant.tried;
      stale = c.loop-place.invariant.stale;
      rows = map-set_same (λ (x : Mark). x.matched) items p _ c.index_mut.result.now (ap (λ (x : Mark). x.matched) c.index_mut.ensures.value) ∙ c.loop-place.invariant.rows;
      before = λ q h. ap (λ (y : List Bool). get_or y q false) (map-set (λ (x : Mark). x.touched) items p _) ∙ get_or-set_other t p q c.reaches.result false (λ e. omega arith) ∙ c.loop-place.invariant.before q (omega arith);
      behind = λ q a b. ap (λ (y : List Bool). get_or y q false) (map-set (λ (x : Mark). x.touched) items p _) ∙ ⊎_elim
          (λ (e : q ≡ c.loop-place.place - 1).
          ap (λ (x : ℕ). get_or (set t p c.reaches.result) x false) e
          ∙ get_or-set_same t p c.reaches.result false within_t
          ∙ value
          ∙ ap (λ (x : ℕ). any (take (size_at m x) (drop x u))) (sym e))
          (λ ne. get_or-set_other t p q c.reaches.result false ne ∙ c.loop-place.invariant.behind q (omega (arith, ne)) b)
          (cases_eq q (c.loop-place.place - 1));
      near = near;
    }

pub returns : goal.returns
returns g c =
    let m : Forest = g.T.Meant.meaning c.args.tree.now in
    let t : List Bool = touched_of (vec_items c.loop-place.self.places) in
    let u : List Bool = touched_of (vec_items c.args.self.now.places) in
    let long : length t ≡ length u = length-map (vec_items c.loop-place.self.places) (λ (x : Mark). x.touched) ∙ omega (arith, c.loop-place.self.places.ok.0, c.args.self.now.places.ok.0, c.loop-place.invariant.len) ∙ sym (length-map (vec_items c.args.self.now.places) (λ (x : Mark). x.touched)) in
    let all : t ≡ spread_out m u = ext_get_or false t (spread_out m u) (long ∙ sym (length_tabulate (λ i. any (take (size_at m i) (drop i u))) (length u))) (λ q h.
    let l : q < length (touched_of (vec_items c.args.self.now.places)) = omega (arith, long) in
    c.loop-place.invariant.behind q (omega arith) l ∙ sym (get_d_tabulate (λ i. any (take (size_at m i) (drop i u))) (length u) q false l)) in
    λ i. record { tried = c.loop-place.invariant.tried i; touched = all i; marks = c.loop-place.invariant.rows i; stale = c.loop-place.invariant.stale i }
