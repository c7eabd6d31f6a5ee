-- The place is touched, and its row stays.
use Rattle.std.proofs.Common.{◌≡◌, ℕ, Bool, true, List, vec_items, ap}
use Rattle.std.proofs.lemmas.List.{map-set}
use Rattle.std.proofs.Math.Seq.{map-set_same}
use Rattle.runs.specs.Session.{Marks}
use Rattle.sessions.specs.declared.marks.Mark.{Mark}
use Rattle.sessions.proofs.marks.Marks.touch.Goals as goal

same : (n : ℕ) {t u : List Bool} {r s : List (List Bool)} → t ≡ u → r ≡ s → ◌≡◌ {A = Marks} (record { tried = n; touched = t; marks = r; stale = true }) (record { tried = n; touched = u; marks = s; stale = true })
same n a b = λ i. record { tried = n; touched = a i; marks = b i; stale = true }

pub returns-in-Some : goal.returns-in-Some
returns-in-Some c =
    let k = c.args.self.now in
    same k.tried
    (map-set (λ (m : Mark). m.touched) (vec_items k.places) c.args.place _)
    (map-set_same (λ (m : Mark). m.matched) (vec_items k.places) c.args.place _ c.in-Some.mark.now (ap (λ (m : Mark). m.matched) c.in-Some.ensures.value))
