-- Whole records.
use Rattle.std.proofs.Common.{◌≡◌, ℕ, ◌+◌, ◌-◌, ◌≤◌, false, ltb, List, length, drop, arith, length-drop, length-take}
use Rattle.std.proofs.lemmas.Bool.{le-ltb, or_from, or_parts, ltb-false}
use Rattle.records.specs.Heads.{length_of}
use Rattle.labels.specs.Entries.{first_entry, bad_length}

pub record Parts (bs : List ℕ) : Type 0 where
  pub head : 6 ≤ length bs
  pub least : 6 ≤ length_of bs
  pub fits : length_of bs ≤ length bs

-- a good length, taken apart
pub good_parts : (bs : List ℕ) → bad_length bs ≡ false → Parts bs
good_parts bs h =
    let (a, k) = or_parts (ltb (length bs) 6) _ h in
    let (b, d) = or_parts (ltb (length_of bs) 6) (ltb (length bs) (length_of bs)) k in
    record { head = ltb-false _ _ a; least = ltb-false _ _ b; fits = ltb-false _ _ d }

pub parts_good : (bs : List ℕ) → 6 ≤ length_of bs → length_of bs ≤ length bs → bad_length bs ≡ false
parts_good bs h k =
    or_from (ltb (length bs) 6) _ (le-ltb _ _ (omega arith)) (or_from (ltb (length_of bs) 6) (ltb (length bs) (length_of bs)) (le-ltb _ _ h) (le-ltb _ _ k))

-- a whole record is six bytes and its name
pub name_length : (bs : List ℕ) → Parts bs → 6 + length (first_entry bs).name ≡ length_of bs
name_length bs h = omega (arith, length-take (length_of bs - 6) (drop 6 bs), length-drop 6 bs, h.least, h.fits)
