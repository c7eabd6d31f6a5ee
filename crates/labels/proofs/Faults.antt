-- Which fault a record has, by the first test that fails.
use Rattle.std.proofs.Common.{◌≡◌, ◌<◌, ◌≤◌, ℕ, true, false, List, length, Some, None, arith}
use Rattle.std.proofs.lemmas.Bool.{le-ltb, lt-ltb}
use Rattle.refusals.specs.declared.Cause.TheVariants.{BadLength, BadLabel, BadName, TooMany}
use Rattle.labels.specs.Entries.{Entry, first_entry, bad_length, bad_label, bad_name, fault}

pub fault_length : (es : List Entry) (bs : List ℕ) → bad_length bs ≡ true → fault es bs ≡ Some BadLength
fault_length es bs h = rw h

module _ (es : List Entry) (bs : List ℕ) (long : bad_length bs ≡ false) where
  pub fault_label : bad_label es (first_entry bs).label ≡ true → fault es bs ≡ Some BadLabel
  fault_label h = rw (long, h)

  module _ (label : bad_label es (first_entry bs).label ≡ false) where
    pub fault_name : bad_name es (first_entry bs).name ≡ true → fault es bs ≡ Some BadName
    fault_name h = rw (long, label, h)

    module _ (name : bad_name es (first_entry bs).name ≡ false) where
      pub fault_many : 4096 ≤ length es → fault es bs ≡ Some TooMany
      fault_many h = rw (long, label, name, lt-ltb 4095 (length es) h)

      pub fault_none : length es < 4096 → fault es bs ≡ None
      fault_none h = rw (long, label, name, le-ltb 4095 (length es) (omega arith))
