-- The rows compute.
use Rattle.std.proofs.Common.{refl}
use Rattle.matching.proofs.Witness.{law_S, law_D, formed_bb, formed_gyzt}
use Rattle.matching.proofs.worked_rows.Goals as goal

pub returns : goal.returns
returns c = record {
  rows = record { row_1 = refl; row_2 = refl; row_3 = refl; row_4 = refl; row_5 = refl; row_6 = refl; row_7 = refl; row_8 = refl; lawful_S = law_S; lawful_D = law_D; formed_bb = formed_bb; formed_gyzt = formed_gyzt };
  more = record { row_9 = refl; row_10 = refl; row_11 = refl; row_12 = refl; row_13 = refl; row_14 = refl; row_15 = refl; row_16 = refl; row_17 = refl; row_18 = refl; row_19 = refl };
  count = refl;
}
