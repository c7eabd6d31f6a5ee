-- The facts that the type of patterns keeps are those of a row that is a pattern.
use Rattle.std.proofs.Common.{◌≡◌, length, arith, length-take-le}
use Rattle.patterns.specs.declared.pattern.Pattern.{Pattern}
use Rattle.patterns.specs.Elements.{elements_of, IsPattern}

pub kept : (p : Pattern) → IsPattern p.row
kept p =
    let n : length (elements_of p.row) ≡ p.row.count = length-take-le p.row.count p.row.elements p.counted in
    record {
      counted = p.counted;
      formed = record {
        some_element = omega (arith, n, p.some);
        few_elements = omega (arith, n, p.few);
        each = λ i h. record {
          numbered = p.numbered i h;
          sized = p.sized i h;
          inside = p.inside i h;
          nested = λ g j k. p.nested i g (j, k, h);
          shallow = p.shallow i h;
        };
      };
    }
