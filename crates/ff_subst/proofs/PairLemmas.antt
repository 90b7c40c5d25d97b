-- What is known of the parts of a pair.
use Rattle.std.proofs.Common.{ℕ, ◌<◌, List, length, arith}
use Rattle.ff_theory.specs.Ring.{Elements}
use Rattle.ff_theory.specs.Lawful.{Lawful}
use Rattle.ff_theory.specs.Values.{IsPlane}
use Rattle.ff_elem.proofs.Quotients.{element-count}
use Rattle.ff_data.specs.declared.pair.Pair.{Pair}
use Rattle.ff_data.specs.Pairs.{IsPair}
use Rattle.ff_subst.specs.Inverse.{ArePairPolys, IsSmallPair}

module _ (K : Elements ℕ) (L : Lawful K) (g : List (List ℕ)) (p : Pair) where
  pub pair-polys : IsPair L g p → ArePairPolys K p
  pair-polys h = record {
    x = record { den = h.x.den; num = h.x.num };
    y = record {
      den = h.y.den;
      num = h.y.num;
    };
  }

  pub small-pair : IsPlane K g → 1 < length g → IsPair L g p → IsSmallPair K (length g) p
  small-pair hg has h = record {
    x = record {
      parts = (pair-polys h).x;
      count = omega (arith, element-count K L g p.x hg has h.x);
      some = omega (arith, has);
    };
    y = record {
      parts = (pair-polys h).y;
      count = omega (arith, element-count K L g p.y hg has h.y);
      some = omega (arith, has);
    };
  }
