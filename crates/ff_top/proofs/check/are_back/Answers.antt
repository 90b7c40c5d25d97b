use Rattle.std.proofs.Common.{◌↔◌, IsTrue, subst}
use Rattle.ff_theory.proofs.Results.{ok_map}
use Rattle.ff_prime.specs.declared.prime.Prime.{Prime}
use Rattle.ff_data.specs.Pairs.{IsInversePair}
use Rattle.ff_top.specs.Check.{IsPairOf, TestsBack}
use Rattle.ff_top.proofs.Laws.{laws_of}
use Rattle.ff_top.proofs.check.are_back.Goals as goal

pub returns-clause-answer : goal.returns-clause-answer
returns-clause-answer g c =
    let f = c.args.first.now.f in
    let second = c.args.second.now in
    let L = laws_of second.k in
    let pair = c.args.pair.now in
    let u = c.args.u.now in
    let v = c.args.v.now in
    let back = c.in_ok-back.back in
    ok_map (λ b. IsTrue b ↔ IsInversePair L f second.f pair back)
    (TestsBack L f second.f u v pair) c.is_inverse.result (λ b r. record {
      back = back;
      is_back = subst (λ (k : Prime). IsPairOf (laws_of k) f u v back)
          c.requires.field c.in_ok-back.ensures;
      inverse = r;
    }) c.is_inverse.ensures.inverse
