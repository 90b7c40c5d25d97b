use Rattle.ff_theory.proofs.Results.{ok_map}
use Rattle.ff_top.specs.Check.{TestsBack, TestsPairs}
use Rattle.ff_top.proofs.Laws.{laws_of}
use Rattle.ff_top.proofs.Verdicts.{four_is}
use Rattle.ff_top.proofs.check.are_inverse.Goals as goal

pub returns-clause-answer : goal.returns-clause-answer
returns-clause-answer g c =
    let f = c.args.first.now.f in
    let second = c.args.second.now in
    let L = laws_of second.k in
    let elems = c.args.elems.now in
    let x = c.index-elems-0.result in
    let y = c.index-elems-1.result in
    let u = c.index-elems-2.result in
    let v = c.index-elems-3.result in
    let pair = c.in_ok-pair.pair in
    let four = four_is elems x y u v c.requires.four
    c.index-elems-0.is c.index-elems-1.is c.index-elems-2.is c.index-elems-3.is in
    ok_map (TestsBack L f second.f u v pair) (TestsPairs L f second.f elems) c.are_back.result
    (λ b t. record {
      x = x;
      y = y;
      u = u;
      v = v;
      fractions = four;
      pair = pair;
      is_pair = c.in_ok-pair.ensures;
      tests = t;
    }) c.are_back.ensures.answer
