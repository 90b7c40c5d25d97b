use Rattle.ff_theory.proofs.Results.{ok_map}
use Rattle.ff_elem.proofs.PolyLemmas.{product-length}
use Rattle.ff_functions.proofs.PlaneLemmas.{power_length}
use Rattle.ff_functions.proofs.assembly.denominator.Goals as goal

pub power-requires : goal.power-requires
power-requires g c = c.requires.root.each

pub mul-requires : goal.mul-requires
mul-requires g c = record {
  a = c.requires.d.each;
  b = c.in_ok-power.ensures.poly.each;
}

pub returns-clause-nonzero : goal.returns-clause-nonzero
returns-clause-nonzero g c =
    let F = g.K.Ring.elements c.args.alg.now.k in
    let L = g.K.Ring.lawful c.args.alg.now.k in
    let p = c.in_ok-power in
    let some = power_length F L c.args.root.now p.power c.requires.root c.requires.root_nonzero
    c.args.j p.ensures.value in
    ok_map _ _ c.mul.result
    (λ r h. product-length F L r c.args.d.now p.power c.requires.d p.ensures.poly
    c.requires.nonzero some h) c.mul.ensures.value
