use Rattle.std.proofs.Common.{◌∙◌, ap}
use Rattle.ff_theory.proofs.Results.{ok_both}
use Rattle.ff_elem.specs.Elem.{algebra_in, elem_of}
use Rattle.ff_value.proofs.InfiniteRows.{variable_at}
use Rattle.ff_value.proofs.infinite.times_x.Goals as goal

pub returns : goal.returns
returns g c =
    let F = g.K.Ring.elements c.args.alg.now.k in
    let L = g.K.Ring.lawful c.args.alg.now.k in
    let a = c.args.alg.now in
    ok_both _ _ _ c.times_poly.result (λ r e v. record {
      element = e;
      value = v ∙ ap (λ t. (algebra_in L a.f).mul t (elem_of L a.f c.args.w.now))
          (variable_at F L a.f a.plane a.has_y c.in_ok-x.x c.in_ok-x.ensures.value);
    }) c.times_poly.ensures.element c.times_poly.ensures.value
