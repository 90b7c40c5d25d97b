use Rattle.std.proofs.Common.{◌≡◌, ◌*◌, ◌-◌, pred, length, sym, ◌∙◌, ap, subst, arith}
use Rattle.ff_theory.proofs.Results.{ok_map}
use Rattle.ff_theory.specs.Ring.{power}
use Rattle.ff_theory.specs.Monomial.{variable}
use Rattle.ff_theory.specs.Values.{polys_over}
use Rattle.ff_common.specs.Common.{IsTimesSpace}
use Rattle.ff_lin.specs.Space.{IsSpaceOf}
use Rattle.ff_data.specs.Orders.{y_degree}
use Rattle.ff_data.proofs.NumeratorLemmas.{order_length}
use Rattle.ff_functions.specs.Searches.{AreRows}
use Rattle.ff_functions.proofs.frame.Frame.target.Goals as goal

pub overflow_sub-m : goal.overflow_sub-m
overflow_sub-m g c =
    let F = g.K.Ring.elements c.args.alg.now.k in
    let L = g.K.Ring.lawful c.args.alg.now.k in
    let d = order_length F L c.args.alg.now.f c.args.alg.now.plane c.args.alg.now.has_y
    c.args.infinite.now c.requires.order in
    omega (arith, ap length c.coeffs.ensures, d)

pub power_times_space-requires : goal.power_times_space-requires
power_times_space-requires g c =
    let F = g.K.Ring.elements c.args.alg.now.k in
    let L = g.K.Ring.lawful c.args.alg.now.k in
    let o = c.args.infinite.now in
    let m : pred (length o.d) ≡ length c.coeffs.result.now - 1 =
    omega (arith, ap length c.coeffs.ensures) in
    record {
      room = omega (arith, c.requires.room, m);
      space = subst (λ l. IsSpaceOf F (y_degree L c.args.alg.now.f * l) o.space) m
          c.requires.order.space;
    }

pub rows_of-requires : goal.rows_of-requires
rows_of-requires g c = record {
  space = c.in_ok-space.ensures.space.space;
  len = sym c.len.ensures;
}

pub returns : goal.returns
returns g c =
    let F = g.K.Ring.elements c.args.alg.now.k in
    let L = g.K.Ring.lawful c.args.alg.now.k in
    let f = c.args.alg.now.f in
    let o = c.args.infinite.now in
    let h = c.args.self.now.h in
    let P = polys_over F in
    let m : length c.coeffs.result.now - 1 ≡ pred (length o.d) =
    omega (arith, ap length c.coeffs.ensures) in
    let times = subst (λ m. IsTimesSpace L f (power P (variable F.ring) (h - m)) m h o.space
    c.in_ok-space.space) m c.in_ok-space.ensures.times in
    record {
      rows = ok_map _ _ c.rows_of.result
          (λ r h. subst (λ n. AreRows F n 0 r.rows.items)
          (c.len.ensures ∙ c.in_ok-space.ensures.space.len) h) c.rows_of.ensures.rows;
      held = ok_map _ _ c.rows_of.result (λ r held d. record {
        target = c.in_ok-space.space;
        times = times;
        images = λ i j. F.zero;
        each = λ l q. absurd (omega (arith, q));
        hold = held (λ i j. F.zero);
      }) c.rows_of.ensures.held;
    }
