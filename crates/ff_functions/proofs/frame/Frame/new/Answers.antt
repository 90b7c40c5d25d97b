use Rattle.std.proofs.Common.{◌+◌, ◌-◌, ◌*◌, ◌≤◌, length, ap, ◌∙◌, subst}
use Rattle.ff_data.specs.Orders.{y_degree}
use Rattle.ff_functions.proofs.FrameElements.{frame_elements}
use Rattle.ff_functions.proofs.frame.Frame.new.Goals as goal

pub returns-in_ok-numerators-in-Some : goal.returns-in_ok-numerators-in-Some
returns-in_ok-numerators-in-Some g c =
    let F = g.K.Ring.elements c.args.alg.now.k in
    let L = g.K.Ring.lawful c.args.alg.now.k in
    let f = c.args.alg.now.f in
    let steep = subst (λ e. (y_degree L f - 1) * e ≤ c.in_ok-h.h) c.in_ok-slope.ensures
    c.in_ok-h.ensures.steep in
    record {
      form = record {
        slope = c.in_ok-slope.ensures;
        positive = c.in_ok-h.ensures.positive;
        steep = steep;
        numerators = c.in_ok-numerators-in-Some.ensures.vectors;
      };
      rows = c.in_ok-h.ensures.least;
      elements = λ chart. frame_elements F L f c.args.alg.now.plane c.args.alg.now.has_y
          c.args.finite.now c.requires.order chart c.args.m _
          (c.in-Some.ensures.1 ∙ ap (λ d. length d + c.args.m) c.coeffs.ensures)
          c.in_ok-h.ensures.least steep c.in_ok-numerators-in-Some.ensures.held;
    }
