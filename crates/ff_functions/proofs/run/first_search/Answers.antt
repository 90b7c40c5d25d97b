use Rattle.std.proofs.Common.{◌≡◌, ◌+◌, ◌*◌, length, ap, subst, arith}
use Rattle.ff_data.specs.Orders.{y_degree}
use Rattle.ff_data.proofs.NumeratorLemmas.{order_length}
use Rattle.ff_functions.specs.Searches.{AreRows}
use Rattle.ff_functions.proofs.SearchImages.{search_begun}
use Rattle.ff_functions.proofs.run.first_search.Goals as goal

pub start-requires : goal.start-requires
start-requires g c =
    let F = g.K.Ring.elements c.args.alg.now.k in
    let L = g.K.Ring.lawful c.args.alg.now.k in
    record {
      d = c.requires.finite.d;
      nonzero = order_length F L c.args.alg.now.f c.args.alg.now.plane c.args.alg.now.has_y
          c.args.finite.now c.requires.finite;
      order = c.requires.infinite;
      form = c.requires.frame;
      room = c.requires.room;
    }

pub returns-clause-form : goal.returns-clause-form
returns-clause-form g c =
    let F = g.K.Ring.elements c.args.alg.now.k in
    let L = g.K.Ring.lawful c.args.alg.now.k in
    let frame = c.args.frame.now in
    let d = length frame.numerators.items in
    let e : d ≡ d + 0 = omega arith in
    let none = ap length c.new.ensures.items in
    let nothing = ap length c.new-2.ensures.items in
    record {
      rows = subst (λ m. AreRows F (y_degree L c.args.alg.now.f * frame.h) m
          c.in_ok-echelon.echelon.rows.items) e c.in_ok-echelon.ensures.rows;
      trail = record {
        powers = c.in_ok-powers.ensures.form;
        passed = λ i d l. absurd (omega (arith, l, none));
        count = none;
      };
      numbers = λ i d l. absurd (omega (arith, l, nothing));
    }

pub returns-clause-begun : goal.returns-clause-begun
returns-clause-begun g c =
    let F = g.K.Ring.elements c.args.alg.now.k in
    let L = g.K.Ring.lawful c.args.alg.now.k in
    search_begun F L c.args.alg.now.f c.args.order.now c.args.point.now c.args.frame.now
    c.args.finite.now.d c.args.infinite.now _ c.in_ok-echelon.ensures.held
    (ap length c.new-2.ensures.items) c.in_ok-powers.ensures.exact
