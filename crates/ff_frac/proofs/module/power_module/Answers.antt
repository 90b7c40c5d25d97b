use Rattle.std.proofs.Common.{◌≡◌, ◌*◌, ◌-◌, pred, length, sym, ◌∙◌, ap, subst, arith}
use Rattle.ff_theory.specs.Values.{poly_of, IsPoly}
use Rattle.ff_lin.specs.Space.{rows_of, AreVectors, IsSpaceOf, SameSpace}
use Rattle.ff_data.specs.Orders.{chart_of, y_degree}
use Rattle.ff_frac.proofs.NumeratorLemmas.{module_lattice}
use Rattle.ff_frac.proofs.module.power_module.Goals as goal

pub overflow_sub-l : goal.overflow_sub-l
overflow_sub-l g c =
    let h = c.in_ok-numerators.ensures.form in
    omega (
      arith,
      ap length c.coeffs.ensures,
      ap length c.in_ok-d.ensures,
      h.powers.size,
      c.requires.positive,
    )

pub span_of-requires : goal.span_of-requires
span_of-requires g c =
    let F = g.K.Ring.elements c.args.alg.now.k in
    let L = g.K.Ring.lawful c.args.alg.now.k in
    let h = c.in_ok-numerators.ensures.form in
    let e : pred (length c.in_ok-numerators.numerators.powers.modulus)
    ≡ length c.coeffs.result.now - 1 =
    omega (arith, ap length c.coeffs.ensures, ap length c.in_ok-d.ensures) in
    subst (λ l. AreVectors F (y_degree L c.args.alg.now.f * l) c.deref.result.now) e
    (subst (AreVectors F _) (sym c.deref.ensures.value) h.vectors)

pub returns-clause-lattice : goal.returns-clause-lattice
returns-clause-lattice g c =
    let F = g.K.Ring.elements c.args.alg.now.k in
    let L = g.K.Ring.lawful c.args.alg.now.k in
    let f = c.args.alg.now.f in
    let h = c.in_ok-numerators.ensures.form.powers.power in
    let e : length c.coeffs.result.now - 1 ≡ pred (length c.in_ok-d.d) =
    omega (arith, ap length c.coeffs.ensures) in
    record {
      poly = subst (IsPoly F) (sym c.in_ok-d.ensures) h.poly;
      modulus = subst (λ d. (chart_of L f c.args.order.now.chart).IsModulus (poly_of F d))
          (sym c.in_ok-d.ensures) h.modulus;
      space = subst (λ l. IsSpaceOf F (y_degree L f * l) c.in_ok-space.space) e
          c.in_ok-space.ensures.space;
    }

pub returns-clause-exact : goal.returns-clause-exact
returns-clause-exact g c place =
    let F = g.K.Ring.elements c.args.alg.now.k in
    let L = g.K.Ring.lawful c.args.alg.now.k in
    let space = c.in_ok-space.space in
    module_lattice F L c.args.alg.now.f c.args.alg.now.plane c.args.alg.now.has_y
    c.args.order.now c.args.point.now place c.args.j c.in_ok-numerators.numerators
    (c.in_ok-numerators.ensures.exact place) c.in_ok-d.d space c.in_ok-d.ensures
    (subst (λ v. SameSpace F space.basis (rows_of v)) c.deref.ensures.value
    c.in_ok-space.ensures.same)
