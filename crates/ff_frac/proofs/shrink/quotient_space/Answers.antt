use Rattle.std.proofs.Common.{◌≡◌, ◌*◌, ◌-◌, pred, length, sym, ap, subst, arith}
use Rattle.ff_lin.specs.Space.{rows_of, AreVectors, IsSpaceOf, SameSpace}
use Rattle.ff_data.specs.Orders.{y_degree}
use Rattle.ff_frac.proofs.shrink.quotient_space.Goals as goal

pub overflow_sub-l : goal.overflow_sub-l
overflow_sub-l g c = omega (arith, ap length c.coeffs.ensures, c.requires.nonzero)

pub span_of-requires : goal.span_of-requires
span_of-requires g c =
    let F = g.K.Ring.elements c.args.alg.now.k in
    let L = g.K.Ring.lawful c.args.alg.now.k in
    let e : pred (length c.args.m.now) ≡ length c.coeffs.result.now - 1 =
    omega (arith, ap length c.coeffs.ensures) in
    subst (λ l. AreVectors F (y_degree L c.args.alg.now.f * l) c.deref.result.now) e
    (subst (AreVectors F _) (sym c.deref.ensures.value) c.in_ok-vectors.ensures.vectors)

pub returns-clause-space : goal.returns-clause-space
returns-clause-space g c =
    let F = g.K.Ring.elements c.args.alg.now.k in
    let L = g.K.Ring.lawful c.args.alg.now.k in
    let e : length c.coeffs.result.now - 1 ≡ pred (length c.args.m.now) =
    omega (arith, ap length c.coeffs.ensures) in
    subst (λ l. IsSpaceOf F (y_degree L c.args.alg.now.f * l) c.in_ok-space.space) e
    c.in_ok-space.ensures.space

pub returns-clause-value : goal.returns-clause-value
returns-clause-value g c k =
    let F = g.K.Ring.elements c.args.alg.now.k in
    record {
      rows = c.in_ok-vectors.vectors.items;
      len = c.in_ok-vectors.ensures.len;
      value = c.in_ok-vectors.ensures.value k;
      same = subst (λ v. SameSpace F c.in_ok-space.space.basis (rows_of v)) c.deref.ensures.value
          c.in_ok-space.ensures.same;
    }
