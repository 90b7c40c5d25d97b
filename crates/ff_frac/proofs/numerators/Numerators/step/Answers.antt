use Rattle.std.proofs.Common.{◌+◌, ◌*◌, pred, length, sym, ap, subst}
use Rattle.ff_theory.specs.Values.{poly_of, plane_of}
use Rattle.ff_lin.specs.Space.{rows_of, AreVectors}
use Rattle.ff_data.specs.Orders.{y_degree}
use Rattle.ff_frac.specs.Numerators.{IsWithPlane}
use Rattle.ff_frac.proofs.NumeratorLemmas.{next_numerators}
use Rattle.ff_frac.proofs.numerators.Numerators.step.Goals as goal

pub with_power-requires : goal.with_power-requires
with_power-requires g c =
    let F = g.K.Ring.elements c.args.alg.now.k in
    let L = g.K.Ring.lawful c.args.alg.now.k in
    let h = c.requires.form in
    let n = y_degree L c.args.alg.now.f in
    record {
      order = c.requires.order;
      powers = c.in_ok-powers.ensures.form;
      vectors = subst (AreVectors F _) (sym c.deref.ensures.value)
          (subst (λ l. AreVectors F (n * pred l) c.args.self.vectors.items) h.powers.size
          h.vectors);
    }

pub returns-clause-form : goal.returns-clause-form
returns-clause-form g c = record {
  powers = c.in_ok-powers.ensures.form;
  vectors = c.in_ok-vectors.ensures.vectors;
}

pub returns-clause-exact : goal.returns-clause-exact
returns-clause-exact g c p place k =
    let F = g.K.Ring.elements c.args.alg.now.k in
    let L = g.K.Ring.lawful c.args.alg.now.k in
    let f = c.args.alg.now.f in
    let o = c.args.order.now in
    let s = c.in_ok-powers.powers in
    next_numerators F L f c.args.alg.now.plane c.args.alg.now.has_y o p place c.args.i c.args.self _
    c.requires.form (returns-clause-form g c) k (c.in_ok-powers.ensures.exact p place k.power)
    (subst (λ rows. IsWithPlane L f (poly_of F s.root) (pred (length o.d + c.args.i))
    (pred (length s.modulus)) (plane_of F s.power) (rows_of rows)
    (rows_of c.in_ok-vectors.vectors.items)) c.deref.ensures.value c.in_ok-vectors.ensures.value)
