use Rattle.std.proofs.Common.{◌*◌, ℕ, pred, length, refl, sym, ◌∙◌, ap, subst, Vec, Global}
use Rattle.ff_theory.specs.Values.{poly_of, IsPoly}
use Rattle.ff_lin.specs.Space.{IsSpaceOf, SameSpace}
use Rattle.ff_lin.proofs.InsertRow.{basis_vectors}
use Rattle.ff_data.specs.Orders.{chart_of, y_degree}
use Rattle.ff_frac.proofs.NumeratorLemmas.{same_lattice}
use Rattle.ff_frac.proofs.module.own_module.Goals as goal

pub span-requires : goal.span-requires
span-requires g c =
    let F = g.K.Ring.elements c.args.alg.now.k in
    let items : Vec ℕ Global → _ = λ v. v.items in
    record {
      rows = basis_vectors F items c.basis.result.now c.basis.result.now c.args.order.now.space
          c.len.result refl c.basis.ensures c.len.ensures c.requires.order.space.space;
    }

pub returns-clause-lattice : goal.returns-clause-lattice
returns-clause-lattice g c =
    let F = g.K.Ring.elements c.args.alg.now.k in
    let L = g.K.Ring.lawful c.args.alg.now.k in
    let f = c.args.alg.now.f in
    let o = c.requires.order in
    record {
      poly = subst (IsPoly F) (sym c.in_ok-d.ensures) o.d;
      modulus = subst (λ d. (chart_of L f c.args.order.now.chart).IsModulus (poly_of F d))
          (sym c.in_ok-d.ensures) o.modulus;
      space = subst (λ n. IsSpaceOf F n c.in_ok-space.space)
          (c.len.ensures ∙ o.space.len
          ∙ ap (λ d. y_degree L f * pred (length d)) (sym c.in_ok-d.ensures))
          c.in_ok-space.ensures.space;
    }

pub returns-clause-same : goal.returns-clause-same
returns-clause-same g c =
    let F = g.K.Ring.elements c.args.alg.now.k in
    let L = g.K.Ring.lawful c.args.alg.now.k in
    let o = c.args.order.now in
    let space = c.in_ok-space.space in
    same_lattice F L c.args.alg.now.f o.chart o.d c.in_ok-d.d o.space.basis space
    c.in_ok-d.ensures (subst (SameSpace F space.basis) c.basis.ensures
    c.in_ok-space.ensures.same)
