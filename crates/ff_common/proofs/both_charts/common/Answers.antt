use Rattle.std.proofs.Common.{ℕ, refl, sym, subst, Vec, Global}
use Rattle.ff_theory.proofs.Results.{ok_map}
use Rattle.ff_lin.proofs.InsertRow.{basis_vectors}
use Rattle.ff_elem.proofs.PolyLemmas.{nonzero-length}
use Rattle.ff_common.specs.Common.{AreQuotientsBy}
use Rattle.ff_data.specs.Lattices.{InBoth}
use Rattle.ff_common.proofs.CommonBasis.{common_basis}
use Rattle.ff_common.proofs.both_charts.common.Goals as goal

pub quotients_by-requires : goal.quotients_by-requires
quotients_by-requires g c =
    let F = g.K.Ring.elements c.args.alg.now.k in
    let L = g.K.Ring.lawful c.args.alg.now.k in
    let items : Vec ℕ Global → _ = λ v. v.items in
    record {
      d = c.requires.finite.poly;
      nonzero = nonzero-length F L c.args.d.now c.requires.finite.modulus;
      vectors = basis_vectors F items c.basis.result.now c.basis.result.now
          c.in_ok-l.numerators _ refl c.basis.ensures (sym c.in_ok-l.ensures.space.len)
          c.in_ok-l.ensures.space.space;
    }

pub returns : goal.returns
returns g c =
    let F = g.K.Ring.elements c.args.alg.now.k in
    let L = g.K.Ring.lawful c.args.alg.now.k in
    let f = c.args.alg.now.f in
    ok_map _ _ c.quotients_by.result
    (λ r h. common_basis F L f c.args.alg.now.plane c.args.alg.now.has_y c.args.d.now
    c.requires.finite.modulus c.in_ok-l.l c.in_ok-l.numerators
    (InBoth L f c.args.d.now c.args.space.now c.args.t.now c.args.other.now) c.in_ok-l.ensures
    r.items (subst (λ b. AreQuotientsBy L f c.args.d.now c.in_ok-l.l b r.items) c.basis.ensures h))
    c.quotients_by.ensures
