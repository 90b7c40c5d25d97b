use Rattle.std.proofs.Common.{ap, subst, sym, ◌∙◌}
use Rattle.ff_theory.specs.Values.{plane_of}
use Rattle.ff_theory.specs.Values.{ArePolys}
use Rattle.ff_subst.proofs.ResidueLemmas.{sum-residue}
use Rattle.ff_subst.proofs.residue.add.Goals as goal

pub product-requires : goal.product-requires
product-requires g c =
    record { m = c.requires.m; a = c.requires.a.factor; b = c.requires.b.factor }

pub combine-requires : goal.combine-requires
combine-requires g c =
    record {
      c = c.requires.b.factor;
      a = c.requires.a.plane;
      d = c.requires.a.factor;
      b = c.requires.b.plane;
    }

pub reduce-requires : goal.reduce-requires
reduce-requires g c =
    let K = g.K.Ring.elements c.args.alg.now.k in
    record {
      m = c.requires.m;
      rows = subst (ArePolys K) (sym c.rows.ensures)
          c.in_ok-whole.ensures.plane.each;
    }

pub returns-clause-residue : goal.returns-clause-residue
returns-clause-residue g c =
    let K = g.K.Ring.elements c.args.alg.now.k in
    let L = g.K.Ring.lawful c.args.alg.now.k in
    let f = c.args.alg.now.f in
    λ u v h k. sum-residue K L f c.args.m.now u v c.args.a.now c.args.b.now _ c.rows.result.now
    c.in_ok-factor.ensures.congruent
    (ap (plane_of K) c.rows.ensures ∙ c.in_ok-whole.ensures.value)
    c.in_ok-plane.ensures.congruent h k
