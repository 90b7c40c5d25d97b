use Rattle.std.proofs.Common.{◌≡◌, length, sym, ◌∙◌, ap, subst, arith, IfSome, IfNone}
use Rattle.ff_theory.specs.Values.{plane_of}
use Rattle.ff_theory.specs.Vector.{IsVector, vector_of}
use Rattle.ff_theory.proofs.Results.{ok_map}
use Rattle.ff_lin.specs.Space.{rows_of, AreVectors}
use Rattle.ff_modulo.specs.Modulo.{IsCombinationModulo, IsSpannedModulo}
use Rattle.ff_fibre.proofs.Equations.{found_coordinates, no_coordinates}
use Rattle.ff_fibre.proofs.readings.coordinates.Goals as goal

pub residue_vector-requires : goal.residue_vector-requires
residue_vector-requires g c = record {
  m = c.requires.fibre.modulus;
  nonzero = c.requires.fibre.nonzero;
  plane = c.requires.plane;
  few = c.requires.few;
}

pub solve_modulo-requires : goal.solve_modulo-requires
solve_modulo-requires g c =
    let F = g.K.Ring.elements c.args.alg.now.k in
    let h = c.requires.fibre in
    record {
      space = h.space.space;
      rows = subst (λ n. AreVectors F n c.deref.result.now) (sym h.space.len)
          (subst (AreVectors F _) (sym c.deref.ensures.value) h.rows);
      v = subst (λ n. IsVector F n c.in_ok-vector.vector.items) (sym h.space.len)
          c.in_ok-vector.ensures.vector;
    }

pub returns-in-Some-clause-vector : goal.returns-in-Some-clause-vector
returns-in-Some-clause-vector g c =
    let F = g.K.Ring.elements c.args.alg.now.k in
    subst (λ n. IsVector F n c.in-Some.c.items) (ap length c.deref.ensures.value
    ∙ c.requires.fibre.count) (subst (λ o. IfSome o (λ r. IsVector F
    (length c.deref.result.now) r.items)) c.in-Some.is c.in_ok-c.ensures.vector)

pub returns-in-Some-clause-value : goal.returns-in-Some-clause-value
returns-in-Some-clause-value g c =
    let F = g.K.Ring.elements c.args.alg.now.k in
    let L = g.K.Ring.lawful c.args.alg.now.k in
    let s = c.args.fibre.now in
    let v = c.in_ok-vector.vector.items in
    found_coordinates F L c.args.alg.now.f s (plane_of F c.args.plane.now) v
    c.in_ok-vector.ensures.value (vector_of F c.in-Some.c.items)
    (subst (λ x. IsCombinationModulo F s.space (rows_of x) (vector_of F c.in-Some.c.items)
    (vector_of F v)) c.deref.ensures.value
    (subst (λ o. IfSome o (λ r. IsCombinationModulo F s.space (rows_of c.deref.result.now)
    (vector_of F r.items) (vector_of F v))) c.in-Some.is c.in_ok-c.ensures.some))

pub returns-in-None-clause-vector : goal.returns-in-None-clause-vector
returns-in-None-clause-vector g c =
    let F = g.K.Ring.elements c.args.alg.now.k in
    let n : c.len.result ≡ length c.args.fibre.now.planes.items = omega (
      arith,
      c.len.ensures,
      c.requires.fibre.count,
    ) in
    ok_map _ _ c.zeros.result (λ r h. subst (λ n. IsVector F n r.items) n h)
    c.zeros.ensures

pub returns-in-None-clause-value : goal.returns-in-None-clause-value
returns-in-None-clause-value g c =
    let F = g.K.Ring.elements c.args.alg.now.k in
    let L = g.K.Ring.lawful c.args.alg.now.k in
    let s = c.args.fibre.now in
    let v = c.in_ok-vector.vector.items in
    ok_map _ _ c.zeros.result (λ r h. no_coordinates F L c.args.alg.now.f s
    (plane_of F c.args.plane.now) v c.in_ok-vector.ensures.value (vector_of F r.items)
    (subst (λ x. ¬ (IsSpannedModulo F s.space (rows_of x) (vector_of F v))) c.deref.ensures.value
    (subst (λ o. IfNone o (¬ (IsSpannedModulo F s.space (rows_of c.deref.result.now)
    (vector_of F v)))) c.in-None.is c.in_ok-c.ensures.none))) c.zeros.ensures
