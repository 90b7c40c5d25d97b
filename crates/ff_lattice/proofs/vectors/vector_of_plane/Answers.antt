use Rattle.std.proofs.Common.{◌≡◌, ◌*◌, ◌<◌, sym, ◌∙◌, ap, subst}
use Rattle.ff_theory.specs.Vector.{IsVector}
use Rattle.ff_theory.specs.Values.{plane_of, ArePolys}
use Rattle.ff_theory.proofs.Results.{ok_map, ok_both}
use Rattle.ff_charts.specs.Lattice.{flat}
use Rattle.ff_lattice.proofs.PlaneVectors.{factor_positive, vector_whole}
use Rattle.ff_lattice.proofs.vectors.vector_of_plane.Goals as goal

pub entries-requires : goal.entries-requires
entries-requires g c =
    let len : c.in-Some.len ≡ c.args.n * c.args.l = c.in-Some.ensures.1 in
    record {
      rows = subst (ArePolys (g.K.Ring.elements c.args.k.now)) (sym c.rows.ensures)
          c.requires.a.each;
      positive = λ h. factor_positive c.args.n c.args.l (subst (λ t. 0 < t) len h);
    }

pub returns-in-Some-clause-vector : goal.returns-in-Some-clause-vector
returns-in-Some-clause-vector g c =
    let len : c.in-Some.len ≡ c.args.n * c.args.l = c.in-Some.ensures.1 in
    ok_map _ _ c.entries.result
    (λ r h. subst (λ n. IsVector (g.K.Ring.elements c.args.k.now) n r.items) len h)
    c.entries.ensures.vector

pub returns-in-Some-clause-value : goal.returns-in-Some-clause-value
returns-in-Some-clause-value g c =
    let F = g.K.Ring.elements c.args.k.now in
    let n = c.args.n in
    let l = c.args.l in
    let a = c.args.a.now in
    let len : c.in-Some.len ≡ n * l = c.in-Some.ensures.1 in
    ok_both _ _ _ c.entries.result
    (λ r v h. vector_whole (g.K.Ring.lawful c.args.k.now) r.items a n l (v.len ∙ len)
    c.requires.shape (λ j b. h j (subst (λ t. j < t) (sym len) b)
    ∙ ap (λ a. flat F.ring l (plane_of F a) j) c.rows.ensures)) c.entries.ensures.vector
    c.entries.ensures.value
