use Rattle.std.proofs.Common.{◌≡◌, ◌<◌, ℕ, length, sym, ◌∙◌, ap, subst, arith, Vec}
use Rattle.std.proofs.Common.{Global}
use Rattle.std.proofs.lemmas.List.{length-map}
use Rattle.ff_theory.specs.Vector.{IsVector, vector_of, vectors_of}
use Rattle.ff_theory.proofs.Results.{ok_map}
use Rattle.ff_frac.specs.Socle.{IsCombinedPlane}
use Rattle.ff_frac.proofs.FractionLemmas.{first_row, first_vector}
use Rattle.ff_frac.proofs.socle.first_plane.Goals as goal

pub plane_with-requires-clause-c : goal.plane_with-requires-clause-c
plane_with-requires-clause-c g c =
    let F = g.K.Ring.elements c.args.alg.now.k in
    let n = length c.args.fibre.now.table.items in
    let items : Vec ℕ Global → _ = λ v. v.items in
    let some : 0 < length c.args.space.now.basis = omega (
      arith,
      ap length c.basis-basis.ensures,
      length-map c.basis-basis.result.now items,
      c.if-basis-eq0.false,
    ) in
    subst (IsVector F n) (sym c.deref.ensures.value) (first_vector F n c.args.space.now
    c.requires.space some c.basis-basis.result.now c.index-basis-0.result c.basis-basis.ensures
    c.index-basis-0.is)

pub returns-then-basis-eq0-clause-value : goal.returns-then-basis-eq0-clause-value
returns-then-basis-eq0-clause-value g c some =
    let items : Vec ℕ Global → _ = λ v. v.items in
    absurd (omega (
      arith,
      ap length c.basis-basis.ensures,
      length-map c.basis-basis.result.now items,
      c.if-basis-eq0.true,
      some,
    ))

pub returns-clause-value : goal.returns-clause-value
returns-clause-value g c some =
    let F = g.K.Ring.elements c.args.alg.now.k in
    let L = g.K.Ring.lawful c.args.alg.now.k in
    let row : vector_of F c.deref.result.now ≡ vectors_of F c.args.space.now.basis 0 =
    ap (vector_of F) (c.deref.ensures.value ∙ sym (first_row c.args.space.now some
    c.basis-basis.result.now c.index-basis-0.result c.basis-basis.ensures
    c.index-basis-0.is)) in
    ok_map _ _ c.plane_with.result (λ N k. subst (λ v. IsCombinedPlane L c.args.alg.now.f
    c.args.fibre.now v N) row k) c.plane_with.ensures.value
