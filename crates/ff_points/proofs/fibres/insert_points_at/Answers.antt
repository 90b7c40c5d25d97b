use Rattle.std.proofs.Common.{◌≡◌, ℕ, ◌<◌, List, length, sym, ◌∙◌, ap, subst, All}
use Rattle.std.proofs.lemmas.List.{length-map}
use Rattle.std.specs.Global.{Vec}
use Rattle.ff_theory.specs.Ring.{IsElement}
use Rattle.ff_theory.specs.Vector.{vector_of, vectors_of}
use Rattle.ff_theory.proofs.Results.{ok_map}
use Rattle.ff_lin.specs.Space.{rows_of, AreVectors}
use Rattle.ff_points.specs.PointLists.{ArePowerCoordinates, AreVectorCoordinates}
use Rattle.ff_points.specs.PointLists.{AreCharactersOf}
use Rattle.ff_points.proofs.PointsOver.{points_over, all_over, character_vectors}
use Rattle.ff_points.proofs.fibres.insert_points_at.Goals as goal

pub power_coordinates-requires : goal.power_coordinates-requires
power_coordinates-requires g c = record {
  order = c.requires.order;
  fibre = c.requires.fibre.basis;
  equation = c.requires.equation;
  equation_is = c.requires.equation_is;
}

pub basis_coordinates-requires : goal.basis_coordinates-requires
basis_coordinates-requires g c = record {
  order = c.requires.order;
  fibre = c.requires.fibre.basis;
}

pub characters_of-requires : goal.characters_of-requires
characters_of-requires g c = record {
  order = c.requires.order;
  fibre = c.requires.fibre;
  equation = c.requires.equation;
  equation_is = c.requires.equation_is;
}

pub insert_points-requires : goal.insert_points-requires
insert_points-requires g c =
    let F = g.K.Ring.elements c.args.alg.now.k in
    let L = g.K.Ring.lawful c.args.alg.now.k in
    let n = length c.args.fibre.now.planes.items in
    let v = c.in_ok-theta.ensures.vector in
    let e = c.deref.ensures.value in
    let len : n ≡ length c.deref.result.now = sym (ap length e ∙ v.len) in
    record {
      a = c.requires.a;
      at_infinity = c.requires.at_infinity;
      theta = subst (All (IsElement F)) (sym e) v.each;
      basis = subst (λ m. AreVectors F m c.deref-2.result.now) len
          (subst (AreVectors F n) (sym c.deref-2.ensures.value) c.in_ok-basis.ensures.vectors);
      count = ap length c.deref-2.ensures.value ∙ c.in_ok-basis.ensures.count;
      characters = subst (λ m. AreVectors F m c.deref-3.result.now) len
          (subst (AreVectors F n) (sym c.deref-3.ensures.value)
          (character_vectors F L c.args.alg.now.f c.args.order.now c.args.fibre.now
          c.in_ok-characters.characters.items c.in_ok-characters.ensures));
      list = λ i d l. (c.requires.list.each i d l).form;
      rising = c.requires.list.rising;
    }

pub returns-clause-list : goal.returns-clause-list
returns-clause-list g c =
    let F = g.K.Ring.elements c.args.alg.now.k in
    let L = g.K.Ring.lawful c.args.alg.now.k in
    let f = c.args.alg.now.f in
    let o = c.args.order.now in
    let s = c.args.fibre.now in
    let theta = c.deref.result.now in
    let basis = c.deref-2.result.now in
    let characters = c.deref-3.result.now in
    ok_map _ _ c.insert_points.result (λ _ h. points_over F L f c.args.alg.now.plane
    c.args.alg.now.has_y o c.requires.order c.args.a s c.requires.fibre_is theta
    (subst (λ t. ArePowerCoordinates L f o s 1 (vector_of F t)) (sym c.deref.ensures.value)
    c.in_ok-theta.ensures.value) (rows_of basis) (length-map basis (λ (r : Vec ℕ). r.items)
    ∙ ap length c.deref-2.ensures.value ∙ c.in_ok-basis.ensures.count)
    (subst (λ (t : List (Vec ℕ)). (i : ℕ) → i < length o.space.basis → AreVectorCoordinates L f o s
    (vectors_of F o.space.basis i) (vectors_of F (rows_of t) i)) (sym c.deref-2.ensures.value)
    c.in_ok-basis.ensures.value) characters
    (subst (AreCharactersOf L f o s) (sym c.deref-3.ensures.value) c.in_ok-characters.ensures)
    c.args.list.now.items c.insert_points.new.list.items h c.requires.list) c.insert_points.ensures

pub returns-clause-kept : goal.returns-clause-kept
returns-clause-kept g c = ok_map _ _ c.insert_points.result (λ _ h. h.kept) c.insert_points.ensures

pub returns-clause-over : goal.returns-clause-over
returns-clause-over g c =
    let F = g.K.Ring.elements c.args.alg.now.k in
    let L = g.K.Ring.lawful c.args.alg.now.k in
    let f = c.args.alg.now.f in
    let o = c.args.order.now in
    let s = c.args.fibre.now in
    let theta = c.deref.result.now in
    let basis = c.deref-2.result.now in
    let characters = c.deref-3.result.now in
    ok_map _ _ c.insert_points.result (λ _ h. all_over F L f c.args.alg.now.plane
    c.args.alg.now.has_y o c.requires.order c.args.a s c.requires.fibre_is theta
    (subst (λ t. ArePowerCoordinates L f o s 1 (vector_of F t)) (sym c.deref.ensures.value)
    c.in_ok-theta.ensures.value) (rows_of basis) (length-map basis (λ (r : Vec ℕ). r.items)
    ∙ ap length c.deref-2.ensures.value ∙ c.in_ok-basis.ensures.count)
    (subst (λ (t : List (Vec ℕ)). (i : ℕ) → i < length o.space.basis → AreVectorCoordinates L f o s
    (vectors_of F o.space.basis i) (vectors_of F (rows_of t) i)) (sym c.deref-2.ensures.value)
    c.in_ok-basis.ensures.value) characters
    (subst (AreCharactersOf L f o s) (sym c.deref-3.ensures.value) c.in_ok-characters.ensures)
    c.args.list.now.items c.insert_points.new.list.items h
    (g.met.K.Ring.one_value c.args.alg.now.k)) c.insert_points.ensures
