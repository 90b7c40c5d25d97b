use Rattle.std.proofs.Common.{◌≡◌, ℕ, length, sym, ◌∙◌, ap, subst, arith, All}
use Rattle.ff_theory.specs.Ring.{IsElement}
use Rattle.ff_theory.specs.Vector.{vector_of}
use Rattle.ff_theory.proofs.Results.{ok_both}
use Rattle.ff_lin.specs.Space.{IsSpaceOf, InSpace}
use Rattle.ff_characters.specs.Characters.{IsTable, tables_of, IsCharacter, AreCharacters}
use Rattle.ff_characters.specs.Characters.{HasVector}
use Rattle.ff_points.specs.PointLists.{ArePowerCoordinates}
use Rattle.ff_points.proofs.PointsOver.{found_characters}
use Rattle.ff_points.proofs.fibres.characters_of.Goals as goal

pub power_coordinates-requires : goal.power_coordinates-requires
power_coordinates-requires g c = record {
  order = c.requires.order;
  fibre = c.requires.fibre.basis;
  equation = c.requires.equation;
  equation_is = c.requires.equation_is;
}

pub characters-requires : goal.characters-requires
characters-requires g c =
    let F = g.K.Ring.elements c.args.alg.now.k in
    let n = length c.args.fibre.now.planes.items in
    let v = c.in_ok-one.ensures.vector in
    let one = c.deref-2.ensures.value in
    let len : c.len.result ≡ length c.deref-2.result.now =
    omega (arith, c.len.ensures, c.deref-2.ensures.len) in
    record {
      table = subst (λ m. IsTable F m c.deref.result.now) (sym (ap length one ∙ v.len))
          (subst (IsTable F n) (sym c.deref.ensures.value) c.requires.fibre.table);
      one = subst (All (IsElement F)) (sym one) v.each;
      space = subst (λ m. IsSpaceOf F m c.in_ok-whole.whole) len c.in_ok-whole.ensures.space;
    }

pub returns : goal.returns
returns g c =
    let F = g.K.Ring.elements c.args.alg.now.k in
    let L = g.K.Ring.lawful c.args.alg.now.k in
    let f = c.args.alg.now.f in
    let o = c.args.order.now in
    let s = c.args.fibre.now in
    let table = tables_of c.deref.result.now in
    let one = c.deref-2.result.now in
    let same : tables_of c.deref.result.now ≡ tables_of s.table.items =
    ap tables_of c.deref.ensures.value in
    ok_both _ _ _ c.characters.result (λ r each all. found_characters F L f o s one
    (ap length c.deref-2.ensures.value ∙ c.in_ok-one.ensures.vector.len)
    (subst (λ t. ArePowerCoordinates L f o s 0 (vector_of F t)) (sym c.deref-2.ensures.value)
    c.in_ok-one.ensures.value) c.len.result
    (omega (arith, c.len.ensures, c.deref-2.ensures.len)) c.in_ok-whole.whole
    c.in_ok-whole.ensures.space c.in_ok-whole.ensures.exact r.items
    (subst (λ t. AreCharacters F (length one) t one r.items) same each)
    (subst (λ t. (chi : ℕ → F.carrier) → InSpace F c.in_ok-whole.whole chi
    → IsCharacter F (length one) t one chi → HasVector F r.items chi) same all))
    c.characters.ensures.each c.characters.ensures.all
