use Rattle.std.proofs.Common.{◌≡◌, ℕ, ◌<◌, ◌-◌, [], length, get_or, refl, sym, ◌∙◌, ap, subst}
use Rattle.std.proofs.Common.{arith}
use Rattle.std.proofs.lemmas.List.{length-map}
use Rattle.std.specs.Global.{Vec}
use Rattle.ff_theory.specs.Vector.{vector_of, IsVector}
use Rattle.ff_theory.proofs.Results.{ok_map}
use Rattle.ff_lin.specs.Space.{IsSpaceOf}
use Rattle.ff_modulo.proofs.ModuloLemmas.{first-row, some-map, none-map, tail-of-one}
use Rattle.ff_modulo.proofs.ModuloLemmas.{begins-with-zero}
use Rattle.ff_modulo.proofs.bases.first_tail.Goals as goal

pub tail_after_unit-requires : goal.tail_after_unit-requires
tail_after_unit-requires g c =
    let F = g.K.Ring.elements c.args.k.now in
    let R = c.args.relations.now in
    let items = λ (r : Vec ℕ). r.items in
    let space : IsSpaceOf F R.len R = record { space = c.requires.space; len = refl } in
    let some : 0 < length R.basis = omega (
      arith,
      c.if-basis-eq0.false,
      ap length
          c.basis-basis.ensures,
      length-map c.basis-basis.result.now items,
    ) in
    let first = first-row F R.len R space some c.basis-basis.result.now
    c.index-basis-0.result c.basis-basis.ensures c.index-basis-0.is in
    let row : IsVector F R.len c.deref.result.now =
    subst (IsVector F R.len) (sym c.deref.ensures.value) first.1 in
    record {
      each = row.each;
      nonempty = omega (arith, row.len, c.requires.nonempty);
    }

pub returns : goal.returns
returns g c =
    let F = g.K.Ring.elements c.args.k.now in
    let laws = g.met.K.Ring.laws c.args.k.now in
    let R = c.args.relations.now in
    let items = λ (r : Vec ℕ). r.items in
    let space : IsSpaceOf F R.len R = record { space = c.requires.space; len = refl } in
    let some : 0 < length R.basis = omega (
      arith,
      c.if-basis-eq0.false,
      ap length
          c.basis-basis.ensures,
      length-map c.basis-basis.result.now items,
    ) in
    let first = first-row F R.len R space some c.basis-basis.result.now
    c.index-basis-0.result c.basis-basis.ensures c.index-basis-0.is in
    let row : get_or R.basis 0 [] ≡ c.deref.result.now = first.0 ∙ sym c.deref.ensures.value in
    let len : length c.deref.result.now ≡ R.len = ap length c.deref.ensures.value ∙ first.1.len in
    record {
      vector = ok_map _ _ c.tail_after_unit.result (λ o h. some-map o _ _ (λ r k.
          subst (λ m. IsVector F (m - 1) (items r)) len k) h) c.tail_after_unit.ensures.vector;
      some = ok_map _ _ c.tail_after_unit.result (λ o h. some-map o _ _ (λ r k.
          tail-of-one F laws R.len R space c.deref.result.now row some (vector_of F (items r)) len
          k) h) c.tail_after_unit.ensures.some;
      none = ok_map _ _ c.tail_after_unit.result (λ o h. none-map o _ _ (λ k.
          begins-with-zero F laws R.len R space c.deref.result.now row some k) h)
          c.tail_after_unit.ensures.none;
    }
