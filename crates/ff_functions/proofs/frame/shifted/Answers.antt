use Rattle.std.proofs.Common.{sym, ◌∙◌, ap, length, subst, arith, All}
use Rattle.std.proofs.lemmas.List.{with_items_is}
use Rattle.ff_theory.specs.Ring.{IsElement}
use Rattle.ff_theory.specs.Vector.{vector_of, IsVector}
use Rattle.ff_functions.specs.Elements.{IsMultiple}
use Rattle.ff_functions.proofs.FrameLemmas.{shifted_is}
use Rattle.ff_functions.proofs.frame.shifted.Goals as goal

pub add_scaled-requires : goal.add_scaled-requires
add_scaled-requires g c =
    let F = g.K.Ring.elements c.args.k.now in
    let z = c.in_ok-v.ensures.vector in
    record {
      sum = subst (All (IsElement F)) (sym c.deref_mut.ensures.value) z.each;
      c = c.one.ensures.element;
      b = subst (All (IsElement F)) (sym c.coeffs.ensures) c.requires.d.each;
      room = omega (
        arith,
        c.requires.room,
        ap length c.coeffs.ensures,
        ap length c.deref_mut.ensures.value,
        z.len,
      );
    }

pub returns-clause-vector : goal.returns-clause-vector
returns-clause-vector g c =
    let F = g.K.Ring.elements c.args.k.now in
    let e = c.add_scaled.ensures in
    subst (IsVector F c.args.len)
    (sym (with_items_is c.in_ok-v.v c.add_scaled.new.sum (e.len ∙ c.deref_mut.ensures.len)))
    record {
      each = e.each;
      len = e.len ∙ ap length c.deref_mut.ensures.value ∙ c.in_ok-v.ensures.vector.len;
    }

pub returns-clause-value : goal.returns-clause-value
returns-clause-value g c =
    let F = g.K.Ring.elements c.args.k.now in
    let L = g.K.Ring.lawful c.args.k.now in
    let e = c.add_scaled.ensures in
    subst (λ l. IsMultiple F c.args.d.now c.args.at (vector_of F l))
    (sym (with_items_is c.in_ok-v.v c.add_scaled.new.sum (e.len ∙ c.deref_mut.ensures.len)))
    (shifted_is F L c.args.d.now c.add_scaled.new.sum c.deref_mut.result.now c.coeffs.result.now
    c.args.at c.one.result e.value
    (λ i. ap (λ l. vector_of F l i) c.deref_mut.ensures.value ∙ c.in_ok-v.ensures.value i)
    c.one.ensures.value c.coeffs.ensures)
