use Rattle.std.proofs.Common.{ℕ, sym, ◌∙◌, ap, subst, arith, All}
use Rattle.ff_theory.specs.Ring.{IsElement}
use Rattle.ff_theory.specs.Monomial.{monomial}
use Rattle.ff_theory.specs.Values.{poly_of, polys_over}
use Rattle.ff_functions.proofs.RowLemmas.{clear_value, clear_nothing}
use Rattle.ff_functions.proofs.echelon.Row.clear.Goals as goal

pub add_scaled-requires : goal.add_scaled-requires
add_scaled-requires g c =
    let F = g.K.Ring.elements c.args.k.now in
    let h = c.requires.row in
    record {
      sum = c.requires.v;
      c = c.neg-factor.ensures.element;
      b = subst (All (IsElement F)) (sym c.deref.ensures.value) h.tail;
      room = omega (arith, h.size, c.deref.ensures.len);
    }

pub add_scaled-requires-2 : goal.add_scaled-requires-2
add_scaled-requires-2 g c =
    let F = g.K.Ring.elements c.args.k.now in
    let h = c.requires.row in
    record {
      sum = c.requires.c;
      c = c.neg-factor.ensures.element;
      b = subst (All (IsElement F)) (sym c.deref-2.ensures.value) h.origin;
      room = omega (arith, h.few, c.deref-2.ensures.len);
    }

pub returns-clause-value : goal.returns-clause-value
returns-clause-value g c =
    let F = g.K.Ring.elements c.args.k.now in
    let P = polys_over F in
    let s = c.args.self.now in
    let m = λ (at : ℕ). monomial F.ring (F.value c.neg-factor.result) at in
    clear_value F (g.K.Ring.lawful c.args.k.now) s c.args.v.now c.add_scaled.new.sum
    c.neg-factor.result c.args.c.now c.add_scaled-2.new.sum
    (omega (arith, c.requires.row.size, c.requires.row.nonempty)) c.neg-factor.ensures.value
    (c.add_scaled.ensures.value ∙ ap (λ t. P.add (poly_of F c.args.v.now) (P.mul (m s.pivot)
    (poly_of F t))) c.deref.ensures.value)
    (c.add_scaled-2.ensures.value ∙ ap (λ t. P.add (poly_of F c.args.c.now) (P.mul (m 0)
    (poly_of F t))) c.deref-2.ensures.value)

pub returns-then-is_zero-clause-value : goal.returns-then-is_zero-clause-value
returns-then-is_zero-clause-value g c =
    let F = g.K.Ring.elements c.args.k.now in
    let L = g.K.Ring.lawful c.args.k.now in
    clear_nothing F L c.args.self.now c.args.v.now c.neg-factor.result c.args.c.now
    (omega (arith, c.requires.row.size, c.requires.row.nonempty)) c.neg-factor.ensures.value
    (L.tests.same_true (F.value c.neg-factor.result) F.zero
    (sym c.is_zero.ensures ∙ c.if-is_zero.true))
