use Rattle.std.proofs.Common.{◌≡◌, [], sym, ◌∙◌, ap, length, subst, All}
use Rattle.std.proofs.lemmas.List.{nil_from_length}
use Rattle.std.proofs.lemmas.List.Elements.{All-append}
use Rattle.std.proofs.lemmas.Bool.{eqb-true}
use Rattle.ff_theory.specs.Ring.{power, IsElement}
use Rattle.ff_theory.specs.Poly.{polynomials}
use Rattle.ff_theory.specs.Values.{poly_of}
use Rattle.ff_theory.specs.Monomial.{variable}
use Rattle.ff_theory.proofs.Product.{times_zero, zeros_before}
use Rattle.ff_poly.proofs.poly.Poly.shift.Goals as goal

pub returns-then-is_empty-clause-value : goal.returns-then-is_empty-clause-value
returns-then-is_empty-clause-value g c =
    let K = g.K.Ring.elements c.args.k.now in
    let empty : c.args.self.now ≡ [] = sym c.self.view_is
    ∙ nil_from_length c.self.inside.items.items
    (eqb-true (length c.self.inside.items.items) 0 (sym c.is_empty.ensures ∙ c.if-is_empty.true)) in
    ap (poly_of K) c.zero.ensures ∙ times_zero K.ring (g.met.K.Ring.laws c.args.k.now)
    (g.met.K.Ring.tests c.args.k.now) (power (polynomials K.ring) (variable K.ring) c.args.i)
    ∙ ap (λ t. (polynomials K.ring).mul (power (polynomials K.ring) (variable K.ring) c.args.i)
    (poly_of K t)) (sym empty)

pub trim-requires : goal.trim-requires
trim-requires g c =
    let K = g.K.Ring.elements c.args.k.now in
    let rest : c.as_slice.result.now ≡ c.args.self.now = c.as_slice.ensures ∙ c.self.view_is in
    subst (All (IsElement K)) (sym c.in_ok-extend_from_slice.ensures.ok)
    (All-append (IsElement K) c.in_ok-items.items.items c.as_slice.result.now
    c.in_ok-items.ensures.each (subst (All (IsElement K)) (sym rest) c.requires.a))

pub returns-clause-value : goal.returns-clause-value
returns-clause-value g c =
    let K = g.K.Ring.elements c.args.k.now in
    let rest : c.as_slice.result.now ≡ c.args.self.now = c.as_slice.ensures ∙ c.self.view_is in
    c.trim.ensures.value
    ∙ zeros_before K.ring (g.met.K.Ring.laws c.args.k.now) (g.met.K.Ring.tests c.args.k.now) K.value
    c.in_ok-items.items.items c.as_slice.result.now c.extend_from_slice.new.self.items c.args.i
    c.in_ok-extend_from_slice.ensures.ok c.in_ok-items.ensures.len c.in_ok-items.ensures.value
    ∙ ap (λ p. (polynomials K.ring).mul (power (polynomials K.ring) (variable K.ring) c.args.i)
    (poly_of K p)) rest
