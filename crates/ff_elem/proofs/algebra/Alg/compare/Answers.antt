use Rattle.std.proofs.Common.{length, sym, ◌∙◌, ap, ap₂, subst, arith, All}
use Rattle.ff_theory.specs.Values.{IsPoly}
use Rattle.ff_elem.specs.Key.{rows_key, key_cmp}
use Rattle.ff_elem.proofs.Quotients.{element-count}
use Rattle.ff_elem.proofs.KeyLemmas.{den-differ, den-agree, equal-element}
use Rattle.ff_elem.proofs.algebra.Alg.compare.Goals as goal

pub returns-then-is_ne-clause-order : goal.returns-then-is_ne-clause-order
returns-then-is_ne-clause-order g c =
    den-differ (g.K.Ring.elements c.args.self.now.k) c.args.a.now c.args.b.now
    c.compare_polys-order.result c.compare_polys-order.ensures
    (sym c.is_ne.ensures ∙ c.if-is_ne.true)

pub compare_rows-requires : goal.compare_rows-requires
compare_rows-requires g c =
    let K = g.K.Ring.elements c.args.self.now.k in
    let L = g.K.Ring.lawful c.args.self.now.k in
    let f = c.args.self.now.f in
    let a = element-count K L f c.args.a.now c.args.self.now.plane c.args.self.now.has_y
    c.requires.a in
    let b = element-count K L f c.args.b.now c.args.self.now.plane c.args.self.now.has_y
    c.requires.b in
    record {
      a = subst (All (λ p. IsPoly K p)) (sym c.rows.ensures) c.requires.a.num;
      b = subst (All (λ p. IsPoly K p)) (sym c.rows-2.ensures) c.requires.b.num;
      same = omega (arith, a, b, ap length c.rows.ensures, ap length c.rows-2.ensures);
    }

pub returns-clause-order : goal.returns-clause-order
returns-clause-order g c =
    let K = g.K.Ring.elements c.args.self.now.k in
    den-agree K c.args.a.now c.args.b.now c.compare_polys-order.result c.compare_rows.result
    c.compare_polys-order.ensures (sym c.is_ne.ensures ∙ c.if-is_ne.false)
    (c.compare_rows.ensures ∙ ap₂ (λ s t. key_cmp (rows_key K s) (rows_key K t)) c.rows.ensures
    c.rows-2.ensures)

pub returns-then-is_ne-clause-equal : goal.returns-then-is_ne-clause-equal
returns-then-is_ne-clause-equal g c =
    let K = g.K.Ring.elements c.args.self.now.k in
    equal-element K (g.K.Ring.lawful c.args.self.now.k) c.args.self.now.f
    (g.met.K.Ring.one_value c.args.self.now.k)
    (g.met.K.FiniteField.is_finite_field c.args.self.now.k).at_index c.args.a.now c.args.b.now
    c.args.self.now.plane c.args.self.now.has_y c.requires.a c.requires.b
    c.compare_polys-order.result
    (den-differ K c.args.a.now c.args.b.now c.compare_polys-order.result
    c.compare_polys-order.ensures (sym c.is_ne.ensures ∙ c.if-is_ne.true))

pub returns-clause-equal : goal.returns-clause-equal
returns-clause-equal g c =
    let K = g.K.Ring.elements c.args.self.now.k in
    equal-element K (g.K.Ring.lawful c.args.self.now.k) c.args.self.now.f
    (g.met.K.Ring.one_value c.args.self.now.k)
    (g.met.K.FiniteField.is_finite_field c.args.self.now.k).at_index c.args.a.now c.args.b.now
    c.args.self.now.plane c.args.self.now.has_y c.requires.a c.requires.b c.compare_rows.result
    (den-agree K c.args.a.now c.args.b.now c.compare_polys-order.result c.compare_rows.result
    c.compare_polys-order.ensures (sym c.is_ne.ensures ∙ c.if-is_ne.false)
    (c.compare_rows.ensures ∙ ap₂ (λ s t. key_cmp (rows_key K s) (rows_key K t)) c.rows.ensures
    c.rows-2.ensures))
