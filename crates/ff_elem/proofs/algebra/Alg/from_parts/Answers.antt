use Rattle.std.proofs.Common.{length, ◌∙◌, sym, ap, subst, arith}
use Rattle.ff_theory.specs.Values.{ArePolys}
use Rattle.ff_theory.proofs.Results.{ok_map}
use Rattle.ff_elem.specs.Elem.{over_in}
use Rattle.ff_elem.proofs.PolyLemmas.{product-length}
use Rattle.ff_elem.proofs.Reduction.{reduced-value}
use Rattle.ff_elem.proofs.Quotients.{over-multiple}
use Rattle.ff_elem.proofs.algebra.Alg.from_parts.Goals as goal

pub reduce-requires : goal.reduce-requires
reduce-requires g c = record {
  a = c.requires.num;
  f = c.args.self.now.plane;
  nonzero = omega
      (arith, c.args.self.now.has_y);
}

pub mul-requires : goal.mul-requires
mul-requires g c = record { a = c.in_ok-c.ensures.factor.each; b = c.requires.den.each }

pub fraction-requires : goal.fraction-requires
fraction-requires g c =
    let F = g.K.Ring.elements c.args.self.now.k in
    let L = g.K.Ring.lawful c.args.self.now.k in
    let e = c.in_ok-c.ensures in
    record {
      den = c.in_ok-whole.ensures.poly;
      nonzero = product-length F L c.in_ok-whole.whole c.in_ok-c.c c.args.den.now e.factor
          c.requires.den e.nonzero c.requires.nonzero c.in_ok-whole.ensures.value;
      rows = subst (ArePolys F) (sym c.into_rows.ensures) e.rest.each;
      small = omega (arith, ap length c.into_rows.ensures, e.smaller);
    }

pub returns-clause-value : goal.returns-clause-value
returns-clause-value g c =
    let F = g.K.Ring.elements c.args.self.now.k in
    let L = g.K.Ring.lawful c.args.self.now.k in
    let f = c.args.self.now.f in
    let e = c.in_ok-c.ensures in
    ok_map _ _ c.fraction.result
    (λ r h. h ∙ ap (λ t. over_in L f t c.in_ok-whole.whole) c.into_rows.ensures
    ∙ over-multiple F L f c.args.num.now c.in_ok-c.rest c.args.den.now c.in_ok-c.c
    c.in_ok-whole.whole c.requires.den c.requires.nonzero e.factor e.nonzero
    (reduced-value F L f c.in_ok-c.c c.args.num.now c.in_ok-c.rest c.args.self.now.plane
    (omega (arith, c.args.self.now.has_y)) e.value) c.in_ok-whole.ensures.value)
    c.fraction.ensures.value
