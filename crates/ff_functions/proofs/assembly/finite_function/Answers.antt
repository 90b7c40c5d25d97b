use Rattle.std.proofs.Common.{◌≡◌, ◌+◌, ◌-◌, length, take, drop, sym, ◌∙◌, ap, subst}
use Rattle.std.proofs.Common.{arith, All}
use Rattle.ff_theory.proofs.Results.{ok_map}
use Rattle.ff_theory.specs.Values.{ArePolys, plane_of}
use Rattle.ff_theory.specs.Vector.{vector_of}
use Rattle.ff_charts.specs.Chart.{at_theta}
use Rattle.ff_elem.specs.Elem.{elem_of}
use Rattle.ff_data.specs.declared.order.Chart.TheVariants.{Finite}
use Rattle.ff_data.specs.Orders.{chart_of, y_degree}
use Rattle.ff_data.specs.Vectors.{IsPlaneWithin}
use Rattle.ff_data.proofs.NumeratorLemmas.{order_length}
use Rattle.ff_functions.specs.Combined.{IsWithPowers}
use Rattle.ff_functions.proofs.CombinedLemmas.{finite_value}
use Rattle.ff_functions.proofs.VectorLemmas.{head_vector, tail_each, tail_length}
use Rattle.ff_functions.proofs.assembly.finite_function.Goals as goal

pub base_plane-requires : goal.base_plane-requires
base_plane-requires g c =
    let F = g.K.Ring.elements c.args.alg.now.k in
    let number = c.args.number.now in
    let count = length c.args.frame.now.numerators.items in
    let e : c.len-c.result ≡ count = omega (arith, c.len-c.ensures) in
    record {
      frame = c.requires.frame;
      coefficients = head_vector F number.relation.items c.deref.result.now c.len-c.result
          c.deref.ensures.value count number.j e c.requires.number.relation;
    }

pub with_powers-requires : goal.with_powers-requires
with_powers-requires g c =
    let F = g.K.Ring.elements c.args.alg.now.k in
    let L = g.K.Ring.lawful c.args.alg.now.k in
    let v = c.args.number.now.relation.items in
    let w = c.deref-2.result.now in
    let s = c.deref-2.ensures.value in
    let tail = tail_length F v w c.len-c.result s in
    record {
      root = c.requires.trail.powers.root;
      base = c.in_ok-base.ensures.plane;
      coefficients = tail_each F v w c.len-c.result s c.requires.number.relation.each;
      powers = subst (All (IsPlaneWithin F (y_degree L c.args.alg.now.f)))
          (sym c.deref-3.ensures.value) c.requires.trail.passed;
      enough = omega (
        arith,
        tail,
        c.requires.number.relation.len,
        c.requires.number.within,
        c.len-c.ensures,
        ap length c.deref-3.ensures.value,
      );
    }

pub denominator-requires : goal.denominator-requires
denominator-requires g c =
    let F = g.K.Ring.elements c.args.alg.now.k in
    let L = g.K.Ring.lawful c.args.alg.now.k in
    record {
      d = c.requires.order.d;
      nonzero = order_length F L c.args.alg.now.f c.args.alg.now.plane c.args.alg.now.has_y
          c.args.finite.now c.requires.order;
      root = c.requires.trail.powers.root;
      root_nonzero = omega (arith, c.requires.trail.powers.root_size);
    }

pub element-requires : goal.element-requires
element-requires g c =
    let F = g.K.Ring.elements c.args.alg.now.k in
    let h = c.in_ok-numerator.ensures.plane in
    record {
      rows = subst (ArePolys F) (sym c.rows.ensures) h.plane.each;
      few = omega (arith, ap length c.rows.ensures, h.few);
      den = c.in_ok-den.ensures.poly;
      nonzero = c.in_ok-den.ensures.nonzero;
    }

pub returns-clause-value : goal.returns-clause-value
returns-clause-value g c =
    let F = g.K.Ring.elements c.args.alg.now.k in
    let L = g.K.Ring.lawful c.args.alg.now.k in
    let f = c.args.alg.now.f in
    let o = c.args.finite.now in
    let s = c.args.frame.now in
    let t = c.args.trail.now in
    let p = c.args.number.now in
    let count = length s.numerators.items in
    let e : c.len-c.result ≡ count = omega (arith, c.len-c.ensures) in
    let len : length p.relation.items ≡ c.len-c.result + p.j
    = omega (arith, e, c.requires.number.relation.len) in
    let v = p.relation.items in
    let den = c.in_ok-den in
    let new = c.in_ok-numerator in
    let one : c.deref-2.result.now ≡ c.deref.result.now
    = c.deref-2.ensures.value ∙ sym c.deref.ensures.value in
    ok_map _ _ c.element.result (λ r h w u are powers. finite_value F L f c.args.alg.now.plane
    c.args.alg.now.has_y s v c.deref.result.now c.len-c.result p.j c.deref.ensures.value e len o.d
    c.requires.order.d
    (order_length F L f c.args.alg.now.plane c.args.alg.now.has_y o c.requires.order)
    t.powers.root den.den den.ensures.poly den.ensures.nonzero den.ensures.value
    c.in_ok-base.base new.numerator t.passed.items (elem_of L f r) c.in_ok-base.ensures.value
    (subst (λ l. IsWithPowers L f t.powers.root c.in_ok-base.base l
    (length (take (length c.deref.result.now - c.len-c.result)
    (drop c.len-c.result c.deref.result.now)))
    (vector_of F (take (length c.deref.result.now - c.len-c.result)
    (drop c.len-c.result c.deref.result.now))) new.numerator) c.deref-3.ensures.value
    (subst (λ x. IsWithPowers L f t.powers.root c.in_ok-base.base c.deref-3.result.now
    (length (take (length x - c.len-c.result) (drop c.len-c.result x)))
    (vector_of F (take (length x - c.len-c.result) (drop c.len-c.result x))) new.numerator) one
    new.ensures.value))
    (h ∙ ap (λ N. at_theta (chart_of L f Finite) (plane_of F N)) c.rows.ensures) w u are powers)
    c.element.ensures.value
