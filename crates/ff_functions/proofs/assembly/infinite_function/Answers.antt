use Rattle.std.proofs.Common.{◌≡◌, ◌+◌, length, sym, subst, arith}
use Rattle.ff_theory.proofs.Results.{ok_map}
use Rattle.ff_theory.specs.Vector.{vector_of, IsVector}
use Rattle.ff_elem.specs.Elem.{elem_of}
use Rattle.ff_data.proofs.NumeratorLemmas.{order_length}
use Rattle.ff_common.specs.Common.{HasVectorOver}
use Rattle.ff_functions.proofs.CombinedLemmas.{infinite_value}
use Rattle.ff_functions.proofs.VectorLemmas.{head_vector}
use Rattle.ff_functions.proofs.assembly.infinite_function.Goals as goal

pub base-requires : goal.base-requires
base-requires g c =
    let F = g.K.Ring.elements c.args.alg.now.k in
    let number = c.args.number.now in
    let count = length c.args.frame.now.numerators.items in
    let e : c.len.result ≡ count = omega (arith, c.len.ensures) in
    record {
      frame = c.requires.frame;
      coefficients = head_vector F number.relation.items c.deref.result.now c.len.result
          c.deref.ensures.value count number.j e c.requires.number;
    }

pub quotient-requires : goal.quotient-requires
quotient-requires g c =
    let F = g.K.Ring.elements c.args.alg.now.k in
    let L = g.K.Ring.lawful c.args.alg.now.k in
    record {
      d = c.requires.order.d;
      nonzero = order_length F L c.args.alg.now.f c.args.alg.now.plane c.args.alg.now.has_y
          c.args.finite.now c.requires.order;
      vector = subst (IsVector F _) (sym c.deref-2.ensures.value) c.in_ok-v.ensures.vector;
    }

pub returns-clause-value : goal.returns-clause-value
returns-clause-value g c =
    let F = g.K.Ring.elements c.args.alg.now.k in
    let L = g.K.Ring.lawful c.args.alg.now.k in
    let f = c.args.alg.now.f in
    let o = c.args.finite.now in
    let s = c.args.frame.now in
    let p = c.args.number.now in
    let count = length s.numerators.items in
    let e : c.len.result ≡ count = omega (arith, c.len.ensures) in
    let len : length p.relation.items ≡ c.len.result + p.j = omega (arith, e, c.requires.number.len)
    in
    ok_map _ _ c.quotient.result (λ r h w are. infinite_value F L f c.args.alg.now.plane
    c.args.alg.now.has_y s p.relation.items c.deref.result.now c.len.result p.j
    c.deref.ensures.value e len o.d c.requires.order.d
    (order_length F L f c.args.alg.now.plane c.args.alg.now.has_y o c.requires.order)
    (vector_of F c.in_ok-v.v.items) c.in_ok-v.ensures.value (elem_of L f r)
    (subst (λ x. HasVectorOver L f o.d s.l (vector_of F x) (elem_of L f r))
    c.deref-2.ensures.value h) w are) c.quotient.ensures.value
