use Rattle.std.proofs.Common.{◌≡◌, true, false, sym, ◌∙◌, subst}
use Rattle.ff_theory.proofs.Results.{ok_map}
use Rattle.ff_elem.specs.Elem.{elem_of}
use Rattle.ff_const.specs.Fixed.{IsKind, less_constant_of}
use Rattle.ff_const.proofs.factors.kind_less.Goals as goal

pub kind_of_nonzero-requires : goal.kind_of_nonzero-requires
kind_of_nonzero-requires g c = record {
  w = c.in_ok-less.ensures.element;
  nonzero = λ e. absurd (let t : c.in_ok-is_zero.field-0 ≡ true = c.in_ok-is_zero.ensures.1 e in
      let o : true ≡ false = sym t ∙ c.if-branch.false in cc);
}

pub returns-then-branch : goal.returns-then-branch
returns-then-branch g c = sym c.in_ok-less.ensures.value
    ∙ c.in_ok-is_zero.ensures.0 c.if-branch.true

pub returns : goal.returns
returns g c =
    let K = g.K.Ring.elements c.args.alg.now.k in
    let L = g.K.Ring.lawful c.args.alg.now.k in
    let f = c.args.alg.now.f in
    let less = less_constant_of L f (elem_of L f c.args.w.now) (K.value c.args.c) in
    ok_map (IsKind L f (elem_of L f c.in_ok-less.less)) (IsKind L f less) c.kind_of_nonzero.result
    (λ r h. subst (λ v. IsKind L f v r) c.in_ok-less.ensures.value h) c.kind_of_nonzero.ensures
