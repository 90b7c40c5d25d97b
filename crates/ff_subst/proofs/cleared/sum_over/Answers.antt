use Rattle.std.proofs.Common.{length, ℕ, ◌∙◌, ◌≡◌}
use Rattle.ff_theory.proofs.Results.{ok_map}
use Rattle.ff_elem.specs.Elem.{algebra_in, elem_of, over_in}
use Rattle.ff_elem.proofs.PolyLemmas.{product-length}
use Rattle.ff_subst.specs.Cleared.{AreCleared, linear_sum}
use Rattle.ff_subst.proofs.ClearedLemmas.{mixture-value}
use Rattle.ff_subst.proofs.cleared.sum_over.Goals as goal

pub combined-requires : goal.combined-requires
combined-requires g c =
    record {
      c = c.requires.common.left;
      list = c.requires.list;
      p = c.requires.p;
      d = c.requires.common.right;
      num = c.requires.e.num;
    }

pub mul-requires : goal.mul-requires
mul-requires g c =
    record { a = c.requires.common.left.each; b = c.requires.list.den.each }

pub from_parts-requires : goal.from_parts-requires
from_parts-requires g c =
    let K = g.K.Ring.elements c.args.alg.now.k in
    let L = g.K.Ring.lawful c.args.alg.now.k in
    record {
      num = c.in_ok-num.ensures.plane;
      den = c.in_ok-den.ensures.poly;
      nonzero = product-length K L c.in_ok-den.den c.args.c.now c.args.list.now.den
          c.requires.common.left c.requires.list.den c.requires.common.some_left
          c.requires.list.nonzero c.in_ok-den.ensures.value;
    }

pub returns-clause-value : goal.returns-clause-value
returns-clause-value g c =
    let K = g.K.Ring.elements c.args.alg.now.k in
    let L = g.K.Ring.lawful c.args.alg.now.k in
    let f = c.args.alg.now.f in
    let A = algebra_in L f in
    let list = c.args.list.now in
    let p = c.args.p.now in
    let i = c.args.i in
    let e = c.args.e.now in
    ok_map (λ r. elem_of L f r ≡ over_in L f c.in_ok-num.num c.in_ok-den.den)
    (λ r. (u : ℕ → A.carrier) → AreCleared L f u list → elem_of L f r
    ≡ A.add (linear_sum L f p i u (length list.planes)) (elem_of L f e)) c.from_parts.result
    (λ r h u k. h ∙ mixture-value K L f u list c.args.c.now c.args.d.now p c.in_ok-den.den i e
    c.in_ok-num.num c.requires.e c.requires.common c.requires.list c.in_ok-den.ensures.value
    c.in_ok-num.ensures.value k) c.from_parts.ensures.value
