use Rattle.std.proofs.Common.{◌≡◌, ◌∙◌, ◌+◌, ◌<◌, List, ℕ, length, sym, ap, subst, arith, Option}
use Rattle.ff_theory.specs.Vector.{vectors_of}
use Rattle.ff_theory.proofs.Results.{ok_map}
use Rattle.ff_lin.specs.Space.{HasExactly}
use Rattle.ff_elem.specs.declared.elem.Elem.{Elem}
use Rattle.ff_elem.specs.Elem.{elem_of}
use Rattle.ff_data.specs.declared.system.Coords.{Coords}
use Rattle.ff_data.specs.Combinations.{AreElems, IsRelationOf}
use Rattle.ff_data.specs.Systems.{IsExpression}
use Rattle.ff_systems.specs.Places.{frame}
use Rattle.ff_describe.specs.Levels.{offset, HasLevels}
use Rattle.ff_describe.specs.Readings.{AreZero, IsWrittenIn}
use Rattle.ff_describe.proofs.Options.{some-map, none-map}
use Rattle.ff_describe.proofs.TableLemmas.{in-space}
use Rattle.ff_describe.proofs.ExpressionLemmas.{written-expression, no-expression}
use Rattle.ff_describe.proofs.expression.express_within.Goals as goal

pub push_levels-requires : goal.push_levels-requires
push_levels-requires g c = record {
  z = c.requires.z;
  b = c.requires.b;
  count = ap length c.deref.ensures.value ∙ c.in_ok-counts.ensures.count ∙ c.requires.weights
      ∙ sym c.requires.count;
  list = c.in_ok-powers.ensures.elems;
}

pub relations_of-requires : goal.relations_of-requires
relations_of-requires g c =
    let L = g.K.Ring.lawful c.args.alg.now.k in
    subst (AreElems L c.args.alg.now.f) (sym c.deref-2.ensures.value) c.in_ok-list.ensures.elems

pub coords_of_space-requires : goal.coords_of_space-requires
coords_of_space-requires g c =
    let s = c.in_ok-relations.relations in
    let n : c.len-n.result ≡ length c.in_ok-powers.powers.items = omega (
      arith,
      c.len-n.ensures,
      c.in_ok-powers.powers.ok.0,
    ) in
    record {
      space = c.in_ok-relations.ensures.space.space;
      room = subst (λ (r : List ℕ). s.len ≡ c.len-n.result + offset r (length r))
          (c.deref.ensures.value ∙ sym c.deref-3.ensures.value)
          (c.in_ok-relations.ensures.space.len ∙ ap length c.deref-2.ensures.value
          ∙ c.in_ok-list.ensures.len
          ∙ ap (λ m. m + offset c.deref.result.now (length c.deref.result.now)) (sym n));
    }

pub returns-clause-some : goal.returns-clause-some
returns-clause-some g c =
    let K = g.K.Ring.elements c.args.alg.now.k in
    let L = g.K.Ring.lawful c.args.alg.now.k in
    let f = c.args.alg.now.f in
    let s = c.in_ok-relations.relations in
    let heads = c.in_ok-powers.powers.items in
    let ws = c.in_ok-list.list.items in
    let counts = c.in_ok-counts.counts.items in
    let z = c.args.z.now in
    let b = c.args.b.now in
    let w = c.args.w.now in
    let n : c.len-n.result ≡ length heads = omega (
      arith,
      c.len-n.ensures,
      c.in_ok-powers.powers.ok.0,
    ) in
    ok_map _ _ c.coords_of_space.result (λ (o : Option Coords) h. some-map o
    (IsWrittenIn K c.len-n.result c.deref-3.result.now s)
    (IsExpression L f (frame c.args.e z b c.args.weights.now) (elem_of L f w) c.args.q_deg
    c.args.weight)
    (λ x k. written-expression K L f c.args.e c.args.weight z b c.args.weights.now counts heads ws w
    c.args.q_deg c.requires.weights c.in_ok-counts.ensures
    (subst (λ (r : List ℕ). HasLevels L f heads z b r (length r) ws) c.deref.ensures.value
    c.in_ok-list.ensures) c.in_ok-powers.ensures s
    (subst (λ (r : List Elem). HasExactly K s (IsRelationOf L f r)) c.deref-2.ensures.value
    c.in_ok-relations.ensures.exact) x
    (subst (λ (r : List ℕ). IsWrittenIn K (length heads) r s x) c.deref-3.ensures.value
    (subst (λ m. IsWrittenIn K m c.deref-3.result.now s x) n k))
    (in-space K L f s)) h) c.coords_of_space.ensures.some

pub returns-clause-none : goal.returns-clause-none
returns-clause-none g c =
    let K = g.K.Ring.elements c.args.alg.now.k in
    let L = g.K.Ring.lawful c.args.alg.now.k in
    let f = c.args.alg.now.f in
    let s = c.in_ok-relations.relations in
    let heads = c.in_ok-powers.powers.items in
    let ws = c.in_ok-list.list.items in
    let counts = c.in_ok-counts.counts.items in
    let z = c.args.z.now in
    let b = c.args.b.now in
    let w = c.args.w.now in
    let n : c.len-n.result ≡ length heads = omega (
      arith,
      c.len-n.ensures,
      c.in_ok-powers.powers.ok.0,
    ) in
    let levels = subst (λ (r : List ℕ). HasLevels L f heads z b r (length r) ws)
    c.deref.ensures.value c.in_ok-list.ensures in
    ok_map _ _ c.coords_of_space.result (λ (o : Option Coords) h. none-map o
    ((i : ℕ) → i < length s.basis → AreZero K c.len-n.result (vectors_of K s.basis i))
    ((x : Coords) → ¬ IsExpression L f (frame c.args.e z b c.args.weights.now) (elem_of L f w)
    c.args.q_deg c.args.weight x)
    (λ k. no-expression K L f c.args.e c.args.weight z b c.args.weights.now counts heads ws w
    c.args.q_deg c.requires.weights c.in_ok-counts.ensures levels c.in_ok-powers.ensures s
    (subst (λ (r : List Elem). HasExactly K s (IsRelationOf L f r)) c.deref-2.ensures.value
    c.in_ok-relations.ensures.exact)
    (c.in_ok-relations.ensures.space.len ∙ ap length c.deref-2.ensures.value ∙ levels.len)
    (λ i l. subst (λ m. AreZero K m (vectors_of K s.basis i)) n (k i l))) h)
    c.coords_of_space.ensures.none
