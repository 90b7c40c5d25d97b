use Rattle.std.proofs.Common.{◌≡◌, ℕ, ◌*◌, ◌-◌, length, map, sym, ap, subst, arith, All}
use Rattle.std.proofs.lemmas.List.Elements.{All-push}
use Rattle.std.specs.Global.{Vec}
use Rattle.ff_theory.specs.Poly.{polynomials}
use Rattle.ff_theory.specs.Monomial.{monomial}
use Rattle.ff_theory.specs.Values.{poly_of}
use Rattle.ff_theory.specs.Vector.{IsVector, vectors_of}
use Rattle.ff_charts.specs.Lattice.{flat}
use Rattle.ff_common.proofs.TimesSpaces.{row_pushed}
use Rattle.ff_fibre.proofs.numerators.power_vectors.Goals as goal

pub loop-i-preserved : goal.loop-i-preserved
loop-i-preserved g c =
    let F = g.K.Ring.elements c.args.alg.now.k in
    let d = c.args.order.now.d in
    let items = λ (r : Vec ℕ). r.items in
    let n = length c.args.alg.now.f - 1 in
    let old = c.loop-i.list.items in
    let row = c.in_ok-power_vector.field-0 in
    let e = c.in_ok-push.ensures.items in
    let h = c.loop-i.invariant in
    let rows : length c.rows.result.now - 1 ≡ n = ap (λ x. length x - 1) c.rows.ensures in
    let P : ℕ → (ℕ → F.carrier) → Type 0 = λ i r. (j : ℕ) → r j
    ≡ flat F.ring (length d) (monomial (polynomials F.ring) (poly_of F d) i) j in
    record {
      len = omega (arith, c.in_ok-push.ensures.len, h.len);
      vectors = subst (All (λ (v : Vec ℕ). IsVector F (n * length d) (items v))) (sym e)
          (All-push (λ (v : Vec ℕ). IsVector F (n * length d) (items v)) old row h.vectors
          (subst (λ m. IsVector F (m * length d) (items row)) rows
          c.in_ok-power_vector.ensures.vector));
      value = λ j l. subst (λ t. P j (vectors_of F (map items t) j)) (sym e)
          (row_pushed F items old row P c.loop-i.i h.len h.value
          c.in_ok-power_vector.ensures.value j l);
    }

pub returns-clause-count : goal.returns-clause-count
returns-clause-count g c = omega (
  arith,
  c.loop-i.invariant.len,
  c.loop-i-test.false,
  c.loop-i.auto.i-end,
  ap length c.rows.ensures,
)

pub returns-clause-value : goal.returns-clause-value
returns-clause-value g c i j l = c.loop-i.invariant.value i
    (omega (arith, c.loop-i-test.false, l, ap length c.rows.ensures)) j
