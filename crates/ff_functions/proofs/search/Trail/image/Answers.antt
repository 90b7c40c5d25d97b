use Rattle.std.proofs.Common.{◌≡◌, ℕ, ◌-◌, pred, length, sym, ap, subst}
use Rattle.std.proofs.Common.{arith, refl, ◌∙◌}
use Rattle.ff_theory.specs.Ring.{power}
use Rattle.ff_theory.specs.Poly.{polynomials}
use Rattle.ff_theory.specs.Monomial.{variable}
use Rattle.ff_theory.proofs.Results.{ok_map}
use Rattle.ff_data.specs.declared.order.Chart.TheVariants.{Finite, Infinite}
use Rattle.ff_theory.specs.Values.{plane_of}
use Rattle.ff_theory.specs.Vector.{vector_of}
use Rattle.ff_charts.specs.Lattice.{HasShape}
use Rattle.ff_data.proofs.NumeratorLemmas.{order_length}
use Rattle.ff_functions.proofs.ShortImages.{low_short}
use Rattle.ff_functions.proofs.SearchImages.{plane_image, plane_times}
use Rattle.ff_functions.proofs.search.Trail.image.Goals as goal

pub overflow_sub-l : goal.overflow_sub-l
overflow_sub-l g c =
    let F = g.K.Ring.elements c.args.alg.now.k in
    let L = g.K.Ring.lawful c.args.alg.now.k in
    let d = order_length F L c.args.alg.now.f c.args.alg.now.plane c.args.alg.now.has_y
    c.args.order.now c.requires.order in
    omega (arith, ap length c.coeffs.ensures, c.requires.form.powers.size, d)

pub vector_of_plane-requires : goal.vector_of_plane-requires
vector_of_plane-requires g c =
    let F = g.K.Ring.elements c.args.alg.now.k in
    let s = c.args.self.now.powers in
    let h = c.requires.form.powers.power in
    let N = plane_of F s.power in
    let rows : length c.args.alg.now.f - 1 ≡ length c.rows.result.now - 1 =
    ap (λ x. length x - 1) (sym c.rows.ensures) in
    let l : pred (length s.modulus) ≡ length c.coeffs.result.now - 1 =
    omega (arith, ap length c.coeffs.ensures) in
    record {
      a = h.plane;
      shape = subst (λ n. HasShape F.ring n (length c.coeffs.result.now - 1) N) rows
          (subst (λ l. HasShape F.ring (length c.args.alg.now.f - 1) l N) l h.shape);
    }

pub image-requires-clause-nonzero : goal.image-requires-clause-nonzero
image-requires-clause-nonzero g c =
    let F = g.K.Ring.elements c.args.alg.now.k in
    let L = g.K.Ring.lawful c.args.alg.now.k in
    let d = order_length F L c.args.alg.now.f c.args.alg.now.plane c.args.alg.now.has_y
    c.args.order.now c.requires.order in
    omega (arith, c.requires.form.powers.size, d)

pub returns-in-Finite-clause-value : goal.returns-in-Finite-clause-value
returns-in-Finite-clause-value g c =
    let F = g.K.Ring.elements c.args.alg.now.k in
    let L = g.K.Ring.lawful c.args.alg.now.k in
    let f = c.args.alg.now.f in
    let s = c.args.self.now.powers in
    let h = c.args.frame.now.h in
    let v = c.deref.result.now in
    let l : length c.coeffs.result.now - 1 ≡ pred (length s.modulus) =
    omega (arith, ap length c.coeffs.ensures) in
    let same = λ (j : ℕ). ap (λ t. vector_of F t j) c.deref.ensures.value
    ∙ c.in_ok-v.ensures.value j in
    ok_map _ _ c.image.result (λ r value p exact. record {
      powers = s;
      form = c.requires.form.powers;
      exact = exact;
      numerator = refl;
      finite = λ e. plane_image F L f s.modulus v s.power (length c.coeffs.result.now - 1)
          (pred (length s.modulus)) h (vector_of F r.items) l same value
          (low_short F L f s.modulus (pred (length s.modulus)) h _ (omega arith)
          c.requires.frame.steep);
      infinite = λ e. let k : Finite ≡ Infinite = sym c.in-Finite.is ∙ e in absurd (cc);
    }) c.image.ensures.value

pub returns-clause-value : goal.returns-clause-value
returns-clause-value g c =
    let F = g.K.Ring.elements c.args.alg.now.k in
    let L = g.K.Ring.lawful c.args.alg.now.k in
    let f = c.args.alg.now.f in
    let s = c.args.self.now.powers in
    let h = c.args.frame.now.h in
    let v = c.deref-in-Infinite.result.now in
    let l : length c.coeffs.result.now - 1 ≡ pred (length s.modulus) =
    omega (arith, ap length c.coeffs.ensures) in
    let same = λ (j : ℕ). ap (λ t. vector_of F t j) c.deref-in-Infinite.ensures.value
    ∙ c.in_ok-v.ensures.value j in
    ok_map _ _ c.raised.result (λ r value p exact. record {
      powers = s;
      form = c.requires.form.powers;
      exact = exact;
      numerator = refl;
      finite = λ e. let k : Finite ≡ Infinite = sym e ∙ c.in-Infinite.is in absurd (cc);
      infinite = λ e. plane_times F L f (λ m. power (polynomials F.ring) (variable F.ring) m) v
          s.power (length c.coeffs.result.now - 1) (pred (length s.modulus)) h
          (vector_of F r.items) l same value;
    }) c.raised.ensures.value
