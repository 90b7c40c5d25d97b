use Rattle.std.proofs.Common.{ap, arith, length, ℕ, sym, ◌+◌, ◌∙◌, ◌≡◌}
use Rattle.ff_theory.proofs.Results.{ok_map}
use Rattle.ff_elem.specs.Elem.{algebra_in, elem_of}
use Rattle.ff_subst.specs.Cleared.{AreCleared}
use Rattle.ff_subst.proofs.blocks.unit.Goals as goal

pub append-requires : goal.append-requires
append-requires g c =
    record { list = c.in_ok-none.ensures.cleared; e = c.in_ok-one.ensures.element }

pub returns-clause-count : goal.returns-clause-count
returns-clause-count g c =
    ok_map (λ r. length r.planes ≡ length c.in_ok-none.none.planes + 1)
    (λ r. length r.planes ≡ 1) c.append.result
    (λ r h. h ∙ ap (λ n. n + 1) c.in_ok-none.ensures.count) c.append.ensures.count

pub returns-clause-element : goal.returns-clause-element
returns-clause-element g c =
    let L = g.K.Ring.lawful c.args.alg.now.k in
    let f = c.args.alg.now.f in
    let A = algebra_in L f in
    let none = c.in_ok-none.none in
    ok_map (λ r. (u : ℕ → A.carrier) → AreCleared L f u none
    → elem_of L f c.in_ok-one.one ≡ u (length none.planes) → AreCleared L f u r)
    (λ r. (u : ℕ → A.carrier) → A.one ≡ u 0 → AreCleared L f u r) c.append.result
    (λ r h u e. h u (λ j l. absurd (omega (arith, l, c.in_ok-none.ensures.count)))
    (c.in_ok-one.ensures.value ∙ e ∙ ap u (sym c.in_ok-none.ensures.count)))
    c.append.ensures.elements
