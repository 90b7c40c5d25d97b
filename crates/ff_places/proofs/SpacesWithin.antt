-- The spaces of the point of a field lie in those of a point of the rings of two charts, whose
-- kernel vanishes at the point of the field.
use Rattle.std.proofs.Common.{◌≡◌, ℕ, zero, suc, ◌+◌ as plus_ℕ, refl, subst, arith}
use Rattle.ff_theory.specs.Lawful.{Field}
use Rattle.ff_theory.proofs.Solver.{◌⊗◌, ring3}
use Rattle.ff_local.specs.Module.{IsCarried}
use Rattle.ff_places.proofs.FieldSpaces.{FieldSpaces}
use Rattle.ff_places.proofs.Regular.{AtLeast, HasPole, at_least_mul, space_times, constant_regular}
use Rattle.ff_places.proofs.ChartRings.{IsChartRing, has_space, carried_in}

module _ {K : Field} (S : FieldSpaces K) (In Other : S.carrier → Type 0)
    (ring : IsChartRing K S.field S.constant In)
    (other : IsChartRing K S.field S.constant Other) (Kernel : S.carrier → Type 0)
    (inside : (r : S.carrier) → Kernel r → In r)
    (vanishes : (r : S.carrier) → Kernel r → AtLeast S 1 r) (h : S.carrier) (h_in : Other h)
    (pole : HasPole S h) where
  infixl 70 ◌*◌
  open S use {mul as ◌*◌}

  in_other : (j : ℕ) (w : S.carrier) → S.L j w → Other w
  in_other j w m = has_space S Other other j w m h h_in pole

  -- w times an element u that vanishes to the order i, where w is in L_(i + n)
  carried : (j : ℕ) (w : S.carrier) → S.L j w → (n i : ℕ) → plus_ℕ i n ≡ j → (u : S.carrier)
      → In u → AtLeast S i u → IsCarried S.ring Kernel In n (w * u)
  carried j w m zero i e u k v = subst In (S.laws.mul_comm u w)
      (carried_in S In ring j w m u k (space_times S j u w
      (subst (λ n. AtLeast S n u) (let q : i ≡ j = omega (arith, e) in q) v) m))
  carried j w m (suc n) i e u k v = λ r q. subst (IsCarried S.ring Kernel In n)
      (ring3 S.ring S.laws (λ w u r. w ⊗ (u ⊗ r)) (λ w u r. (w ⊗ u) ⊗ r) refl w u r)
      (carried j w m n (plus_ℕ i 1) (omega (arith, e)) (u * r) (ring.on_mul u r k (inside r q))
      (at_least_mul S i 1 u r v (vanishes r q)))

  -- L_j is in the pole module M_j and in the other ring
  pub within : (j : ℕ) (w : S.carrier) → S.L j w
      → IsCarried S.ring Kernel In j w × Other w
  within j w m = (
    subst (IsCarried S.ring Kernel In j) (S.laws.mul_one w) (carried j w m j 0 (omega arith) S.one
        (subst In S.spaces.constants.on_one (ring.on_constant K.one))
        (subst (AtLeast S 0) S.spaces.constants.on_one (constant_regular S K.one))),
    in_other j w m,
  )
