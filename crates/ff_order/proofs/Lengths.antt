-- Lengths as the calls compute them, and rows that are pushed.
use Rattle.std.proofs.Common.{◌≡◌, ℕ, zero, suc, pred, ◌+◌, ◌-◌, ◌<◌, List, [], ◌∷◌, ◌++◌, length}
use Rattle.std.proofs.Common.{map}
use Rattle.std.proofs.Common.{sym, ◌∙◌, ap, subst, arith}
use Rattle.ff_theory.specs.Ring.{Elements}
use Rattle.ff_theory.specs.Lawful.{Lawful, lawful_field}
use Rattle.ff_theory.specs.Planes.{Plane}
use Rattle.ff_theory.specs.Vector.{vector_of, vectors_of}
use Rattle.ff_theory.specs.Values.{IsPoly, IsPlane}
use Rattle.ff_charts.specs.Lattice.{HasShape}
use Rattle.ff_data.specs.declared.order.Chart.{Chart}
use Rattle.ff_data.specs.Orders.{chart_of}
use Rattle.ff_order.specs.Steps.{row_len, HasResidueShape}
use Rattle.ff_data.proofs.ChartLaws.{chart_degree}
use Rattle.ff_order.proofs.FirstSpace.{row_len_is}

pub row_pushed : {V : Type 0} (F : Elements ℕ) (items : V → List ℕ) (xs : List V) (y : V)
    (P : ℕ → (ℕ → F.carrier) → Type 0) (i : ℕ) → length xs ≡ i
    → ((j : ℕ) → j < i → P j (vectors_of F (map items xs) j)) → P i (vector_of F (items y))
    → (j : ℕ) → j < i + 1 → P j (vectors_of F (map items (xs ++ y ∷ [])) j)
row_pushed F items [] y P i e h k zero l = subst (λ n. P n (vector_of F (items y))) (sym e) k
row_pushed F items [] y P i e h k (suc j) l = absurd (omega arith)
row_pushed F items (x ∷ xs) y P i e h k zero l = h zero (omega arith)
row_pushed F items (x ∷ xs) y P zero e h k (suc j) l = absurd (omega arith)
row_pushed F items (x ∷ xs) y P (suc i) e h k (suc j) l = row_pushed F items xs y
    (λ n. P (suc n)) i (omega arith) (λ m q. h (suc m) (omega arith)) k j (omega arith)

module _ (F : Elements ℕ) (L : Lawful F) (f : List (List ℕ)) (hf : IsPlane F f) (two : 1 < length f)
    (chart : Chart) where
  pub len_is : (d e : List ℕ) → e ≡ d → IsPoly F d → length e - 1 ≡ row_len L f chart d
  len_is d e same hd = let a : row_len L f chart d ≡ pred (length d) =
      row_len_is F L f hf two chart d hd in let b : length e ≡ length d = ap length same in
      omega (arith, a, b)

  pub degree_run : (r : List (List ℕ)) → r ≡ f → length r - 1 ≡ (chart_of L f chart).degree
  degree_run r same = ap (λ r. length r - 1) same ∙ sym (chart_degree F L f hf two chart)

  pub shape_run : (r : List (List ℕ)) (d e : List ℕ) (N : Plane (lawful_field L)) → r ≡ f → e ≡ d
      → IsPoly F d → HasResidueShape L f chart d N
      → HasShape F.ring (length r - 1) (length e - 1) N
  shape_run r d e N sr se hd shape = subst (λ n. HasShape F.ring n (length e - 1) N)
      (sym (degree_run r sr)) (subst (λ l. HasShape F.ring (chart_of L f chart).degree l N)
      (sym (len_is d e se hd)) shape)

  pub shape_back : (r : List (List ℕ)) (d e : List ℕ) (N : Plane (lawful_field L)) → r ≡ f → e ≡ d
      → IsPoly F d → HasShape F.ring (length r - 1) (length e - 1) N
      → HasResidueShape L f chart d N
  shape_back r d e N sr se hd shape = subst (λ l. HasShape F.ring (chart_of L f chart).degree l N)
      (len_is d e se hd) (subst (λ n. HasShape F.ring n (length e - 1) N) (degree_run r sr) shape)
