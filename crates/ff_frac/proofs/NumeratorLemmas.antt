-- The numerators of pole modules, as data, and the lattices that they span.
use Rattle.std.proofs.Common.{◌≡◌, ℕ, suc, pred, ◌+◌, ◌<◌, ◌↔◌, List, [], ◌∷◌, ◌++◌, length}
use Rattle.std.proofs.Common.{get_or, refl, sym, ◌∙◌, ap, ap₂, subst, arith}
use Rattle.std.proofs.lemmas.List.{length-map, map_push, length_push, get_or_push}
use Rattle.std.specs.Global.{Vec}
use Rattle.ff_theory.specs.Ring.{Elements, power}
use Rattle.ff_theory.specs.Lawful.{Domain, Lawful, lawful_field}
use Rattle.ff_theory.specs.Poly.{Poly, polynomials}
use Rattle.ff_theory.specs.Span.{InSpan}
use Rattle.ff_theory.specs.Values.{poly_of, plane_of, IsPlane}
use Rattle.ff_theory.specs.Vector.{vector_of, vectors_of}
use Rattle.ff_theory.proofs.Solver.{◌⊗◌, unit, ring2, ring3}
use Rattle.ff_theory.proofs.Span.{span-same, span-combination}
use Rattle.ff_theory.proofs.PolyMap.{polynomial_domain}
use Rattle.ff_charts.specs.Lattice.{InLattice, flat}
use Rattle.ff_local.specs.ChartOrder.{root_at}
use Rattle.ff_lin.specs.Space.{rows_of, SpaceParts, SameSpace}
use Rattle.ff_elem.specs.Elem.{algebra_in}
use Rattle.ff_data.specs.declared.order.Chart.{Chart}
use Rattle.ff_data.specs.declared.order.Order.{Order}
use Rattle.ff_data.specs.declared.point.Point.{Point}
use Rattle.ff_data.specs.Orders.{chart_of}
use Rattle.ff_data.specs.Lattices.{InLatticeOf}
use Rattle.ff_common.specs.Common.{IsTimesVector}
use Rattle.ff_fibre.proofs.RowLists.{kept_row}
use Rattle.ff_frac.specs.declared.powers.Powers.{Powers}
use Rattle.ff_frac.specs.declared.numerators.Numerators.{Numerators}
use Rattle.ff_frac.specs.Places.{IsMaximalPlace, IsModuleLattice}
use Rattle.ff_frac.specs.Powers.{IsPowerAt}
use Rattle.ff_frac.specs.Numerators.{HasNumeratorsForm, IsWithPlane, IsModuleSpan}
use Rattle.ff_frac.specs.Numerators.{AreNumeratorsAt}
use Rattle.ff_frac.proofs.NumeratorLattice.{next_span}

-- the vector of one plane more
pub pushed_plane : (F : Elements ℕ) (L : Lawful F) (f : List (List ℕ)) (g : Poly F.ring) (l h : ℕ)
    (N : Poly (polynomials F.ring)) (old : List (List ℕ)) (list : List (Vec ℕ)) (power : Vec ℕ)
    → length list ≡ length old → ((t : ℕ) → t < length old
    → IsTimesVector L f g l h (vectors_of F old t) (vectors_of F (rows_of list) t))
    → ((j : ℕ) → vector_of F power.items j ≡ flat F.ring h N j)
    → IsWithPlane L f g l h N old (rows_of (list ++ power ∷ []))
pushed_plane F L f g l h N old list power same times last = record {
  count = length-map (list ++ power ∷ []) (λ (r : Vec ℕ). r.items) ∙ length_push list power
      ∙ ap (λ n. n + 1) same;
  times = λ t q. (
    (times t q).0,
    (
      (times t q).1.0,
      (
        (times t q).1.1.0,
        λ j. kept_row F list power t (omega (arith, q, same)) j ∙ (times t q).1.1.1 j,
      ),
    ),
  );
  last = λ j. ap (λ r. vector_of F r j) (ap (λ t. get_or t (length old) [])
      (map_push (λ (r : Vec ℕ). r.items) list power)
      ∙ get_or_push (rows_of list) power.items [] (length old)
      (length-map list (λ (r : Vec ℕ). r.items) ∙ same)) ∙ last j;
}

-- the same lattice by a space with the same vectors
pub same_lattice : (F : Elements ℕ) (L : Lawful F) (f : List (List ℕ)) (chart : Chart)
    (d e : List ℕ)
    (rows : List (List ℕ)) (s : SpaceParts) → e ≡ d → SameSpace F s.basis rows
    → (w : (algebra_in L f).carrier) → InLatticeOf L f chart e s w
    ↔ InLattice (chart_of L f chart) (poly_of F d) (λ N. InSpan F.ring (length rows)
    (vectors_of F rows) (flat F.ring (pred (length d)) N)) w
same_lattice F L f chart d e rows s is same w = (
  λ k. there (subst (λ d. InLatticeOf L f chart d s w) is k),
  λ k. subst (λ d. InLatticeOf L f chart d s w) (sym is) (back k),
)
  where
    into : (v : ℕ → F.carrier) → InSpan F.ring (length s.basis) (vectors_of F s.basis) v
        → InSpan F.ring (length rows) (vectors_of F rows) v
    into v k = span-same F.ring L.laws (length rows) (vectors_of F rows) _ v k.sum
        (span-combination F.ring L.laws (length s.basis) (vectors_of F s.basis) (length rows)
        (vectors_of F rows) k.coefficients same.into)

    from : (v : ℕ → F.carrier) → InSpan F.ring (length rows) (vectors_of F rows) v
        → InSpan F.ring (length s.basis) (vectors_of F s.basis) v
    from v k = span-same F.ring L.laws (length s.basis) (vectors_of F s.basis) _ v k.sum
        (span-combination F.ring L.laws (length rows) (vectors_of F rows) (length s.basis)
        (vectors_of F s.basis) k.coefficients same.back)

    there : InLatticeOf L f chart d s w → InLattice (chart_of L f chart) (poly_of F d)
        (λ N. InSpan F.ring (length rows) (vectors_of F rows)
        (flat F.ring (pred (length d)) N)) w
    there k = record { nums = k.nums; is_in = into _ k.is_in; residue = k.residue }

    back : InLattice (chart_of L f chart) (poly_of F d) (λ N. InSpan F.ring (length rows)
        (vectors_of F rows) (flat F.ring (pred (length d)) N)) w → InLatticeOf L f chart d s w
    back k = record { nums = k.nums; is_in = from _ k.is_in; residue = k.residue }

module _ (F : Elements ℕ) (L : Lawful F) (f : List (List ℕ)) (hf : IsPlane F f)
    (two : 1 < length f) (o : Order) (p : Point) (h : IsMaximalPlace L f o p) where
  abbrev D : Domain
  D = polynomial_domain (lawful_field L)

  -- the power's modulus
  next_modulus : (i : ℕ) (m : Poly F.ring) (s : Powers) → IsPowerAt L f o p (suc i) s
      → m ≡ (polynomials F.ring).mul (power (polynomials F.ring)
      (root_at F.ring (F.value p.a)) i) (poly_of F o.d)
      → poly_of F s.modulus ≡ (polynomials F.ring).mul m (poly_of F s.root)
  next_modulus i m s k is = k.modulus ∙ ring3 D.ring D.laws (λ x d v. v ⊗ x ⊗ d)
      (λ x d v. x ⊗ d ⊗ v) refl (power (polynomials F.ring) (root_at F.ring (F.value p.a)) i)
      (poly_of F o.d) (root_at F.ring (F.value p.a))
      ∙ ap₂ D.mul (sym is) (sym k.root)

  -- the numerators of order 1
  pub first_numerators : (s : Numerators) → HasNumeratorsForm L f o 1 s
      → IsPowerAt L f o p 1 s.powers → IsWithPlane L f (poly_of F s.powers.root)
      (pred (length o.d + 0)) (pred (length s.powers.modulus)) (plane_of F s.powers.power)
      o.space.basis (rows_of s.vectors.items) → AreNumeratorsAt L f o p 1 s
  first_numerators s form k with_plane = record {
    power = k;
    exact = next_span F L f hf two o p h 0 o.d s.powers.root s.powers.modulus
        h.maximal.order.d form.powers.power.poly h.maximal.order.modulus
        form.powers.root_modulus (next_modulus 0 (poly_of F o.d) s.powers k
        (ring2 D.ring D.laws (λ d u. d) (λ d u. unit ⊗ d) refl (poly_of F o.d) (poly_of F o.d)))
        s.powers.power o.space.basis (rows_of s.vectors.items) form.powers.power.shape
        (let e : length o.d + 0 ≡ length o.d = omega arith in subst (λ l. IsWithPlane L f
        (poly_of F s.powers.root) (pred l) (pred (length s.powers.modulus))
        (plane_of F s.powers.power) o.space.basis (rows_of s.vectors.items)) e with_plane)
        (λ w. (λ t. t, λ t. t)) k.power;
  }

  -- and those of the next order
  pub next_numerators : (i : ℕ) (s r : Numerators) → HasNumeratorsForm L f o i s
      → HasNumeratorsForm L f o (i + 1) r → AreNumeratorsAt L f o p i s
      → IsPowerAt L f o p (i + 1) r.powers → IsWithPlane L f (poly_of F r.powers.root)
      (pred (length o.d + i)) (pred (length r.powers.modulus)) (plane_of F r.powers.power)
      (rows_of s.vectors.items) (rows_of r.vectors.items) → AreNumeratorsAt L f o p (i + 1) r
  next_numerators i s r old form k power with_plane = record {
    power = power;
    exact = subst (λ n. IsModuleSpan L f o p n r.powers.modulus (rows_of r.vectors.items)) e
        (next_span F L f hf two o p h i s.powers.modulus r.powers.root r.powers.modulus
        old.powers.power.poly form.powers.power.poly old.powers.power.modulus
        form.powers.root_modulus (next_modulus i (poly_of F s.powers.modulus) r.powers own
        k.power.modulus) r.powers.power (rows_of s.vectors.items) (rows_of r.vectors.items)
        form.powers.power.shape (subst (λ l. IsWithPlane L f (poly_of F r.powers.root) (pred l)
        (pred (length r.powers.modulus)) (plane_of F r.powers.power) (rows_of s.vectors.items)
        (rows_of r.vectors.items)) (sym old.powers.size) with_plane) k.exact own.power);
  }
    where
      e : suc i ≡ i + 1
      e = omega arith

      own : IsPowerAt L f o p (suc i) r.powers
      own = subst (λ n. IsPowerAt L f o p n r.powers) (sym e) power

  -- the lattice of the span
  pub module_lattice : (j : ℕ) (s : Numerators) → AreNumeratorsAt L f o p j s → (d : List ℕ)
      (space : SpaceParts) → d ≡ s.powers.modulus
      → SameSpace F space.basis (rows_of s.vectors.items)
      → IsModuleLattice L f o p j d space
  module_lattice j s k d space is same w = (
    λ q. (k.exact w).0 (go.0 q),
    λ q. go.1 ((k.exact w).1 q),
  )
    where
      go : InLatticeOf L f o.chart d space w ↔ InLattice (chart_of L f o.chart)
          (poly_of F s.powers.modulus) (λ N. InSpan F.ring (length (rows_of s.vectors.items))
          (vectors_of F (rows_of s.vectors.items))
          (flat F.ring (pred (length s.powers.modulus)) N)) w
      go = same_lattice F L f o.chart s.powers.modulus d (rows_of s.vectors.items) space is same w
