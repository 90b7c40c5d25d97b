-- Polynomials in z at a polynomial of degree one: the substitution keeps sums, products, degrees.
use Rattle.std.proofs.Common.{◌≡◌, ℕ, zero, suc, ◌+◌, ◌*◌, ◌<◌, true, false, not, IsTrue, List}
use Rattle.std.proofs.Common.{[], ◌∷◌, length, sym, ◌∙◌, ap, arith}
use Rattle.std.proofs.lemmas.Bool.{both_ways}
use Rattle.ff_theory.specs.Ring.{RingOps}
use Rattle.ff_theory.specs.Lawful.{Field, Domain}
use Rattle.ff_theory.specs.Map.{IsMap}
use Rattle.ff_theory.specs.Eval.{eval_list, eval}
use Rattle.ff_theory.specs.Poly.{coeff, ends_in_nonzero, Poly, poly, polynomials}
use Rattle.ff_theory.specs.Division.{size}
use Rattle.ff_theory.proofs.Solver.{zero_add, mul_zero}
use Rattle.ff_theory.proofs.Poly.{trim-coeff}
use Rattle.ff_theory.proofs.Division.{add_at, size-mul, top_nonzero, zero_from}
use Rattle.ff_theory.proofs.Evaluate.{eval_map, eval-const, const_map}
use Rattle.ff_theory.proofs.PolyMap.{polynomial_domain, compose, nonzero_size}
use Rattle.ff_charts.proofs.Rows.{exact_size}
use Rattle.ff_table.specs.Coords.{Coords}
use Rattle.ff_table.specs.Table.{Table, IsTable, table_ring, Weighs}
use Rattle.ff_table.proofs.TableRing.{weight_differs}
use Rattle.ff_table.proofs.Embedding.{embed, embed_map, embed-weight}
use Rattle.ff_table.proofs.Sizes.{constant-size}

module _ (K : Field) (zeta : Poly K.ring) (linear : size K.ring zeta ≡ 2) where
  abbrev k : RingOps
  k = K.ring

  abbrev P : Domain
  P = polynomial_domain K

  abbrev constant : K.carrier → Poly K.ring
  constant c = poly K.ring (c ∷ [])

  -- p with zeta in place of z
  abbrev pub at_zeta : Poly K.ring → Poly K.ring
  at_zeta p = eval K.ring (polynomials K.ring) (λ c. poly K.ring (c ∷ [])) zeta p

  pub at_zeta-map : IsMap (polynomials K.ring) (polynomials K.ring) at_zeta
  at_zeta-map = eval_map k P.ring K.laws K.tests P.laws constant (const_map k K.laws K.tests) zeta

  pub at_zeta-constant : (c : K.carrier) → at_zeta (poly K.ring (c ∷ [])) ≡ poly K.ring (c ∷ [])
  at_zeta-constant c = eval-const k P.ring K.laws K.tests P.laws constant
      (const_map k K.laws K.tests) zeta c

  -- c + zeta * q
  next-size : (c : K.carrier) (q : Poly K.ring) (d : ℕ) → size k q ≡ suc d
      → size k (P.add (constant c) (P.mul zeta q)) ≡ suc (suc d)
  unfolding poly
  next-size c q d h = exact_size k K.laws K.tests (P.add (constant c) (P.mul zeta q)) (suc d)
      (λ z. top_nonzero k K.laws K.tests (P.mul zeta q) (suc d) product (sym (at d) ∙ z))
      (λ i l. past i l)
    where
      product : size k (P.mul zeta q) ≡ suc (suc d)
      product = size-mul K zeta q 1 d linear h
          ∙ (let e : suc (1 + d) ≡ suc (suc d) = omega arith in e)

      at : (i : ℕ) → coeff k (P.add (constant c) (P.mul zeta q)).coeffs (suc i)
          ≡ coeff k (P.mul zeta q).coeffs (suc i)
      at i = add_at k K.laws K.tests (constant c) (P.mul zeta q) (suc i)
          ∙ ap (λ t. K.add t (coeff k (P.mul zeta q).coeffs (suc i)))
          (trim-coeff k K.laws K.tests (c ∷ []) (suc i)) ∙ zero_add k K.laws _

      past : (i : ℕ) → suc d < i → coeff k (P.add (constant c) (P.mul zeta q)).coeffs i ≡ K.zero
      past zero l = absurd (omega arith)
      past (suc i) l = at i ∙ zero_from k K.laws K.tests (P.mul zeta q) (suc i)
          (omega (arith, product, l))

  pub list-size : (p : List K.carrier) (d : ℕ) → IsTrue (ends_in_nonzero K.ring p)
      → length p ≡ suc d
      → size K.ring (eval_list (polynomials K.ring) (λ c. poly K.ring (c ∷ [])) zeta p) ≡ suc d
  list-size [] d h e = absurd (omega arith)
  list-size (c ∷ []) zero h e = ap (size k) (ap (P.add (constant c)) (mul_zero P.ring P.laws zeta)
      ∙ P.laws.add_zero (constant c))
      ∙ constant-size K c (λ z. both_ways (K.same c K.zero) (let n : not (K.same c K.zero)
      ≡ true = h in grind arith) (ap (K.same c) (sym z) ∙ K.tests.same_refl c))
  list-size (c ∷ []) (suc d) h e = absurd (omega arith)
  list-size (c ∷ b ∷ p) zero h e = absurd (omega arith)
  list-size (c ∷ b ∷ p) (suc d) h e = next-size c (eval_list P.ring constant zeta (b ∷ p)) d
      (list-size (b ∷ p) d h (omega arith))

  pub at_zeta-size : (p : Poly K.ring) (d : ℕ) → size K.ring p ≡ suc d
      → size K.ring (at_zeta p) ≡ suc d
  unfolding eval
  at_zeta-size p d h = list-size p.coeffs d p.canonical h

  -- as elements of the ring of a table
  module _ (s : Table K.ring) (table : IsTable K.ring s) where
    abbrev pub embed_at : Poly K.ring → Coords (polynomials K.ring) s.rank
    embed_at p = embed K s table (at_zeta p)

    pub embed_at-map : IsMap (polynomials K.ring) (table_ring K.ring s) embed_at
    embed_at-map = compose (polynomials k) (polynomials k) (table_ring k s) at_zeta
        (embed K s table) at_zeta-map (embed_map K s table)

    pub embed_at-weight : (p : Poly K.ring) (d : ℕ) → size K.ring p ≡ suc d
        → Weighs K.ring s (embed_at p) (s.rank * d)
    embed_at-weight p d h = embed-weight K s table (at_zeta p) d (at_zeta-size p d h)

    pub embed_at-nonzero : (p : Poly K.ring)
        → (polynomials K.ring).same p (polynomials K.ring).zero ≡ false
        → (table_ring K.ring s).same (embed_at p) (table_ring K.ring s).zero ≡ false
    embed_at-nonzero p n = weight_differs K s table (embed_at p) (s.rank * (nonzero_size K p n).0)
        (embed_at-weight p (nonzero_size K p n).0 (nonzero_size K p n).1)
