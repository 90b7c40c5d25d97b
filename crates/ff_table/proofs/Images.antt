-- The map of the ring of a table into a domain that is given by a root of the relation of w and by
-- images of the basis: it keeps sums and products.
use Rattle.std.proofs.Common.{◌≡◌, ℕ, ◌<◌, false, refl}
use Rattle.std.proofs.Common.{sym, ◌∙◌, ap, ap₂}
use Rattle.ff_theory.specs.Ring.{RingOps, IsCommRing, power}
use Rattle.ff_theory.specs.Lawful.{Field, Domain}
use Rattle.ff_theory.specs.Map.{IsMap}
use Rattle.ff_theory.specs.Sum.{sum_below}
use Rattle.ff_theory.specs.Span.{unit_at}
use Rattle.ff_theory.specs.Poly.{Poly, polynomials}
use Rattle.ff_theory.specs.Monomial.{variable}
use Rattle.ff_theory.specs.Planes.{planes, Plane, row_of}
use Rattle.ff_theory.proofs.Solver.{◌⊕◌, ◌⊗◌, neg, unit, ring1, ring2, ring3, ring4}
use Rattle.ff_theory.proofs.Solver.{zero_mul}
use Rattle.ff_theory.proofs.Span.{unit-same, unit-other}
use Rattle.ff_theory.proofs.Sums.{sum-ext, sum-zero, sum-add, sum-mul, sum-single}
use Rattle.ff_theory.proofs.LowestTerms.{cancel}
use Rattle.ff_theory.proofs.Poly.{polynomial_laws}
use Rattle.ff_theory.proofs.Evaluate.{eval-const}
use Rattle.ff_theory.proofs.PolyMap.{polynomial_domain}
use Rattle.ff_table.specs.Coords.{Coords, at}
use Rattle.ff_table.specs.Table.{Table, IsTable, table_ring, Weighs}
use Rattle.ff_table.specs.Level.{z_multiple, basis}
use Rattle.ff_table.specs.Powers.{IsPrimeTo, IsRelation, Written}
use Rattle.ff_table.proofs.Coords.{coords-at}
use Rattle.ff_table.proofs.Laws.{zero_at, add_at, neg_at}
use Rattle.ff_table.proofs.TableRing.{table_laws}
use Rattle.ff_table.proofs.Scalars.{multiple-at}
use Rattle.ff_table.proofs.Embedding.{embed, embed_map, multiple-embed}
use Rattle.ff_table.proofs.PowerValues.{at_w, at_w-map, at_w-row, at_w-variable}
use Rattle.ff_table.proofs.BasisSums.{map-sum}
use Rattle.ff_table.proofs.WrittenBasis.{Common, whole as common, plane as plane_of}
use Rattle.ff_table.proofs.WrittenBasis.{plane-value as plane_of-value}
use Rattle.ff_table.proofs.Transfer.{at_rho, at_rho-map, at_rho-variable, at_rho-listed}
use Rattle.ff_table.proofs.Transfer.{transfer-equal}

-- the images of the basis in a domain, where h takes k[z] there and w goes to rho
pub record Images (K : Field) (s : Table K.ring) (w : Coords (polynomials K.ring) s.rank)
    (written : Written K.ring s w) (D : Domain) (h : Poly K.ring → D.carrier)
    (rho : D.carrier) : Type 0 where
  pub image : ℕ → D.carrier
  pub is_image : (i : ℕ) → i < s.rank → D.mul (h (written.q i)) (image i)
      ≡ sum_below D.ring s.rank
      (λ j. D.mul (h (written.coefficients i j)) (power D.ring rho j))

module _ (K : Field) (s : Table K.ring) (table : IsTable K.ring s)
    (w : Coords (polynomials K.ring) s.rank) (W : ℕ) (weighs : Weighs K.ring s w W)
    (prime : IsPrimeTo s.rank W) (r : ℕ → Poly K.ring) (relation : IsRelation K.ring s w r)
    (D : Domain) (h : Poly K.ring → D.carrier) (h_map : IsMap (polynomials K.ring) D.ring h)
    (h_nonzero : (p : Poly K.ring) → (polynomials K.ring).same p (polynomials K.ring).zero ≡ false
    → D.same (h p) D.zero ≡ false)
    (rho : D.carrier)
    (root : D.add (power D.ring rho s.rank)
    (sum_below D.ring s.rank (λ j. D.mul (h (r j)) (power D.ring rho j))) ≡ D.zero)
    (written : Written K.ring s w) (images : Images K s w written D h rho) where
  abbrev P : Domain
  P = polynomial_domain K

  abbrev T : RingOps
  T = table_ring K.ring s

  abbrev C : Type 0
  C = Coords (polynomials K.ring) s.rank

  abbrev Q : RingOps
  Q = planes K

  abbrev e : ℕ
  e = s.rank

  abbrev k : RingOps
  k = K.ring

  TL : IsCommRing T
  TL = table_laws K s table

  QL : IsCommRing (planes K)
  QL = polynomial_laws P.ring P.laws P.tests

  abbrev value : Plane K → C
  value F = at_w K s table w W weighs prime F

  map : IsMap (planes K) (table_ring K.ring s) (at_w K s table w W weighs prime)
  map = at_w-map K s table w W weighs prime

  abbrev there : Plane K → D.carrier
  there F = at_rho K s table w W weighs prime r relation D.ring D.laws h h_map rho F

  there_map : IsMap (planes K) D.ring
      (at_rho K s table w W weighs prime r relation D.ring D.laws h h_map rho)
  there_map = at_rho-map K s table w W weighs prime r relation D.ring D.laws h h_map rho

  there-row : (a : Poly K.ring) → there (row_of k a) ≡ h a
  there-row a = eval-const P.ring D.ring P.laws P.tests D.laws h h_map rho a

  -- the image of an element: each basis vector goes to its image, and p in k[z] to h p
  abbrev pub image_of : Coords (polynomials K.ring) s.rank → D.carrier
  image_of a = sum_below D.ring s.rank
      (λ l. D.mul (h (at (polynomials K.ring) s.rank a l)) (images.image l))

  -- a common multiple of the denominators
  abbrev whole : Common K s table w W weighs prime written s.rank
  whole = common K s table w W weighs prime written

  abbrev M : Poly K.ring
  M = whole.multiple

  abbrev plane : C → Plane K
  plane a = plane_of K s table w W weighs prime written a

  plane-value : (a : C) → value (plane a) ≡ z_multiple k s M a
  plane-value a = plane_of-value K s table w W weighs prime written a

  plane-there : (a : C) → there (plane a) ≡ D.mul (h M) (image_of a)
  plane-there a = map-sum Q D.ring
      (at_rho K s table w W weighs prime r relation D.ring D.laws h h_map rho) there_map e _
      ∙ sum-ext D.ring D.laws e _ _ (λ l q. there_map.on_mul _ _
      ∙ ap₂ D.mul (there-row (P.mul (at P.ring e a l) (whole.factor l))
      ∙ h_map.on_mul (at P.ring e a l) (whole.factor l))
      (at_rho-listed K s table w W weighs prime r relation D.ring D.laws h h_map rho e
      (written.coefficients l) ∙ sym (images.is_image l q))
      ∙ ring4 D.ring D.laws (λ a f q b. (a ⊗ f) ⊗ (q ⊗ b)) (λ a f q b. (f ⊗ q) ⊗ (a ⊗ b)) refl
      (h (at P.ring e a l)) (h (whole.factor l)) (h (written.q l)) (images.image l)
      ∙ ap (λ t. D.mul t (D.mul (h (at P.ring e a l)) (images.image l)))
      (sym (h_map.on_mul (whole.factor l) (written.q l)) ∙ ap h (sym (whole.product l q))))
      ∙ sum-mul D.ring D.laws e (h whole.multiple)
      (λ l. D.mul (h (at P.ring e a l)) (images.image l))

  M-proper : P.same M P.zero ≡ false
  M-proper = whole.proper

  M-nonzero : D.same (h M) D.zero ≡ false
  M-nonzero = h_nonzero M M-proper

  -- an element that is written over the powers of w has the image that is so written over rho
  pub image_of-value : (a : Coords (polynomials K.ring) s.rank) (d : Poly K.ring) (F : Plane K)
      → z_multiple K.ring s d a ≡ at_w K s table w W weighs prime F
      → D.mul (h d) (image_of a)
      ≡ at_rho K s table w W weighs prime r relation D.ring D.laws h h_map rho F
  image_of-value a d F over = cancel D _ _ (h M) M-nonzero
      (ring3 D.ring D.laws (λ d i m. (d ⊗ i) ⊗ m) (λ d i m. d ⊗ (m ⊗ i)) refl (h d) (image_of a)
      (h M)
      ∙ ap (D.mul (h d)) (sym (plane-there a))
      ∙ ap (λ t. D.mul t (there (plane a))) (sym (there-row d))
      ∙ sym (there_map.on_mul (row_of k d) (plane a))
      ∙ same
      ∙ there_map.on_mul (row_of k M) F ∙ ap (λ t. D.mul t (there F)) (there-row M)
      ∙ D.laws.mul_comm (h M) (there F))
    where
      same : there (Q.mul (row_of k d) (plane a)) ≡ there (Q.mul (row_of k M) F)
      same = transfer-equal K s table w W weighs prime r relation D.ring D.laws h h_map rho root
          (Q.mul (row_of k d) (plane a)) (Q.mul (row_of k M) F)
          (map.on_mul _ _
          ∙ ap₂ T.mul (at_w-row K s table w W weighs prime d) (plane-value a
          ∙ multiple-embed K s table M a)
          ∙ ring3 T TL (λ d m a. d ⊗ (m ⊗ a)) (λ d m a. m ⊗ (d ⊗ a)) refl
          (embed K s table d) (embed K s table M) a
          ∙ ap₂ T.mul (sym (at_w-row K s table w W weighs prime M))
          (sym (multiple-embed K s table d a)
          ∙ over) ∙ sym (map.on_mul _ _))

  one-value : z_multiple k s P.one T.one ≡ value Q.one
  one-value = (embed_map K s table).on_one ∙ sym map.on_one

  on_one : image_of T.one ≡ D.one
  on_one = ring1 D.ring D.laws (λ a. a) (λ a. unit ⊗ a) refl (image_of T.one)
      ∙ ap (λ t. D.mul t (image_of T.one)) (sym h_map.on_one)
      ∙ image_of-value T.one P.one Q.one one-value ∙ there_map.on_one

  on_mul : (a b : C) → image_of (T.mul a b) ≡ D.mul (image_of a) (image_of b)
  on_mul a b = cancel D _ _ (h (P.mul M M)) both
      (D.laws.mul_comm _ _ ∙ image_of-value (T.mul a b) (P.mul M M) (Q.mul (plane a) (plane b))
      (multiple-embed K s table (P.mul M M) (T.mul a b)
      ∙ ap (λ t. T.mul t (T.mul a b)) ((embed_map K s table).on_mul M M)
      ∙ ring3 T TL (λ m a b. (m ⊗ m) ⊗ (a ⊗ b)) (λ m a b. (m ⊗ a) ⊗ (m ⊗ b)) refl
      (embed K s table M) a b
      ∙ ap₂ T.mul (sym (multiple-embed K s table M a) ∙ sym (plane-value a))
      (sym (multiple-embed K s table M b) ∙ sym (plane-value b))
      ∙ sym (map.on_mul (plane a) (plane b)))
      ∙ there_map.on_mul (plane a) (plane b) ∙ ap₂ D.mul (plane-there a) (plane-there b)
      ∙ ring3 D.ring D.laws (λ m a b. (m ⊗ a) ⊗ (m ⊗ b)) (λ m a b. (a ⊗ b) ⊗ (m ⊗ m)) refl (h M)
      (image_of a) (image_of b)
      ∙ ap (D.mul (D.mul (image_of a) (image_of b))) (sym (h_map.on_mul M M)))
    where
      both : D.same (h (P.mul M M)) D.zero ≡ false
      both = h_nonzero (P.mul M M) (P.no_divisors M M M-proper M-proper)

  -- sums and products
  pub image_of-map : IsMap (table_ring K.ring s) D.ring image_of
  image_of-map = record {
    on_zero = sum-ext D.ring D.laws e _ (λ l. D.zero) (λ l q.
        ap (λ p. D.mul (h p) (images.image l)) (zero_at P.ring P.laws e s.product l q)
        ∙ ap (λ t. D.mul t (images.image l)) h_map.on_zero
        ∙ zero_mul D.ring D.laws (images.image l)) ∙ sum-zero D.ring D.laws e;
    on_one = on_one;
    on_add = λ a b. sum-ext D.ring D.laws e _ _ (λ l q.
        ap (λ p. D.mul (h p) (images.image l)) (add_at P.ring P.laws e s.product a b l q)
        ∙ ap (λ t. D.mul t (images.image l)) (h_map.on_add _ _)
        ∙ ring3 D.ring D.laws (λ a b i. (a ⊕ b) ⊗ i) (λ a b i. a ⊗ i ⊕ b ⊗ i) refl
        (h (at P.ring e a l)) (h (at P.ring e b l)) (images.image l))
        ∙ sum-add D.ring D.laws e (λ l. D.mul (h (at P.ring e a l)) (images.image l))
        (λ l. D.mul (h (at P.ring e b l)) (images.image l));
    on_neg = λ a. sum-ext D.ring D.laws e _ _ (λ l q.
        ap (λ p. D.mul (h p) (images.image l)) (neg_at P.ring P.laws e s.product a l q)
        ∙ ap (λ t. D.mul t (images.image l)) (h_map.on_neg _)
        ∙ ring2 D.ring D.laws (λ a i. neg a ⊗ i) (λ a i. neg unit ⊗ (a ⊗ i)) refl
        (h (at P.ring e a l)) (images.image l))
        ∙ sum-mul D.ring D.laws e (D.neg D.one)
        (λ l. D.mul (h (at P.ring e a l)) (images.image l))
        ∙ ring1 D.ring D.laws (λ a. neg unit ⊗ a) (λ a. neg a) refl (image_of a);
    on_mul = on_mul;
  }

  -- a polynomial in z, and its multiples
  pub image_of-multiple : (p : Poly K.ring) (a : Coords (polynomials K.ring) s.rank)
      → image_of (z_multiple K.ring s p a) ≡ D.mul (h p) (image_of a)
  image_of-multiple p a = sum-ext D.ring D.laws e _ _ (λ l q.
      ap (λ t. D.mul (h t) (images.image l)) (multiple-at K s p a l q)
      ∙ ap (λ t. D.mul t (images.image l)) (h_map.on_mul p (at P.ring e a l))
      ∙ D.laws.mul_assoc _ _ _)
      ∙ sum-mul D.ring D.laws e (h p) (λ l. D.mul (h (at P.ring e a l)) (images.image l))

  pub image_of-embed : (p : Poly K.ring) → image_of (embed K s table p) ≡ h p
  image_of-embed p = image_of-multiple p T.one ∙ ap (D.mul (h p)) on_one ∙ D.laws.mul_one (h p)

  -- the images of the basis, and of w
  pub image_of-basis : (i : ℕ) → i < s.rank → image_of (basis K.ring s i) ≡ images.image i
  image_of-basis i q = sum-single D.ring D.laws e i _ q (λ l o n.
      ap (λ p. D.mul (h p) (images.image l)) (coords-at P.ring e (unit_at P.ring i) l o
      ∙ unit-other P.ring i l n) ∙ ap (λ t. D.mul t (images.image l)) h_map.on_zero
      ∙ zero_mul D.ring D.laws (images.image l))
      ∙ ap (λ p. D.mul (h p) (images.image i)) (coords-at P.ring e (unit_at P.ring i) i q
      ∙ unit-same P.ring i) ∙ ap (λ t. D.mul t (images.image i)) h_map.on_one
      ∙ ring1 D.ring D.laws (λ a. unit ⊗ a) (λ a. a) refl (images.image i)

  pub image_of-root : image_of w ≡ rho
  image_of-root = ring1 D.ring D.laws (λ a. a) (λ a. unit ⊗ a) refl (image_of w)
      ∙ ap (λ t. D.mul t (image_of w)) (sym h_map.on_one)
      ∙ image_of-value w P.one (variable P.ring)
      (multiple-embed K s table P.one w ∙ ap (λ t. T.mul t w) (embed_map K s table).on_one
      ∙ ring1 T TL (λ a. unit ⊗ a) (λ a. a) refl w
      ∙ sym (at_w-variable K s table w W weighs prime))
      ∙ at_rho-variable K s table w W weighs prime r relation D.ring D.laws h h_map rho
