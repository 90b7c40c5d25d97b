-- The vectors that solve the equations of the socle are the coordinates of its elements.
use Rattle.std.proofs.Common.{◌≡◌, ℕ, ◌<◌, ◌⊎◌, inl, inr, refl, sym, ◌∙◌, ap, ap₂, subst}
use Rattle.ff_theory.specs.Span.{combination, unit_at}
use Rattle.ff_theory.proofs.Solver.{◌⊕◌, ◌⊗◌, neg, nil, unit, ring1, ring2, ring3, ring4}
use Rattle.ff_theory.proofs.Solver.{zero_mul, add_mul, zero_add}
use Rattle.ff_theory.proofs.Sums.{sum-ext, sum-zero, sum-add, sum-single}
use Rattle.ff_theory.proofs.Span.{unit-same, unit-other}
use Rattle.ff_theory.proofs.Dependence.{Found, find}
use Rattle.ff_local.specs.Point.{OrderAt, IsMultiple, IsSpanned, Spanning, combined}
use Rattle.ff_local.specs.Socle.{IsSocle}
use Rattle.ff_local.specs.Fibre.{Fibre, shifted_table, IsSocleVector}
use Rattle.ff_local.proofs.Orders.{v_multiple, multiple_left, multiple_is}
use Rattle.ff_local.proofs.Combined.{combined_in, combined_mul, spread}
use Rattle.ff_local.proofs.Kernel.{kernel_element, kernel_element_in}
use Rattle.ff_local.proofs.Socle.{killed_by_all, socle}

module _ (P : OrderAt) (F : Fibre P.order) where
  infixl 60 ◌+◌
  infixl 70 ◌*◌
  open P use {add as ◌+◌, mul as ◌*◌, neg as minus, carrier as C}

  abbrev S : Spanning P.order
  S = F.spanning

  abbrev e : ℕ → C
  e = F.spanning.element

  -- the part of e i * e j in v*O
  abbrev rest : ℕ → ℕ → C
  rest i j = (e i * e j + minus (combined P.order S.count (F.table i j) e)) * P.over_v

  -- one term of a combination
  one_term : (i : ℕ) → i < S.count → (b : P.field.carrier)
      → combined P.order S.count (λ l. P.field.neg (P.field.mul (unit_at P.field.ring i l) b)) e
      ≡ minus (P.constant b * e i)
  one_term i q b = sum-single P.ring P.laws S.count i _ q (λ l r n. ap (λ t. P.constant
      (P.field.neg (P.field.mul t b)) * e l) (unit-other P.field.ring i l n)
      ∙ ap (λ t. P.constant t * e l) (ring1 P.field.ring P.field.laws (λ b. neg (nil ⊗ b))
      (λ b. nil) refl b) ∙ ap (λ t. t * e l) P.constants.on_zero ∙ zero_mul P.ring P.laws (e l))
      ∙ ap (λ t. P.constant (P.field.neg (P.field.mul t b)) * e i) (unit-same P.field.ring i)
      ∙ ap (λ t. P.constant t * e i) (ring1 P.field.ring P.field.laws (λ b. neg (unit ⊗ b))
      (λ b. neg b) refl b) ∙ ap (λ t. t * e i) (P.constants.on_neg b)
      ∙ ring2 P.ring P.laws (λ b e. neg b ⊗ e) (λ b e. neg (b ⊗ e)) refl (P.constant b) (e i)

  -- e i times e j without its value
  one_product : (j i : ℕ) → j < S.count → i < S.count → e i * kernel_element P S j
      ≡ combined P.order S.count (shifted_table P F j i) e + P.v * rest i j
  one_product j i q r =
      ring3 P.ring P.laws (λ a b c. a ⊗ (b ⊕ neg c)) (λ a b c. a ⊗ b ⊕ neg (c ⊗ a)) refl (e i) (e j)
      (P.constant (P.value (e j)))
      ∙ ring3 P.ring P.laws (λ p t m. p ⊕ m) (λ p t m. t ⊕ m ⊕ (p ⊕ neg t)) refl (e i * e j)
      (combined P.order S.count (F.table i j) e) (minus (P.constant (P.value (e j)) * e i))
      ∙ ap₂ P.add (ap (λ t. combined P.order S.count (F.table i j) e + t)
      (sym (one_term i r (P.value (e j))))
      ∙ sym (sum-add P.ring P.laws S.count _ _)
      ∙ sum-ext P.ring P.laws S.count _ _ (λ l s. sym (add_mul P.ring P.laws _ _ (e l))
      ∙ ap (λ t. t * e l) (sym (P.constants.on_add _ _))))
      (multiple_is P.order (e i * e j + minus (combined P.order S.count (F.table i j) e)))

  -- a combination times e j without its value
  all_products : (c : ℕ → P.field.carrier) (j : ℕ) → j < S.count
      → kernel_element P S j * combined P.order S.count c e
      ≡ combined P.order S.count (combination P.field.ring S.count c (shifted_table P F j)) e
      + P.v * combined P.order S.count c (λ i. rest i j)
  all_products c j q = P.laws.mul_comm _ _
      ∙ combined_mul P.order S.count c e (kernel_element P S j)
      ∙ spread P.order S.count e (shifted_table P F j) (λ i. rest i j)
      (λ i. e i * kernel_element P S j)
      S.count c (λ i r. one_product j i q r)

  in_v_times : (c : ℕ → P.field.carrier) (j : ℕ) → j < S.count
      → IsMultiple P.order (P.v * combined P.order S.count c (λ i. rest i j))
  in_v_times c j q = v_multiple P.order _ (combined_in P.order S.count c (λ i. rest i j) (λ i r.
      F.products i j r q))

  none : (c : ℕ → P.field.carrier) → ((l : ℕ) → l < S.count → c l ≡ P.field.zero)
      → combined P.order S.count c e ≡ P.zero
  none c h = sum-ext P.ring P.laws S.count _ (λ l. P.zero) (λ l r. ap (λ t. P.constant t * e l)
      (h l r) ∙ ap (λ t. t * e l) P.constants.on_zero ∙ zero_mul P.ring P.laws (e l))
      ∙ sum-zero P.ring P.laws S.count

  -- a solution that is not 0 is an element of the socle
  pub socle_computed : (c : ℕ → P.field.carrier) → IsSocleVector P F c → (i : ℕ)
      → i < F.spanning.count → ¬ (c i ≡ P.field.zero)
      → IsSocle P (combined P.order F.spanning.count c F.spanning.element)
  socle_computed c h i q nonzero = record {
    inside = inside;
    outside = λ m. nonzero (F.independent c m i q);
    killed = killed_by_all P S (combined P.order S.count c e) inside (λ j r. subst
        (IsMultiple P.order)
        (sym (all_products c j r ∙ ap (λ t. t + P.v * combined P.order S.count c (λ i. rest i j))
        (none _ (λ l s. h j l r s)) ∙ zero_add P.ring P.laws _)) (in_v_times c j r));
  }
    where
      inside : P.In (combined P.order S.count c e)
      inside = combined_in P.order S.count c e S.inside

  -- and there is one
  pub socle_vector : (c : ℕ → P.field.carrier) × (IsSocleVector P F c
      × Found P.field.ring F.spanning.count c)
  socle_vector = (
    d.coefficients,
    (
      solves,
      pick (find P.field.ring P.field.laws P.field.tests
          S.count d.coefficients),
    ),
  )
    where
      g : C
      g = (socle P S).0

      k : IsSocle P g
      k = (socle P S).1

      d : IsSpanned P.order S.count e g
      d = S.spans g k.inside

      pick : Found P.field.ring S.count d.coefficients
          ⊎ ((i : ℕ) → i < S.count → d.coefficients i ≡ P.field.zero)
          → Found P.field.ring S.count d.coefficients
      pick (inl f) = f
      pick (inr z) = absurd (k.outside (subst (IsMultiple P.order)
          (sym (d.sum ∙ ap (λ t. t + P.v * d.rest) (none d.coefficients z)
          ∙ zero_add P.ring P.laws _)) (v_multiple P.order d.rest d.inside)))

      solves : IsSocleVector P F d.coefficients
      solves j l q r = F.independent _ (multiple_left P.order _ _ (subst (IsMultiple P.order)
          (all_products d.coefficients j q) (multiple_left P.order _ _ (subst
          (IsMultiple P.order) both
          (k.killed (kernel_element P S j) (kernel_element_in P S j q)))
          (v_multiple P.order _ (P.in_mul _ _ (kernel_element_in P S j q).inside d.inside))))
          (in_v_times d.coefficients j q)) l r
        where
          both : kernel_element P S j * g
              ≡ kernel_element P S j * combined P.order S.count d.coefficients e
              + P.v * (kernel_element P S j * d.rest)
          both = ap (λ t. kernel_element P S j * t) d.sum
              ∙ ring4 P.ring P.laws (λ r s v y. r ⊗ (s ⊕ v ⊗ y))
              (λ r s v y. r ⊗ s ⊕ v ⊗ (r ⊗ y)) refl (kernel_element P S j)
              (combined P.order S.count d.coefficients e) P.v d.rest
