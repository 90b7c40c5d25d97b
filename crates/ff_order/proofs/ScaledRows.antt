-- The products of d^(p-1) and of the planes of a space, and a turn with them.
use Rattle.std.proofs.Common.{◌≡◌, ℕ, ◌-◌, ◌<◌, List, length, map}
use Rattle.std.proofs.Common.{sym, ◌∙◌, ap, subst, Vec, Global}
use Rattle.std.proofs.lemmas.List.{length-map}
use Rattle.ff_theory.specs.Ring.{Elements, power}
use Rattle.ff_theory.specs.Lawful.{Lawful, lawful_field}
use Rattle.ff_theory.specs.Planes.{planes, Plane, row_of}
use Rattle.ff_theory.specs.Vector.{vectors_of, combination_of}
use Rattle.ff_theory.specs.Values.{poly_of, IsPlane}
use Rattle.ff_charts.specs.Lattice.{HasShape, flat}
use Rattle.ff_theory.specs.Span.{SameSpan}
use Rattle.ff_theory.proofs.Span.{span-same}
use Rattle.ff_theory.proofs.Sums.{sum-ext}
use Rattle.ff_lin.specs.Space.{SpaceParts, InSpace, combinations_of, frobenius}
use Rattle.ff_data.specs.declared.order.Chart.{Chart}
use Rattle.ff_order.specs.declared.chart.ChartRows.{ChartRows}
use Rattle.ff_order.specs.declared.images.PowerImages.{PowerImages}
use Rattle.ff_order.specs.Rows.{IsChartRows}
use Rattle.ff_order.specs.Steps.{row_len, HasResidueShape, ArePowerImages, ArePowers}
use Rattle.ff_order.specs.Steps.{AreCoefficients}
use Rattle.ff_quotients.proofs.KeptVectors.{kept-exact}
use Rattle.ff_order.specs.Steps.{IsScaledRow, IsTurn}
use Rattle.ff_order.proofs.Lengths.{shape_run, shape_back, len_is}
use Rattle.ff_order.proofs.NextSpace.{power_modulus, scaled_shape, next_space}
use Rattle.ff_order.proofs.Residues.{modulus_positive}

module _ (F : Elements ℕ) (L : Lawful F) (f : List (List ℕ)) (hf : IsPlane F f) (two : 1 < length f)
    (chart : Chart) (rows : ChartRows) (h : IsChartRows L f chart rows) (powers : PowerImages)
    (hp : ArePowerImages L f chart rows.d powers) where
  pub top_positive : 0 < length powers.top
  top_positive = modulus_positive F L f hf two chart powers.top hp.top
      (power_modulus F L f hf two chart rows h powers.top hp.top_is)

  -- the shape of a product, with the lengths that the calls compute
  pub scaled_run : (r : List (List ℕ)) (d top : List ℕ) (N M : Plane (lawful_field L)) → r ≡ f
      → d ≡ rows.d → top ≡ powers.top → HasShape F.ring (length r - 1) (length d - 1) N
      → M ≡ (planes (lawful_field L)).mul (row_of F.ring (poly_of F powers.below)) N
      → HasShape F.ring (length r - 1) (length top - 1) M
  scaled_run r d top N M sr sd st shape e = shape_run F L f hf two chart r powers.top top M sr st
      hp.top (subst (HasResidueShape L f chart powers.top) (sym e)
      (scaled_shape F L f hf two chart rows h powers.below powers.top hp.below_is hp.top_is N
      (shape_back F L f hf two chart r rows.d d N sr sd h.d shape)))

  pub scaled_row_is : (r : List (List ℕ)) (d top : List ℕ) (N M : Plane (lawful_field L))
      (v row : ℕ → F.carrier) → r ≡ f → d ≡ rows.d → top ≡ powers.top
      → HasShape F.ring (length r - 1) (length d - 1) N
      → ((j : ℕ) → flat F.ring (length d - 1) N j ≡ v j)
      → M ≡ (planes (lawful_field L)).mul (row_of F.ring (poly_of F powers.below)) N
      → ((j : ℕ) → row j ≡ flat F.ring (length top - 1) M j)
      → IsScaledRow L f chart rows.d powers.top (poly_of F powers.below) v row
  scaled_row_is r d top N M v row sr sd st shape value e same = (
    N,
    (
      shape_back F L f hf two chart r rows.d d N sr sd h.d shape,
      (
        (λ j. ap (λ l. flat F.ring l N j) (sym (len_is F L f hf two chart rows.d d sd h.d))
            ∙ value j),
        (λ j. same j ∙ ap (λ l. flat F.ring l M j)
            (len_is F L f hf two chart powers.top top st hp.top)
            ∙ ap (λ M. flat F.ring (row_len L f chart powers.top) M j) e),
      ),
    ),
  )

  pub turn_is : (space lists next : SpaceParts)
      → AreCoefficients L f chart rows.d powers space lists
      → lists.len ≡ length space.basis
      → SameSpan F.ring (length next.basis) (vectors_of F next.basis) (length lists.basis)
      (combinations_of F space.basis lists.basis)
      → IsTurn L f chart rows.d space next
  turn_is space lists next exact len same =
      next_space F L f hf two chart rows h powers.below powers.top hp.below_is hp.top_is space
      exact.0
      exact.1.0.0 exact.1.0.1.0 exact.1.0.1.1.0 exact.1.0.1.1.1 images next (count ∙ hp.count)
      (subst (ArePowers L f chart rows.d powers.top images) (sym count) hp.images)
      (kept-exact F L space lists next
      (λ v. InSpace F exact.0 (combination_of F images (frobenius F v)))
      (λ v w e k. span-same F.ring L.laws (length exact.0.basis) (vectors_of F exact.0.basis)
      (combination_of F images (frobenius F v)) (combination_of F images (frobenius F w))
      (λ j. sum-ext F.ring L.laws (length images) _ _
      (λ i q. ap (λ t. F.mul (power F.ring t F.characteristic) (vectors_of F images i j))
      (e i))) k) len exact.1.1 same)
    where
      images : List (List ℕ)
      images = map (λ (v : Vec ℕ Global). v.items) powers.images.items

      count : length images ≡ length powers.images.items
      count = length-map powers.images.items (λ (v : Vec ℕ Global). v.items)
