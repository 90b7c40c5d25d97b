-- The forms of data: which numbers are elements of the field, and how long the lists are. What the
-- data stand for is said by the words of ff_data. This project's own.
use Rattle.std.specs.Prelude.{◌≡◌, ℕ, ◌<◌, ◌≤◌, List, length}
use Rattle.std.specs.List.{All}
use Rattle.ff_theory.specs.Ring.{Elements, IsElement}
use Rattle.ff_theory.specs.Lawful.{Lawful}
use Rattle.ff_theory.specs.Vector.{IsVector}
use Rattle.ff_theory.specs.Values.{ArePolys}
use Rattle.ff_elem.specs.Elem.{IsElem}
use Rattle.ff_data.specs.declared.order.Chart.TheVariants.{Infinite}
use Rattle.ff_data.specs.declared.order.Order.{Order}
use Rattle.ff_data.specs.declared.point.Point.{Point}
use Rattle.ff_data.specs.declared.system.System.{System}
use Rattle.ff_data.specs.declared.search.Relation.{Relation}
use Rattle.ff_data.specs.declared.search.Candidate.{Candidate}
use Rattle.ff_data.specs.Combinations.{AreElems}
use Rattle.ff_data.specs.Pairs.{IsPair}
use Rattle.ff_data.specs.Systems.{AreCoords, AreOverMonic}
use Rattle.ff_forms.specs.declared.functions.TheConstants.{POLE_LIMIT}
use Rattle.ff_forms.specs.declared.functions.Functions.{Functions}

module _ (F : Elements ℕ) where
  -- the data of a point of the order: its chart, and a value for each basis vector of the space
  pub record HasPointForm (o : Order) (p : Point) : Type 0 where
    pub chart : p.chart ≡ o.chart
    pub a : IsElement F p.a
    pub theta : IsElement F p.theta
    pub values : IsVector F (length o.space.basis) p.values
    pub at_infinity : o.chart ≡ Infinite → F.value p.a ≡ F.zero

  -- a relation of a system: e coefficients, and e lists of coordinates over monic polynomials
  pub record HasRelationForm (s : System) (r : Relation) : Type 0 where
    pub w : AreCoords F s r.w
    pub coeffs : ArePolys F r.coeffs
    pub count : length r.coeffs ≡ s.e
    pub back : All (AreOverMonic F s) r.back
    pub back_count : length r.back ≡ s.e

-- e and the weights of a system are within the pole limit
pub record IsWithinLimit (s : System) : Type 0 where
  pub positive : 0 < s.e
  pub e : s.e ≤ POLE_LIMIT
  pub weights : All (λ m. m ≤ POLE_LIMIT) s.weights

-- e and the weights of two systems agree
pub record AreAlike (s t : System) : Type 0 where
  pub e : s.e ≡ t.e
  pub weights : s.weights ≡ t.weights

module _ {F : Elements ℕ} (L : Lawful F) where
  -- e functions and weights, all within the pole limit
  pub record HasFunctionsForm (f : List (List ℕ)) (s : Functions) : Type 0 where
    pub positive : 0 < s.e
    pub e : s.e ≤ POLE_LIMIT
    pub z : IsElem L f s.z
    pub b : AreElems L f s.b
    pub count : length s.b ≡ s.e
    pub weights : length s.weights ≡ s.e
    pub within : All (λ m. m ≤ POLE_LIMIT) s.weights

  -- a candidate in the system s of E(g): an image for each basis element, and a pair of E(g)
  pub record HasCandidateForm (g : List (List ℕ)) (s : System) (c : Candidate) : Type 0 where
    pub alpha : IsElement F c.alpha
    pub nonzero : ¬ (F.value c.alpha ≡ F.zero)
    pub beta : IsElement F c.beta
    pub images : All (AreCoords F s) c.images
    pub count : length c.images ≡ s.e
    pub pair : IsPair L g c.pair
