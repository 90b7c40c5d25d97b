-- The points of an order over an element a of the field, by the characters of its fibre there, for
-- an equation f over a field whose laws are L.
use Rattle.std.proofs.Common.{◌≡◌, ℕ, zero, suc, ◌<◌, ◌⊎◌, inl, inr, List, [], ◌∷◌, length, get_or}
use Rattle.std.proofs.Common.{refl, sym, ◌∙◌, ap, ap₂, subst, arith, All}
use Rattle.std.proofs.lemmas.List.{get_or-map}
use Rattle.std.specs.Global.{Vec}
use Rattle.ff_theory.specs.Ring.{Elements, IsElement}
use Rattle.ff_theory.specs.Lawful.{Lawful}
use Rattle.ff_theory.specs.Span.{product, EndsAt}
use Rattle.ff_theory.specs.Values.{IsPlane}
use Rattle.ff_theory.specs.Vector.{vector_of, vectors_of, IsVector}
use Rattle.ff_lin.specs.Space.{rows_of, AreVectors, SpaceParts, IsSpaceOf, InSpace, HasExactly}
use Rattle.ff_lin.specs.Space.{IsOrthogonal}
use Rattle.ff_data.specs.declared.order.Order.{Order}
use Rattle.ff_data.specs.declared.point.Point.{Point}
use Rattle.ff_data.specs.Orders.{IsOrder}
use Rattle.ff_characters.specs.Characters.{tables_of, IsCharacter, AreCharacters, HasVector}
use Rattle.ff_forms.specs.Forms.{HasPointForm}
use Rattle.ff_fibre.specs.declared.parts.Fibre.{Fibre}
use Rattle.ff_fibre.specs.Fibres.{IsFibreAt}
use Rattle.ff_points.specs.PointLists.{ArePowerCoordinates, AreVectorCoordinates}
use Rattle.ff_points.specs.PointLists.{IsCharacterOf, AreCharactersOf, IsOneOf, IsPointBy}
use Rattle.ff_points.specs.PointLists.{IsPointByOne, AreWithCharacters, IsPointWhereClosed}
use Rattle.ff_points.specs.PointLists.{AreRisingPoints, HasPointsOver}
use Rattle.ff_points.proofs.CharacterPoints.{character_point}
use Rattle.ff_points.proofs.PointCharacters.{point_character}

-- lists of as many elements with the same values are the same
module _ (F : Elements ℕ) (one_value : (x y : ℕ) → IsElement F x → IsElement F y
    → F.value x ≡ F.value y → x ≡ y) where
  pub values_one : (xs ys : List ℕ) → length xs ≡ length ys → All (IsElement F) xs
      → All (IsElement F) ys → ((i : ℕ) → i < length xs → vector_of F xs i ≡ vector_of F ys i)
      → xs ≡ ys
  values_one [] [] e hx hy h = refl
  values_one [] (y ∷ ys) e hx hy h = absurd (omega (arith, e))
  values_one (x ∷ xs) [] e hx hy h = absurd (omega (arith, e))
  values_one (x ∷ xs) (y ∷ ys) e hx hy h = ap₂ (λ a t. a ∷ t)
      (one_value x y (hx zero x (omega arith)) (hy zero y (omega arith)) (h zero (omega arith)))
      (values_one xs ys (omega (arith, e)) (λ k d l. hx (suc k) d (omega (arith, l)))
      (λ k d l. hy (suc k) d (omega (arith, l))) (λ i l. h (suc i) (omega (arith, l))))

  -- points with the same values are the same
  pub points_one : (o : Order) (p q : Point) → HasPointForm F o p → HasPointForm F o q
      → F.value p.a ≡ F.value q.a → F.value p.theta ≡ F.value q.theta
      → ((i : ℕ) → i < length o.space.basis → vector_of F p.values i ≡ vector_of F q.values i)
      → p ≡ q
  points_one o p q hp hq ea et ev = path p q (hp.chart ∙ sym hq.chart)
      (one_value p.a q.a hp.a hq.a ea) (one_value p.theta q.theta hp.theta hq.theta et)
      (values_one p.values q.values (hp.values.len ∙ sym hq.values.len) hp.values.each
      hq.values.each (λ i l. ev i (subst (λ n. i < n) hp.values.len l)))
    where
      path : (p q : Point) → p.chart ≡ q.chart → p.a ≡ q.a → p.theta ≡ q.theta
          → p.values ≡ q.values → p ≡ q
      path p q c a t v = λ i. record { chart = c i; a = a i; theta = t i; values = v i }

module _ (F : Elements ℕ) (L : Lawful F) (f : List (List ℕ)) (hf : IsPlane F f)
    (two : 1 < length f) (o : Order) (h : IsOrder L f o) (a : ℕ) (s : Fibre)
    (b : IsFibreAt L f o (F.value a) s) (theta : List ℕ)
    (of_theta : ArePowerCoordinates L f o s 1 (vector_of F theta)) (basis : List (List ℕ))
    (same : length basis ≡ length o.space.basis)
    (of_basis : (i : ℕ) → i < length o.space.basis
    → AreVectorCoordinates L f o s (vectors_of F o.space.basis i) (vectors_of F basis i))
    (characters : List (Vec ℕ)) (are : AreCharactersOf L f o s characters) (old list : List Point)
    (new : AreWithCharacters F o a theta basis (rows_of characters) (length characters) old list)
  where
    long : (j : ℕ) → j < length characters
        → length (get_or (rows_of characters) j []) ≡ length s.planes.items
    long j k = (are.each j k).0.len

    is_character : (j : ℕ) → j < length characters
        → IsCharacterOf L f o s (vectors_of F (rows_of characters) j)
    is_character j k = record {
      one = are.one;
      coordinates = are.coordinates;
      character = (are.each j k).1;
    }

    theta_by : (j : ℕ) → j < length characters → (p : Point)
        → IsPointBy F o a theta basis (get_or (rows_of characters) j []) p → F.value p.theta
        ≡ product F.ring (length s.planes.items) (vector_of F theta)
        (vectors_of F (rows_of characters) j)
    theta_by j k p q = subst (λ n. F.value p.theta ≡ product F.ring n (vector_of F theta)
        (vectors_of F (rows_of characters) j)) (long j k) q.theta_is

    values_by : (j : ℕ) → j < length characters → (p : Point)
        → IsPointBy F o a theta basis (get_or (rows_of characters) j []) p → (i : ℕ)
        → i < length o.space.basis → vector_of F p.values i
        ≡ product F.ring (length s.planes.items) (vectors_of F basis i)
        (vectors_of F (rows_of characters) j)
    values_by j k p q i l = subst (λ n. vector_of F p.values i ≡ product F.ring n
        (vectors_of F basis i) (vectors_of F (rows_of characters) j)) (long j k)
        (q.values_are i (omega (arith, l, same)))

    -- the old points, and those that characters give
    pub points_over : AreRisingPoints L f o old → AreRisingPoints L f o list
    points_over olds = record { each = each; rising = new.rising }
      where
        each : All (IsPointWhereClosed L f o) list
        each i d below = go (new.by i d below)
          where
            go : IsOneOf old (get_or list i d) ⊎ IsPointByOne F o a theta basis
                (rows_of characters) (length characters) (get_or list i d)
                → IsPointWhereClosed L f o (get_or list i d)
            go (inl q) = subst (IsPointWhereClosed L f o) (sym q.1.1)
                (olds.each q.0 (get_or list i d) q.1.0)
            go (inr q) = record {
              form = new.form i d below;
              sound = λ closed. character_point F L f hf two o h closed (get_or list i d)
                  (new.form i d below) s (subst (λ t. IsFibreAt L f o (F.value t) s)
                  (sym q.1.1.a_is) b) (vectors_of F (rows_of characters) q.0)
                  (is_character q.0 q.1.0) (vector_of F theta) of_theta
                  (vectors_of F basis) of_basis
                  (theta_by q.0 q.1.0 (get_or list i d) q.1.1)
                  (values_by q.0 q.1.0 (get_or list i d) q.1.1);
            }

    -- and each point over a is in the list
    pub all_over : ((x y : ℕ) → IsElement F x → IsElement F y → F.value x ≡ F.value y → x ≡ y)
        → HasPointsOver L f o a list
    all_over one_value closed p point over = subst (IsOneOf list) equal found.1.0
      where
        t : (j : ℕ) × ((j < length characters) × ((F.value p.theta
            ≡ product F.ring (length s.planes.items) (vector_of F theta)
            (vectors_of F (rows_of characters) j))
            × ((i : ℕ) → i < length o.space.basis → vector_of F p.values i
            ≡ product F.ring (length s.planes.items) (vectors_of F basis i)
            (vectors_of F (rows_of characters) j))))
        t = point_character F L f hf two o h closed p point s
            (subst (λ t. IsFibreAt L f o t s) (sym over) b) characters are (vector_of F theta)
            of_theta (vectors_of F basis) of_basis

        found : (q : Point) × (IsOneOf list q
            × IsPointBy F o a theta basis (get_or (rows_of characters) t.0 []) q)
        found = new.whole t.0 t.1.0

        equal : found.0 ≡ p
        equal = points_one F one_value o found.0 p found.1.1.form (record {
          chart = point.chart;
          a = point.a;
          theta = point.theta;
          values = point.values;
          at_infinity = point.at_infinity;
        }) (ap F.value found.1.1.a_is ∙ sym over)
            (theta_by t.0 t.1.0 found.0 found.1.1 ∙ sym t.1.1.0)
            (λ i l. values_by t.0 t.1.0 found.0 found.1.1 i l ∙ sym (t.1.1.1 i l))

pub character_vectors : (F : Elements ℕ) (L : Lawful F) (f : List (List ℕ)) (o : Order)
    (s : Fibre) (characters : List (Vec ℕ)) → AreCharactersOf L f o s characters
    → AreVectors F (length s.planes.items) characters
character_vectors F L f o s characters are i d l = subst (IsVector F (length s.planes.items))
    (get_or-map (λ (r : Vec ℕ). r.items) characters i d [] l) (are.each i l).0

-- the characters that are found
pub found_characters : (F : Elements ℕ) (L : Lawful F) (f : List (List ℕ)) (o : Order) (s : Fibre)
    (one : List ℕ) → length one ≡ length s.planes.items
    → ArePowerCoordinates L f o s 0 (vector_of F one) → (m : ℕ) → m ≡ length one
    → (space : SpaceParts) → IsSpaceOf F m space → HasExactly F space (IsOrthogonal F m [])
    → (list : List (Vec ℕ)) → AreCharacters F (length one) (tables_of s.table.items) one list
    → ((chi : ℕ → F.carrier) → InSpace F space chi
    → IsCharacter F (length one) (tables_of s.table.items) one chi → HasVector F list chi)
    → AreCharactersOf L f o s list
found_characters F L f o s one len k m e space form exact list each all = record {
  one = one;
  coordinates = k;
  each = subst (λ n. AreCharacters F n (tables_of s.table.items) one list) len each;
  all = λ chi ends h. all chi ((exact chi).1 (
    subst (λ n. EndsAt F.ring n chi) (sym (form.len ∙ e ∙ len)) ends,
    λ i l. absurd (omega (arith, l)),
  )) (subst (λ n. IsCharacter F n (tables_of s.table.items) one chi) (sym len) h);
}
