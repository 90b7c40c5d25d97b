-- Values of lists of coefficients, and of lists of rows, from the top.
use Rattle.std.proofs.Common.{◌≡◌, ℕ, suc, ◌<◌, List, [], ◌∷◌, length, map, get_or, drop, refl}
use Rattle.std.proofs.Common.{sym, ◌∙◌, ap, ap₂, arith}
use Rattle.std.proofs.lemmas.List.{drop_all}
use Rattle.std.proofs.Math.Seq.{drop-cons}
use Rattle.ff_theory.specs.Ring.{Elements}
use Rattle.ff_theory.specs.Lawful.{Domain, Lawful, lawful_field}
use Rattle.ff_theory.specs.Map.{IsMap}
use Rattle.ff_theory.specs.Poly.{poly, polynomials}
use Rattle.ff_theory.specs.Eval.{eval_list, eval, plane_at}
use Rattle.ff_theory.specs.Values.{poly_of, polys_of, plane_of}
use Rattle.ff_theory.proofs.Evaluate.{at_trim, eval_map}
use Rattle.ff_theory.proofs.PolyMap.{polynomial_domain}

module _ (F : Elements ℕ) (L : Lawful F) where
  abbrev D : Domain
  D = polynomial_domain (lawful_field L)

  module _ {X : Type 0} (h : X → F.carrier) (y : F.carrier) (xs : List X) where
    pub eval_none : (i : ℕ) → i ≡ length xs → (v : F.carrier) → v ≡ F.zero
        → v ≡ eval_list F.ring h y (drop i xs)
    eval_none i e v z = z ∙ sym (ap (eval_list F.ring h y) (drop_all i xs (omega (arith, e))))

    -- one coefficient more
    pub eval_next : (i k : ℕ) → i ≡ suc k → k < length xs → (d x : X) → x ≡ get_or xs k d
        → (v s t : F.carrier) → s ≡ h x → t ≡ eval_list F.ring h y (drop i xs)
        → v ≡ F.add s (F.mul y t) → v ≡ eval_list F.ring h y (drop k xs)
    eval_next i k m l d x e v s t hs ht hv = hv
        ∙ ap₂ (λ a b. F.add a (F.mul y b)) (hs ∙ ap h e)
        (ht ∙ ap (λ n. eval_list F.ring h y (drop n xs)) m)
        ∙ sym (ap (eval_list F.ring h y) (drop-cons xs k d l))

    pub eval_whole : (i : ℕ) → i ≡ 0 → eval_list F.ring h y (drop i xs) ≡ eval_list F.ring h y xs
    eval_whole i e = ap (λ n. eval_list F.ring h y (drop n xs)) e

  pub identity : IsMap F.ring F.ring (λ s. s)
  identity = record {
    on_zero = refl;
    on_one = refl;
    on_add = λ s t. refl;
    on_neg = λ s. refl;
    on_mul = λ s t. refl;
  }

  module _ (a b : F.carrier) where
    joined : (p : List ℕ) → eval_list F.ring (λ s. s) a (map F.value p)
        ≡ eval_list F.ring F.value a p
    joined [] = refl
    joined (c ∷ p) = ap (λ t. F.add (F.value c) (F.mul a t)) (joined p)

    pub poly_value : (p : List ℕ) → eval F.ring F.ring (λ s. s) a (poly_of F p)
        ≡ eval_list F.ring F.value a p
    unfolding poly eval
    poly_value p = at_trim F.ring F.ring L.laws L.tests L.laws (λ s. s) identity a (map F.value p)
        ∙ joined p

    joined_rows : (rows : List (List ℕ))
        → eval_list F.ring (eval F.ring F.ring (λ s. s) a) b (polys_of F rows)
        ≡ eval_list F.ring (λ p. eval_list F.ring F.value a p) b rows
    joined_rows [] = refl
    joined_rows (p ∷ rows) = ap₂ (λ s t. F.add s (F.mul b t)) (poly_value p) (joined_rows rows)

    pub rows_value : (rows : List (List ℕ))
        → eval_list F.ring (λ p. eval_list F.ring F.value a p) b rows
        ≡ plane_at F.ring F.ring (λ s. s) a b (plane_of F rows)
    unfolding poly eval
    rows_value rows = sym (at_trim (polynomials F.ring) F.ring D.laws D.tests L.laws
        (eval F.ring F.ring (λ s. s) a)
        (eval_map F.ring F.ring L.laws L.tests L.laws (λ s. s) identity a) b (polys_of F rows)
        ∙ joined_rows rows)
