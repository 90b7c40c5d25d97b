-- E(f) is a field where f has no factors over k(x).
use Rattle.std.proofs.Common.{◌≡◌, ℕ, ◌≤◌, sym, ◌∙◌, ap}
use Rattle.ff_theory.specs.Ring.{IsField}
use Rattle.ff_theory.specs.Lawful.{Field}
use Rattle.ff_theory.specs.Planes.{Plane}
use Rattle.ff_theory.specs.Algebra.{proper, degree, algebra_of}
use Rattle.ff_theory.proofs.Algebra.{rational, embed, embed_size}
use Rattle.ff_theory.proofs.Proper.{proper_size}
use Rattle.ff_theory.proofs.Irreducible.{NoFactors, class_inverse, algebra_field}
use Rattle.ff_theory.proofs.Model.{model}
use Rattle.ff_theory.proofs.NormalForms.{to_model, to_model_map, of_model, of_model_map}
use Rattle.ff_theory.proofs.NormalForms.{of_to_model}

module _ (K : Field) (f : Plane K) where
  model_inverse : (model K f).carrier → (model K f).carrier
  unfolding model
  model_inverse a = class_inverse (rational K) (embed K (proper K f)) (degree K f)
      (embed_size K (proper K f) ∙ proper_size K f) a

  -- the inverse of an element, where there is one
  pub element_inverse : (algebra_of K f).carrier → (algebra_of K f).carrier
  element_inverse a = of_model K f (model_inverse (to_model K f a))

  pub element_field : NoFactors K (proper K f) (degree K f) (proper_size K f) → 1 ≤ degree K f
      → IsField (algebra_of K f) element_inverse
  unfolding model model_inverse element_inverse
  element_field none positive = record {
    one_not_zero = λ e. in_model.one_not_zero
        (sym (to_model_map K f).on_one ∙ ap (to_model K f) e ∙ (to_model_map K f).on_zero);
    mul_inverse = λ a some.
        ap (λ t. (algebra_of K f).mul t (of_model K f (model_inverse (to_model K f a))))
        (sym (of_to_model K f a)) ∙ sym ((of_model_map K f).on_mul _ _)
        ∙ ap (of_model K f) (in_model.mul_inverse (to_model K f a) (λ e. some
        (sym (of_to_model K f a) ∙ ap (of_model K f) e ∙ (of_model_map K f).on_zero)))
        ∙ (of_model_map K f).on_one;
  }
    where
      in_model : IsField (model K f) model_inverse
      in_model = algebra_field K (proper K f) (degree K f) (proper_size K f) none positive
