-- Functions that are the least functions of a point, for an equation f over a field whose laws are
-- L: the system is a pole system, and it is missing only where x or y is not written.
use Rattle.std.proofs.Common.{◌≡◌, ℕ, ◌<◌, ◌≤◌, List, length, sym, subst, arith, All}
use Rattle.ff_theory.specs.Ring.{Elements}
use Rattle.ff_theory.specs.Lawful.{Lawful}
use Rattle.ff_theory.specs.Values.{IsPlane}
use Rattle.ff_elem.specs.Elem.{x_in, y_in}
use Rattle.ff_data.specs.declared.system.System.{System}
use Rattle.ff_forms.specs.declared.functions.Functions.{Functions}
use Rattle.ff_systems.specs.Places.{frame, HasLeastFunctions}
use Rattle.ff_systems.proofs.TableRule.{least_write}
use Rattle.ff_systems.proofs.Systems.{is_system}
use Rattle.ff_describe.specs.Described.{frame_of, HasFunctions, AreFunctionsWithin, IsDescribed}
use Rattle.ff_describe.specs.Described.{AllWritten, IsSystemWhereLeast, IsUnwrittenWhereLeast}
use Rattle.ff_describe.proofs.SystemLemmas.{same-frame}

module _ (K : Elements ℕ) (L : Lawful K) (f : List (List ℕ)) (hf : IsPlane K f)
    (two : 1 < length f) (limit : ℕ) (functions : Functions)
    (h : AreFunctionsWithin L f limit functions) where
  pub system-where-least : (s : System) → HasFunctions functions s → IsDescribed L f limit s
      → IsSystemWhereLeast L f limit functions s
  system-where-least s k d o p other at least small =
      let e : frame_of functions ≡ frame s.e s.z s.b s.weights = same-frame functions s k in
      let l : HasLeastFunctions L f o p other (frame s.e s.z s.b s.weights)
      = subst (HasLeastFunctions L f o p other) e least in
      is_system K L f hf two o p other at s (record {
        positive = l.positive;
        is_number = l.is_number;
        least = l.least;
        z = l.z;
        basis = record {
          first = l.basis.first;
          is_number = l.basis.is_number;
          remainder = l.basis.remainder;
          least = l.basis.least;
          pole = l.basis.pole;
        };
      }) d.form.weights limit (omega (arith, k.e, small))
      (subst (All (λ m. m ≤ limit)) (sym k.weights) h.within) d.form d.table.product d.x d.y

  pub unwritten-where-least : ¬ AllWritten L f limit functions
      → IsUnwrittenWhereLeast L f limit functions
  unwritten-where-least none o p other at least w = none (record {
    products = least_write K L f hf two o p other at (frame_of functions) least h.weights;
    x = w.0;
    y = w.1;
  })
