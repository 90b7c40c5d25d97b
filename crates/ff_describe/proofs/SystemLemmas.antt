-- Systems of given functions, for an equation f over a field whose laws are L.
use Rattle.std.proofs.Common.{◌≡◌, ℕ, ◌+◌, ◌/◌, ◌<◌, ◌≤◌, List, [], length, get_or, sym, ◌∙◌, ap}
use Rattle.std.proofs.Common.{subst, arith, All}
use Rattle.ff_theory.specs.Ring.{Elements}
use Rattle.ff_theory.specs.Lawful.{Lawful}
use Rattle.ff_elem.specs.declared.elem.Elem.{Elem}
use Rattle.ff_elem.specs.Elem.{algebra_in, IsElem, x_in, y_in}
use Rattle.ff_data.specs.declared.system.Coords.{Coords}
use Rattle.ff_data.specs.declared.system.System.{System}
use Rattle.ff_data.specs.Combinations.{AreElems}
use Rattle.ff_data.specs.Systems.{AreCoords, AreOverMonic, IsExpression, HasForm}
use Rattle.ff_systems.specs.Places.{frame}
use Rattle.ff_forms.specs.declared.functions.TheConstants.{POLE_LIMIT}
use Rattle.ff_forms.specs.declared.functions.Functions.{Functions}
use Rattle.ff_forms.specs.Forms.{HasFunctionsForm, IsWithinLimit}
use Rattle.ff_describe.specs.Described.{frame_of, HasFunctions, AreFunctionsWithin, IsTableOf}
use Rattle.ff_describe.specs.Described.{IsDescribed}

-- two systems with the same functions have the same frame
pub same-frame : (functions : Functions) (s : System) → HasFunctions functions s
    → frame_of functions ≡ frame s.e s.z s.b s.weights
same-frame functions s h = sym (ap (λ e. frame e s.z s.b s.weights) h.e
    ∙ ap (λ z. frame functions.e z s.b s.weights) h.z
    ∙ ap (λ b. frame functions.e functions.z b s.weights) h.b
    ∙ ap (λ weights. frame functions.e functions.z functions.b weights) h.weights)

-- equal parts make equal frames
pub frame-parts : (s : Functions) (e : ℕ) (z : Elem) (b : List Elem) (weights : List ℕ) → e ≡ s.e
    → z ≡ s.z → b ≡ s.b → weights ≡ s.weights → frame e z b weights ≡ frame_of s
frame-parts s e z b weights he hz hb hw = ap (λ e. frame e z b weights) he
    ∙ ap (λ z. frame s.e z b weights) hz ∙ ap (λ b. frame s.e s.z b weights) hb
    ∙ ap (λ weights. frame s.e s.z s.b weights) hw

-- and equal functions
abbrev pub functions_of : ℕ → Elem → List Elem → List ℕ → Functions
functions_of e z b weights = record { e = e; z = z; b = b; weights = weights }

pub functions-parts : (s : Functions) (e : ℕ) (z : Elem) (b : List Elem) (weights : List ℕ)
    → e ≡ s.e → z ≡ s.z → b ≡ s.b → weights ≡ s.weights → functions_of e z b weights ≡ s
functions-parts s e z b weights he hz hb hw = ap (λ e. functions_of e z b weights) he
    ∙ ap (λ z. functions_of s.e z b weights) hz ∙ ap (λ b. functions_of s.e s.z b weights) hb
    ∙ ap (λ weights. functions_of s.e s.z s.b weights) hw

module _ (K : Elements ℕ) (L : Lawful K) (f : List (List ℕ)) where
  -- an expression within a degree and a weight is one within greater ones
  pub expression-within : (s : System) (w : (algebra_in L f).carrier) (m bound most limit : ℕ)
      → m ≤ most → bound ≤ limit → (c : Coords) → IsExpression L f s w m bound c
      → IsExpression L f s w most limit c
  expression-within s w m bound most limit a b c h = record {
    form = h.form;
    degree = omega (arith, h.degree, a);
    weight = λ l p q. let t = h.weight l p q in omega (arith, t, b);
    writes = h.writes;
  }

  -- what is written in the frame of a system is written in the system
  pub frame-expression : (s : System) (w : (algebra_in L f).carrier) (m bound : ℕ) (c : Coords)
      → IsExpression L f (frame s.e s.z s.b s.weights) w m bound c
      → IsExpression L f s w m bound c
  frame-expression s w m bound c h = record {
    form = record {
      q = h.form.q;
      monic = h.form.monic;
      coords = record { each = h.form.coords.each; count = h.form.coords.count };
    };
    degree = h.degree;
    weight = h.weight;
    writes = h.writes;
  }

  -- and the other way round
  pub expression-frame : (s : System) (w : (algebra_in L f).carrier) (m bound : ℕ) (c : Coords)
      → IsExpression L f s w m bound c
      → IsExpression L f (frame s.e s.z s.b s.weights) w m bound c
  expression-frame s w m bound c h = record {
    form = record {
      q = h.form.q;
      monic = h.form.monic;
      coords = record { each = h.form.coords.each; count = h.form.coords.count };
    };
    degree = h.degree;
    weight = h.weight;
    writes = h.writes;
  }

  frame-coords : (s : System) (c : List (List ℕ)) → AreCoords K (frame s.e s.z s.b s.weights) c
      → AreCoords K s c
  frame-coords s c h = record { each = h.each; count = h.count }

  frame-table : (s : System) (t : List (List (List (List ℕ))))
      → IsTableOf L f (frame s.e s.z s.b s.weights) t → IsTableOf L f s t
  frame-table s t h = record {
    rows = h.rows;
    row = h.row;
    each = λ i d l j e k. frame-coords s _ (h.each i d l j e k);
    product = h.product;
    weight = h.weight;
  }

  pub described : (limit : ℕ) (functions : Functions) (s : System)
      (table : List (List (List (List ℕ)))) (x y : Coords)
      → AreFunctionsWithin L f limit functions → HasFunctions functions s
      → s.table ≡ table → s.x ≡ x → s.y ≡ y → IsTableOf L f (frame_of functions) table
      → IsExpression L f (frame_of functions) (x_in L f) (limit / functions.e) limit x
      → IsExpression L f (frame_of functions) (y_in L f) (limit / functions.e) limit y
      → IsDescribed L f limit s
  described limit functions s table x y h k et ex ey ht hx hy =
      let e : frame_of functions ≡ frame s.e s.z s.b s.weights = same-frame functions s k in
      let t : IsTableOf L f s s.table = frame-table s s.table
      (subst (IsTableOf L f (frame s.e s.z s.b s.weights)) (sym et)
      (subst (λ r. IsTableOf L f r table) e ht)) in
      let u : IsExpression L f s (x_in L f) (limit / s.e) limit s.x =
      frame-expression s (x_in L f) (limit / s.e) limit s.x
      (subst (λ n. IsExpression L f (frame s.e s.z s.b s.weights) (x_in L f) (limit / n) limit s.x)
      (sym k.e) (subst (IsExpression L f (frame s.e s.z s.b s.weights) (x_in L f)
      (limit / functions.e) limit) (sym ex)
      (subst (λ r. IsExpression L f r (x_in L f) (limit / functions.e) limit x) e hx))) in
      let v : IsExpression L f s (y_in L f) (limit / s.e) limit s.y =
      frame-expression s (y_in L f) (limit / s.e) limit s.y
      (subst (λ n. IsExpression L f (frame s.e s.z s.b s.weights) (y_in L f) (limit / n) limit s.y)
      (sym k.e) (subst (IsExpression L f (frame s.e s.z s.b s.weights) (y_in L f)
      (limit / functions.e) limit) (sym ey)
      (subst (λ r. IsExpression L f r (y_in L f) (limit / functions.e) limit y) e hy))) in
      record {
        form = record {
          z = subst (IsElem L f) (sym k.z) h.z;
          b = subst (AreElems L f) (sym k.b) h.b;
          count = ap length k.b ∙ h.count ∙ sym k.e;
          weights = ap length k.weights ∙ h.weights ∙ sym k.e;
          rows = t.rows;
          row = t.row;
          table = t.each;
          x = u.form;
          y = v.form;
        };
        positive = subst (λ n. 0 < n) (sym k.e) h.positive;
        table = t;
        x = u;
        y = v;
      }

  -- functions within the pole limit
  pub within-limit : (functions : Functions) → HasFunctionsForm L f functions
      → AreFunctionsWithin L f POLE_LIMIT functions
  within-limit functions h = record {
    small = omega arith;
    positive = h.positive;
    z = h.z;
    b = h.b;
    count = h.count;
    weights = h.weights;
    within = h.within;
  }

  pub kept-within : (functions : Functions) → HasFunctionsForm L f functions → (s : System)
      → HasFunctions functions s → IsWithinLimit s
  kept-within functions h s k = record {
    positive = subst (λ n. 0 < n) (sym k.e) h.positive;
    e = subst (λ n. n ≤ POLE_LIMIT) (sym k.e) h.e;
    weights = subst (All (λ m. m ≤ POLE_LIMIT)) (sym k.weights) h.within;
  }
