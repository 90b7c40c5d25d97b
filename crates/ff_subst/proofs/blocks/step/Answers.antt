use Rattle.std.proofs.Common.{ap, length, ℕ, ◌∙◌, ◌≡◌}
use Rattle.ff_theory.specs.Ring.{power}
use Rattle.ff_theory.proofs.Results.{ok_map}
use Rattle.ff_elem.specs.Elem.{algebra_in, elem_of}
use Rattle.ff_subst.specs.Cleared.{AreCleared, ArePowers, linear_sum}
use Rattle.ff_subst.proofs.blocks.step.Goals as goal

pub mul-requires : goal.mul-requires
mul-requires g c =
    record { a = c.requires.at.next; b = c.requires.value }

pub plus_combination-requires : goal.plus_combination-requires
plus_combination-requires g c =
    record {
      list = c.requires.at.cleared;
      p = c.requires.p;
      e = c.in_ok-product.ensures.element;
    }

pub returns-clause-value : goal.returns-clause-value
returns-clause-value g c =
    let L = g.K.Ring.lawful c.args.alg.now.k in
    let f = c.args.alg.now.f in
    let A = algebra_in L f in
    let at = c.args.at.now in
    let n = length at.list.planes in
    let p = c.args.p.now in
    let i = c.args.i in
    let value = elem_of L f c.args.value.now in
    ok_map (λ r. (u : ℕ → A.carrier) → AreCleared L f u at.list → elem_of L f r
    ≡ A.add (linear_sum L f p i u n) (elem_of L f c.in_ok-product.product))
    (λ r. (X : A.carrier) → ArePowers L f X at → elem_of L f r
    ≡ A.add (linear_sum L f p i (power A X) n) (A.mul (power A X n) value))
    c.plus_combination.result
    (λ r h X k. h (power A X) k.powers ∙ ap (A.add (linear_sum L f p i (power A X) n))
    (c.in_ok-product.ensures.value ∙ ap (λ t. A.mul t value) k.next))
    c.plus_combination.ensures.value
