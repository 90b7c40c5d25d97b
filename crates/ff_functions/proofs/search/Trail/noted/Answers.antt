use Rattle.std.proofs.Common.{refl, ◌≤◌, [], ◌∷◌, ◌++◌, ◌∙◌, ap, length, sym, subst, arith, All}
use Rattle.std.proofs.lemmas.List.Elements.{All-push}
use Rattle.ff_theory.specs.Values.{IsPlane}
use Rattle.ff_data.specs.Orders.{y_degree}
use Rattle.ff_data.specs.Vectors.{IsPlaneWithin}
use Rattle.ff_functions.proofs.PlaneLemmas.{few_rows}
use Rattle.ff_functions.proofs.search.Trail.noted.Goals as goal

pub returns-clause-form : goal.returns-clause-form
returns-clause-form g c =
    let F = g.K.Ring.elements c.args.alg.now.k in
    let L = g.K.Ring.lawful c.args.alg.now.k in
    let n = y_degree L c.args.alg.now.f in
    let h = c.requires.form in
    let p = h.powers.power in
    let e = sym c.in_ok-power.ensures in
    record {
      powers = h.powers;
      passed = subst (All (IsPlaneWithin F n)) (sym c.in_ok-push.ensures.items)
          (All-push (IsPlaneWithin F n) c.args.self.passed.items c.in_ok-power.power h.passed
          record {
            plane = subst (IsPlane F) e p.plane;
            few = subst (λ r. length r ≤ n) e
                (few_rows F L c.args.self.powers.power p.plane n _ p.shape);
          });
      count = omega (arith, c.in_ok-push.ensures.len, h.count);
    }

pub returns-clause-passed : goal.returns-clause-passed
returns-clause-passed g c = c.in_ok-push.ensures.items
    ∙ ap (λ x. c.args.self.passed.items ++ x ∷ []) c.in_ok-power.ensures

pub returns-clause-powers : goal.returns-clause-powers
returns-clause-powers g c = refl
