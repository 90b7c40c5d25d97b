use Rattle.ff_order.proofs.descent.maximal.Goals as goal

pub returns-clause-d : goal.returns-clause-d
returns-clause-d g c h = c.in_ok-rows.ensures.d h

pub returns-clause-exact : goal.returns-clause-exact
returns-clause-exact g c =
    let modulus = c.in_ok-rows.ensures.rows.modulus in
    record {
      order = record {
        theta = c.in_ok-theta.ensures.element;
        theta_is = c.in_ok-theta.ensures.value;
        d = c.in_ok-rows.ensures.rows.d;
        modulus = modulus;
        space = c.in_ok-space.ensures.space;
      };
      exact = c.in_ok-space.ensures.exact;
    }
