use Rattle.std.proofs.Common.{length}
use Rattle.ff_theory.specs.Values.{plane_of}
use Rattle.ff_theory.proofs.Results.{ok_map}
use Rattle.ff_data.specs.Orders.{y_degree}
use Rattle.ff_frac.proofs.FractionLemmas.{listed_shape}
use Rattle.ff_frac.proofs.powers.Powers.next.Goals as goal

pub returns-clause-shape : goal.returns-clause-shape
returns-clause-shape g c =
    let F = g.K.Ring.elements c.args.alg.now.k in
    let L = g.K.Ring.lawful c.args.alg.now.k in
    let f = c.args.alg.now.f in
    ok_map _ _ c.residues.result
    (λ r h. listed_shape F L c.args.modulus.now c.requires.modulus (y_degree L f)
    c.in_ok-raised.raised (plane_of F r) h c.in_ok-raised.ensures.few)
    c.residues.ensures.value

pub returns-clause-value : goal.returns-clause-value
returns-clause-value g c =
    ok_map _ _ c.residues.result (λ r h. record {
      quotient = _;
      product = c.in_ok-raised.ensures.value;
      residues = h;
    }) c.residues.ensures.value
