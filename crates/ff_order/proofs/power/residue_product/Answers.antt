use Rattle.ff_theory.proofs.Results.{ok_map}
use Rattle.ff_order.proofs.Residues.{equation_positive, equation_monic, modulus_positive}
use Rattle.ff_order.proofs.Residues.{product_keeps}
use Rattle.ff_order.proofs.power.residue_product.Goals as goal

pub product-requires-clause-nonzero : goal.product-requires-clause-nonzero
product-requires-clause-nonzero g c =
    equation_positive (g.K.Ring.elements c.args.alg.now.k) (g.K.Ring.lawful c.args.alg.now.k)
    c.args.alg.now.f c.args.alg.now.plane c.args.alg.now.has_y c.args.chart c.args.rows.now
    c.requires.rows

pub product-requires-clause-monic : goal.product-requires-clause-monic
product-requires-clause-monic g c =
    equation_monic (g.K.Ring.elements c.args.alg.now.k) (g.K.Ring.lawful c.args.alg.now.k)
    c.args.alg.now.f c.args.alg.now.plane c.args.alg.now.has_y c.args.chart c.args.rows.now
    c.requires.rows

pub residues-requires-clause-nonzero : goal.residues-requires-clause-nonzero
residues-requires-clause-nonzero g c =
    modulus_positive (g.K.Ring.elements c.args.alg.now.k) (g.K.Ring.lawful c.args.alg.now.k)
    c.args.alg.now.f c.args.alg.now.plane c.args.alg.now.has_y c.args.chart c.args.m.now
    c.requires.m c.requires.modulus

pub returns-clause-value : goal.returns-clause-value
returns-clause-value g c =
    ok_map _ _ c.residues.result
    (λ r h. product_keeps (g.K.Ring.elements c.args.alg.now.k) (g.K.Ring.lawful c.args.alg.now.k)
    c.args.alg.now.f c.args.alg.now.plane c.args.alg.now.has_y c.args.chart c.args.rows.now
    c.requires.rows c.args.m.now c.args.a.now c.args.b.now c.in_ok-product.product r
    c.in_ok-product.ensures.value c.in_ok-product.ensures.smaller h) c.residues.ensures.value
