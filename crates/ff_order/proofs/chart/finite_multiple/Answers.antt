use Rattle.ff_theory.proofs.Results.{ok_map}
use Rattle.ff_elem.proofs.PolyLemmas.{nonzero-length}
use Rattle.ff_order.proofs.ChartLemmas.{finite-residue}
use Rattle.ff_order.proofs.chart.finite_multiple.Goals as goal

pub rows_at_monic-requires : goal.rows_at_monic-requires
rows_at_monic-requires g c = record { w = c.requires.b; in_powers = c.requires.in_powers }

pub residues-requires : goal.residues-requires
residues-requires g c = record {
  a = c.in_ok-rows.ensures.plane;
  m = c.requires.d;
  nonzero = nonzero-length (g.K.Ring.elements c.args.alg.now.k) (g.K.Ring.lawful c.args.alg.now.k)
      c.args.sep.now.d c.requires.nonzero;
}

pub returns-clause-residue : goal.returns-clause-residue
returns-clause-residue g c =
    let F = g.K.Ring.elements c.args.alg.now.k in
    ok_map _ _ c.residues.result
    (λ r h. finite-residue F (g.K.Ring.lawful c.args.alg.now.k) c.args.alg.now.f
    c.args.alg.now.plane c.args.alg.now.has_y _ _ c.in_ok-rows.rows r c.in_ok-rows.ensures.rows
    c.in_ok-rows.ensures.value h) c.residues.ensures.value
