use Rattle.ff_lattice.proofs.RowResidues.{residues_of_lists}
use Rattle.ff_lattice.proofs.modulo.residues.Goals as goal

pub returns-clause-value : goal.returns-clause-value
returns-clause-value g c =
    residues_of_lists (g.K.Ring.lawful c.args.k.now) c.args.m.now c.args.a.now c.rows.result.now
    c.in_ok-remainders.field-0.items c.from_vec.result c.requires.m c.requires.nonzero c.requires.a
    c.rows.ensures c.in_ok-remainders.ensures.len c.in_ok-remainders.ensures.value
    c.from_vec.ensures.value
