use Rattle.ff_text.proofs.Rows.{polynomial_answers}
use Rattle.ff_text.proofs.planes.polynomial.Goals as goal

pub returns : goal.returns
returns c = polynomial_answers c.args.k.now.number c.row.result c.args.terms.now c.args.width
    c.requires.width c.row.ensures.poly c.row.ensures.same
