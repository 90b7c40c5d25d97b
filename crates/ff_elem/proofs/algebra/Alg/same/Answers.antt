use Rattle.std.proofs.Common.{ap}
use Rattle.ff_elem.specs.Elem.{elem_of}
use Rattle.ff_elem.proofs.Quotients.{element-one}
use Rattle.ff_elem.proofs.algebra.Alg.same.Goals as goal

pub returns-clause-value : goal.returns-clause-value
returns-clause-value g c =
    let K = g.K.Ring.elements c.args.self.now.k in
    let L = g.K.Ring.lawful c.args.self.now.k in
    let f = c.args.self.now.f in (
      λ t. ap (elem_of L f) (c.same.ensures.0 t),
      λ e. c.same.ensures.1
          (element-one K L f (g.met.K.Ring.one_value c.args.self.now.k) c.args.a.now c.args.b.now
          c.requires.a c.requires.b e),
    )
