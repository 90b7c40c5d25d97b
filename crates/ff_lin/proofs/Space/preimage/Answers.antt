use Rattle.std.proofs.Common.{ℕ, map, Vec, Global}
use Rattle.ff_lin.specs.Space.{HasExactly, InSpace, IsRelation}
use Rattle.ff_theory.specs.Vector.{combination_of}
use Rattle.ff_lin.proofs.Relations.{preimage_code}
use Rattle.ff_theory.proofs.Results.{ok_map}
use Rattle.ff_lin.proofs.Space.preimage.Goals as goal

pub returns-clause-exact : goal.returns-clause-exact
returns-clause-exact g c =
    let K = g.K.Ring.elements c.args.k.now in
    let items : Vec ℕ Global → _ = λ v. v.items in
    let s = c.args.self.now in
    ok_map (λ t. HasExactly K t (IsRelation K (map items c.deref.result.now)))
    (λ t. HasExactly K t (λ v. InSpace K s (combination_of K (map items c.args.images.now) v)))
    c.relations.result
    (preimage_code K (g.met.K.Ring.laws c.args.k.now) items s c.args.images.now
    c.in_ok-remainders.remainders.items c.deref.result.now c.requires.space
    c.in_ok-remainders.ensures.len c.in_ok-remainders.ensures.value c.deref.ensures.value)
    c.relations.ensures.exact
