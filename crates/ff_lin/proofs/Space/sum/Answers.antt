use Rattle.std.proofs.Common.{ℕ, ◌↔◌, ◌++◌, map, ◌∙◌, ap, subst, Vec, Global}
use Rattle.ff_lin.specs.Space.{SpaceParts, InSpace, SameSpace, IsSum}
use Rattle.ff_lin.proofs.InsertRow.{basis_vectors}
use Rattle.ff_theory.proofs.Results.{ok_map}
use Rattle.ff_lin.proofs.MeetSum.{sum-exact}
use Rattle.ff_lin.proofs.Space.sum.Goals as goal

pub span-requires : goal.span-requires
span-requires g c = record {
  rows = basis_vectors (g.K.Ring.elements c.args.k.now) (λ v. v.items) c.deref.result.now
      c.self.inside.basis.items c.args.self.now c.self.inside.len c.deref.ensures.value
      (ap (λ (t : SpaceParts). t.basis) c.self.view_is)
      (ap (λ (t : SpaceParts). t.len) c.self.view_is) c.requires.space;
}

pub extend-requires-clause-rows : goal.extend-requires-clause-rows
extend-requires-clause-rows g c =
    basis_vectors (g.K.Ring.elements c.args.k.now) (λ v. v.items) c.deref-2.result.now
    c.b.inside.basis.items c.args.b.now c.in_ok-span.field-0.len c.deref-2.ensures.value
    (ap (λ (t : SpaceParts). t.basis) c.b.view_is)
    (c.in_ok-span.ensures.space.len ∙ ap (λ (t : SpaceParts). t.len) c.self.view_is
    ∙ c.requires.len) c.requires.other

pub returns-clause-exact : goal.returns-clause-exact
returns-clause-exact g c =
    let K = g.K.Ring.elements c.args.k.now in
    let items : Vec ℕ Global → _ = λ v. v.items in
    let a = c.args.self.now in
    let b = c.args.b.now in
    let t = c.in_ok-span.field-0 in
    ok_map (λ s. SameSpace K s.basis (t.basis ++ map items c.deref-2.result.now))
    (λ s. (v : ℕ → K.carrier) → InSpace K s v ↔ IsSum K (InSpace K a) (InSpace K b) v)
    c.extend.result
    (λ s h. sum-exact K (g.met.K.Ring.laws c.args.k.now) a b t s
    (subst (SameSpace K t.basis) (ap (map items) c.deref.ensures.value ∙ ap (λ (t : SpaceParts).
    t.basis) c.self.view_is) c.in_ok-span.ensures.same)
    (subst (λ r. SameSpace K s.basis (t.basis ++ r))
    (ap (map items) c.deref-2.ensures.value ∙ ap (λ (t : SpaceParts). t.basis) c.b.view_is) h))
    c.extend.ensures.same
