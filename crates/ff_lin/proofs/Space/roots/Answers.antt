use Rattle.std.proofs.Common.{ℕ, map, refl, ◌∙◌, ap, Vec, Global}
use Rattle.ff_lin.specs.Space.{SpaceParts}
use Rattle.ff_lin.proofs.InsertRow.{basis_vectors}
use Rattle.ff_lin.proofs.Relations.{roots_code}
use Rattle.ff_lin.proofs.Space.roots.Goals as goal

pub root_rows-requires : goal.root_rows-requires
root_rows-requires g c k d l =
    let K = g.K.Ring.elements c.args.k.now in
    let vec = basis_vectors K (λ v. v.items) c.deref.result.now c.self.inside.basis.items
    c.args.self.now c.args.self.now.len c.deref.ensures.value
    (ap (λ (t : SpaceParts). t.basis) c.self.view_is) refl c.requires k d l in
    vec.each

pub returns-clause-space : goal.returns-clause-space
returns-clause-space g c =
    let K = g.K.Ring.elements c.args.k.now in
    let items : Vec ℕ Global → _ = λ v. v.items in
    let s = c.args.self.now in
    record {
      space = (roots_code K (g.met.K.Ring.laws c.args.k.now)
          (g.met.K.FiniteField.is_finite_field c.args.k.now) items s
          (record {
            len = c.self.inside.len;
            basis = map items c.in_ok-root_rows.field-0.items;
            pivots = c.in_ok-from_slice.field-0.items;
          })
          c.self.inside.basis.items c.deref.result.now c.in_ok-root_rows.field-0.items c.requires
          (ap (λ (t : SpaceParts). t.len) c.self.view_is) refl
          (c.in_ok-from_slice.ensures.items ∙ c.deref-2.ensures.value
          ∙ ap (λ (t : SpaceParts). t.pivots) c.self.view_is)
          (ap (λ (t : SpaceParts). t.basis) c.self.view_is) c.deref.ensures.value
          c.in_ok-root_rows.ensures.len c.in_ok-root_rows.ensures.value).0;
      len = ap (λ (t : SpaceParts). t.len) c.self.view_is;
    }

pub returns-clause-exact : goal.returns-clause-exact
returns-clause-exact g c =
    let K = g.K.Ring.elements c.args.k.now in
    let items : Vec ℕ Global → _ = λ v. v.items in
    let s = c.args.self.now in
    (roots_code K (g.met.K.Ring.laws c.args.k.now)
    (g.met.K.FiniteField.is_finite_field c.args.k.now) items s
    (record {
      len = c.self.inside.len;
      basis = map items c.in_ok-root_rows.field-0.items;
      pivots = c.in_ok-from_slice.field-0.items;
    })
    c.self.inside.basis.items c.deref.result.now c.in_ok-root_rows.field-0.items c.requires
    (ap (λ (t : SpaceParts). t.len) c.self.view_is) refl
    (c.in_ok-from_slice.ensures.items ∙ c.deref-2.ensures.value
    ∙ ap (λ (t : SpaceParts). t.pivots) c.self.view_is)
    (ap (λ (t : SpaceParts). t.basis) c.self.view_is) c.deref.ensures.value
    c.in_ok-root_rows.ensures.len c.in_ok-root_rows.ensures.value).1
