use Rattle.std.proofs.Common.{ℕ, length, ◌∙◌, ap, arith, Vec, Global}
use Rattle.std.proofs.lemmas.List.{length-map}
use Rattle.ff_lin.specs.Space.{SpaceParts}
use Rattle.ff_lin.proofs.InsertRow.{basis_vectors}
use Rattle.ff_lin.proofs.Compare.{same_count, vectors_code, data_code}
use Rattle.ff_lin.proofs.Space.is_same.Goals as goal

pub returns-then-len-clause-vectors : goal.returns-then-len-clause-vectors
returns-then-len-clause-vectors g c =
    let items : Vec ℕ Global → _ = λ v. v.items in (
      (λ h. absurd (cc)),
      λ h. absurd (c.if-len.true (omega (
        arith,
        c.len.ensures,
        c.len-2.ensures,
        length-map c.self.inside.basis.items items,
        length-map c.other.inside.basis.items items,
        ap (λ (t : SpaceParts). length t.basis) c.self.view_is,
        ap (λ (t : SpaceParts). length t.basis) c.other.view_is,
        same_count (g.K.Ring.elements c.args.k.now) (g.met.K.Ring.laws c.args.k.now)
            (g.met.K.Ring.tests c.args.k.now) (g.met.K.Field.is_field c.args.k.now) c.args.self.now
            c.args.other.now c.requires.space c.requires.other h,
      ))),
    )

pub same_rows-requires-clause-a : goal.same_rows-requires-clause-a
same_rows-requires-clause-a g c =
    basis_vectors (g.K.Ring.elements c.args.k.now) (λ v. v.items) c.deref.result.now
    c.self.inside.basis.items c.args.self.now c.self.inside.len c.deref.ensures.value
    (ap (λ (t : SpaceParts). t.basis) c.self.view_is)
    (ap (λ (t : SpaceParts). t.len) c.self.view_is) c.requires.space

pub same_rows-requires-clause-b : goal.same_rows-requires-clause-b
same_rows-requires-clause-b g c =
    basis_vectors (g.K.Ring.elements c.args.k.now) (λ v. v.items) c.deref-2.result.now
    c.other.inside.basis.items c.args.other.now c.self.inside.len c.deref-2.ensures.value
    (ap (λ (t : SpaceParts). t.basis) c.other.view_is)
    (ap (λ (t : SpaceParts). t.len) c.self.view_is ∙ c.requires.len) c.requires.other

pub returns-clause-vectors : goal.returns-clause-vectors
returns-clause-vectors g c =
    let K = g.K.Ring.elements c.args.k.now in
    vectors_code K (g.met.K.Ring.laws c.args.k.now) (g.met.K.Ring.tests c.args.k.now)
    (g.met.K.Field.is_field c.args.k.now) c.args.self.now c.args.other.now c.requires.space
    c.requires.other (g.met.K.Ring.one_value c.args.k.now) c.requires.len (λ v. v.items)
    c.deref.result.now c.deref-2.result.now c.self.inside.basis.items c.other.inside.basis.items
    c.same_rows.result c.deref.ensures.value c.deref-2.ensures.value
    (ap (λ (t : SpaceParts). t.basis) c.self.view_is)
    (ap (λ (t : SpaceParts). t.basis) c.other.view_is) (omega arith) c.same_rows.ensures

pub returns-clause-data : goal.returns-clause-data
returns-clause-data g c =
    let K = g.K.Ring.elements c.args.k.now in
    data_code K (g.met.K.Ring.laws c.args.k.now) (g.met.K.Ring.tests c.args.k.now)
    (g.met.K.Field.is_field c.args.k.now) c.args.self.now c.args.other.now c.requires.space
    c.requires.other (g.met.K.Ring.one_value c.args.k.now) c.requires.len (λ v. v.items)
    c.deref.result.now c.deref-2.result.now c.self.inside.basis.items c.other.inside.basis.items
    c.same_rows.result c.deref.ensures.value c.deref-2.ensures.value
    (ap (λ (t : SpaceParts). t.basis) c.self.view_is)
    (ap (λ (t : SpaceParts). t.basis) c.other.view_is) (omega arith) c.same_rows.ensures
