use Rattle.std.proofs.Common.{ℕ, ◌↔◌, length, map, refl, sym, ◌∙◌, ap, Vec, Global}
use Rattle.std.proofs.lemmas.List.{length-map}
use Rattle.ff_theory.specs.Span.{SameSpan}
use Rattle.ff_lin.specs.Space.{SpaceParts, InSpace, combinations_of}
use Rattle.ff_theory.specs.Vector.{vectors_of}
use Rattle.ff_lin.proofs.InsertRow.{basis_vectors}
use Rattle.ff_theory.proofs.Results.{ok_map}
use Rattle.ff_lin.proofs.MeetSum.{meet_code}
use Rattle.ff_lin.proofs.Space.meet.Goals as goal

pub preimage-requires-clause-images : goal.preimage-requires-clause-images
preimage-requires-clause-images g c =
    basis_vectors (g.K.Ring.elements c.args.k.now) (λ v. v.items) c.deref.result.now
    c.self.inside.basis.items c.args.self.now c.args.b.now.len c.deref.ensures.value
    (ap (λ (t : SpaceParts). t.basis) c.self.view_is) (sym c.requires.len) c.requires.space

pub combinations-requires-clause-coefficients : goal.combinations-requires-clause-coefficients
combinations-requires-clause-coefficients g c =
    let items : Vec ℕ Global → _ = λ v. v.items in
    basis_vectors (g.K.Ring.elements c.args.k.now) items c.basis.result.now c.basis.result.now
    c.in_ok-coefficients.coefficients (length c.args.self.now.basis) refl
    c.basis.ensures (sym (c.in_ok-coefficients.ensures.space.len
    ∙ sym (length-map c.deref.result.now items)
    ∙ ap (λ r. length (map items r)) c.deref.ensures.value
    ∙ ap (λ (t : SpaceParts). length t.basis) c.self.view_is))
    c.in_ok-coefficients.ensures.space.space

pub returns-clause-exact : goal.returns-clause-exact
returns-clause-exact g c =
    let K = g.K.Ring.elements c.args.k.now in
    let items : Vec ℕ Global → _ = λ v. v.items in
    let a = c.args.self.now in
    let b = c.args.b.now in
    ok_map (λ s. SameSpan K.ring (length s.basis) (vectors_of K s.basis) (length c.basis.result.now)
    (combinations_of K a.basis (map items c.basis.result.now)))
    (λ s. (v : ℕ → K.carrier) → InSpace K s v ↔ (InSpace K a v × InSpace K b v))
    c.combinations.result
    (meet_code K (g.met.K.Ring.laws c.args.k.now) items a b c.in_ok-coefficients.coefficients
    c.deref.result.now c.self.inside.basis.items c.basis.result.now c.deref.ensures.value
    (ap (λ (t : SpaceParts). t.basis) c.self.view_is) c.in_ok-coefficients.ensures.space.len
    c.in_ok-coefficients.ensures.exact c.basis.ensures)
    c.combinations.ensures.same
