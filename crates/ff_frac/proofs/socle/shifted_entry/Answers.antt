use Rattle.std.proofs.Common.{◌≡◌, ℕ, [], length, get_or, sym, ◌∙◌, ap, subst, arith, Vec, Global}
use Rattle.std.proofs.lemmas.List.{get_or-map}
use Rattle.ff_theory.specs.Vector.{vector_of, IsVector}
use Rattle.ff_lin.specs.Space.{rows_of}
use Rattle.ff_frac.specs.Socle.{shifted_value}
use Rattle.ff_frac.proofs.socle.shifted_entry.Goals as goal

pub shifted-requires : goal.shifted-requires
shifted-requires g c =
    let F = g.K.Ring.elements c.args.k.now in
    let n = length c.args.matrix.now in
    let row = subst (λ (v : Vec ℕ Global). IsVector F n v.items) (sym c.index-matrix-j.is)
    (c.requires.matrix c.args.j c.index-matrix-j.result c.requires.row) in
    let v = subst (IsVector F n) (sym c.deref.ensures.value) row in
    record {
      row = v.each;
      chi = c.requires.chi;
      index = omega (arith, v.len, c.requires.index);
    }

pub returns-clause-value : goal.returns-clause-value
returns-clause-value g c =
    let F = g.K.Ring.elements c.args.k.now in
    let items = λ (r : Vec ℕ Global). r.items in
    let m = c.args.matrix.now in
    let row : get_or (rows_of m) c.args.j [] ≡ c.deref.result.now =
    get_or-map items m c.args.j c.index-matrix-j.result [] c.requires.row
    ∙ sym (c.deref.ensures.value ∙ ap items c.index-matrix-j.is) in
    c.shifted.ensures.value ∙ ap (λ r. shifted_value F (vector_of F r c.args.l)
    (F.value c.args.chi) c.args.is_own) (sym row)
