use Rattle.std.proofs.Common.{◌≡◌, ◌<◌, ◌==◌, ℕ, [], length, get_or, sym, ◌∙◌, ap, subst, arith}
use Rattle.std.proofs.Common.{Vec, Global, All}
use Rattle.std.proofs.lemmas.List.{get_or-map}
use Rattle.std.proofs.lemmas.List.Elements.{All-push}
use Rattle.ff_theory.specs.Ring.{IsElement}
use Rattle.ff_theory.specs.Vector.{vectors_of}
use Rattle.ff_lin.specs.Space.{rows_of, AreVectors}
use Rattle.ff_lin.proofs.Entries.{entry}
use Rattle.ff_characters.specs.Characters.{IsMatrix, tables_of}
use Rattle.ff_data.proofs.ListLemmas.{pushed-at}
use Rattle.ff_frac.specs.Socle.{shifted_value, shifted_entry_at}
use Rattle.ff_frac.proofs.socle.shifted_row.Goals as goal

pub shifted_entry-requires : goal.shifted_entry-requires
shifted_entry-requires g c =
    let F = g.K.Ring.elements c.args.k.now in
    let n = length c.args.table.now in
    let m = subst (IsMatrix F n) (sym c.index-table-i.is)
    (c.requires.table.each c.loop-i.i c.index-table-i.result c.loop-i-test.true) in
    let e = c.deref.ensures.value in
    let len : n ≡ length c.deref.result.now = sym m.count ∙ ap length (sym e) in
    record {
      matrix = subst (λ n. AreVectors F n c.deref.result.now) len
          (subst (AreVectors F n) (sym e) m.rows);
      chi = c.requires.chi;
      row = subst (λ n. c.args.j < n) len c.requires.row;
      index = subst (λ n. c.args.l < n) len c.requires.index;
    }

pub loop-i-preserved : goal.loop-i-preserved
loop-i-preserved g c =
    let F = g.K.Ring.elements c.args.k.now in
    let rows = λ (m : Vec (Vec ℕ Global) Global). rows_of m.items in
    let table = c.args.table.now in
    let chi = F.value c.args.chi in
    let i = c.loop-i.i in
    let old = c.loop-i.row.items in
    let v = c.shifted_entry.result in
    let e = c.in_ok-push.ensures.items in
    let h = c.loop-i.invariant in
    let matrix : get_or (tables_of table) i [] ≡ rows_of c.deref.result.now =
    get_or-map rows table i c.index-table-i.result [] c.loop-i-test.true
    ∙ sym (ap rows_of c.deref.ensures.value ∙ ap rows c.index-table-i.is) in
    record {
      vector = record {
        each = subst (All (IsElement F)) (sym e) (All-push (IsElement F) old v h.vector.each
            c.shifted_entry.ensures.element);
        len = omega (arith, c.in_ok-push.ensures.len, h.vector.len);
      };
      value = pushed-at (λ t x. F.value x ≡ shifted_entry_at F (length table) (tables_of table) chi
          c.args.j c.args.l t) 0 old v _ i e h.vector.len h.value
          (c.shifted_entry.ensures.value ∙ ap (λ m. shifted_value F
          (vectors_of F m c.args.j c.args.l) chi (i == c.args.l)) (sym matrix));
    }

pub returns : goal.returns
returns g c =
    let F = g.K.Ring.elements c.args.k.now in
    let h = c.loop-i.invariant in
    let n : c.loop-i.i ≡ length c.args.table.now = omega (
      arith,
      c.loop-i-test.false,
      c.loop-i.auto.i-end,
    ) in
    record {
      vector = record { each = h.vector.each; len = h.vector.len ∙ n };
      value = λ t q. entry F c.loop-i.row.items t (omega (arith, q, h.vector.len, n))
          ∙ h.value t (omega (arith, q, n));
    }
