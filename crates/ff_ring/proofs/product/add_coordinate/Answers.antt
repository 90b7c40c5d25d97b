use Rattle.std.proofs.Common.{◌≡◌, ◌+◌, length, refl, sym, ◌∙◌, ap, subst, arith, All, get_or, []}
use Rattle.ff_theory.specs.Ring.{IsElement}
use Rattle.ff_theory.specs.Sum.{sum_below}
use Rattle.ff_theory.specs.Values.{poly_of, polys_over}
use Rattle.ff_theory.proofs.Poly.{polynomial_laws}
use Rattle.ff_poly.proofs.RowLists.{row-each}
use Rattle.ff_ring.specs.Entries.{entry_at}
use Rattle.ff_ring.proofs.ProductLemmas.{each-entry, room-entry, product-step}
use Rattle.ff_ring.proofs.product.add_coordinate.Goals as goal

pub add_product-requires : goal.add_product-requires
add_product-requires g c =
    let F = g.K.Ring.elements c.args.k.now in
    let L = g.K.Ring.lawful c.args.k.now in
    let j = c.loop-j.j in
    let l = c.args.l in
    let room = room-entry F L c.args.products.now c.args.y.now j l (length c.args.sum.now + 1)
    (omega (arith, c.loop-j-test.true, c.requires.count)) c.requires.room in
    record {
      sum = c.loop-j.invariant.each;
      a = subst (All (IsElement F)) (sym c.row.ensures) (row-each F c.args.y.now j c.requires.y);
      b = subst (All (IsElement F)) (sym c.entry.ensures)
          (each-entry F L c.args.products.now j l c.requires.products);
      room = omega (
        arith,
        room,
        ap length c.row.ensures,
        ap length c.entry.ensures,
        c.loop-j.invariant.len,
      );
    }

pub loop-j-init : goal.loop-j-init
loop-j-init g c =
    let F = g.K.Ring.elements c.args.k.now in
    let L = g.K.Ring.lawful c.args.k.now in
    record {
      len = refl;
      each = c.requires.sum;
      value = sym ((polynomial_laws F.ring L.laws L.tests).add_zero (poly_of F c.args.sum.now));
    }

pub loop-j-preserved : goal.loop-j-preserved
loop-j-preserved g c =
    let F = g.K.Ring.elements c.args.k.now in
    let L = g.K.Ring.lawful c.args.k.now in
    record {
      len = c.add_product.ensures.len ∙ c.loop-j.invariant.len;
      each = c.add_product.ensures.each;
      value = product-step F L c.args.products.now c.args.y.now c.args.l c.loop-j.j
          (c.loop-j.j + 1) c.args.sum.now c.loop-j.sum c.add_product.new.sum c.row.result.now
          c.entry.result.now (omega arith) c.row.ensures c.entry.ensures
          c.add_product.ensures.value c.loop-j.invariant.value;
    }

pub returns-clause-value : goal.returns-clause-value
returns-clause-value g c =
    let F = g.K.Ring.elements c.args.k.now in
    let P = polys_over F in
    let end : c.loop-j.j ≡ length c.args.y.now =
    omega (arith, c.loop-j-test.false, c.loop-j.auto.j-end) in
    c.loop-j.invariant.value ∙ ap (λ n. P.add (poly_of F c.args.sum.now) (sum_below P n (λ j.
    P.mul (entry_at F c.args.y.now j) (entry_at F (get_or c.args.products.now j []) c.args.l)))) end
