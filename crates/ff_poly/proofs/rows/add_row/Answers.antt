use Rattle.std.proofs.Common.{◌≡◌, ◌+◌, ◌-◌, length, map, refl, sym, ◌∙◌, ap, ap₂, subst, arith}
use Rattle.std.proofs.Common.{All}
use Rattle.ff_theory.specs.Ring.{IsElement}
use Rattle.ff_theory.specs.Poly.{polynomials, coeff}
use Rattle.ff_theory.specs.Sum.{sum_below}
use Rattle.ff_theory.proofs.Poly.{polynomial_laws}
use Rattle.ff_theory.specs.Values.{poly_of}
use Rattle.ff_poly.proofs.RowLists.{row-length, row-each, product-step}
use Rattle.ff_poly.proofs.rows.add_row.Goals as goal

pub add_product-requires-clause-a : goal.add_product-requires-clause-a
add_product-requires-clause-a g c =
    let K = g.K.Ring.elements c.args.k.now in
    subst (All (IsElement K)) (sym c.row.ensures) (row-each K c.args.a.now c.loop-j.j c.requires.a)

pub add_product-requires-clause-b : goal.add_product-requires-clause-b
add_product-requires-clause-b g c =
    let K = g.K.Ring.elements c.args.k.now in
    subst (All (IsElement K)) (sym c.row-in-loop-j.ensures)
    (row-each K c.args.b.now (c.args.i - c.loop-j.j) c.requires.b)

pub add_product-requires-clause-room : goal.add_product-requires-clause-room
add_product-requires-clause-room g c =
    let a = row-length c.args.a.now c.loop-j.j in
    let b = row-length c.args.b.now (c.args.i - c.loop-j.j) in
    omega (
      arith,
      a,
      b,
      ap length c.row.ensures,
      ap length c.row-in-loop-j.ensures,
      c.requires.room,
      c.loop-j.invariant.len,
    )

pub loop-j-init : goal.loop-j-init
loop-j-init g c =
    let K = g.K.Ring.elements c.args.k.now in
    record {
      len = refl;
      each = c.requires.sum;
      value = sym ((polynomial_laws K.ring (g.met.K.Ring.laws c.args.k.now)
          (g.met.K.Ring.tests c.args.k.now)).add_zero (poly_of K c.args.sum.now));
    }

pub loop-j-preserved : goal.loop-j-preserved
loop-j-preserved g c =
    let K = g.K.Ring.elements c.args.k.now in
    record {
      len = c.add_product.ensures.len ∙ c.loop-j.invariant.len;
      each = c.add_product.ensures.each;
      value = product-step K (g.met.K.Ring.laws c.args.k.now) (g.met.K.Ring.tests c.args.k.now)
          c.args.a.now c.args.b.now c.args.i c.loop-j.j (c.loop-j.j + 1) c.args.sum.now c.loop-j.sum
          c.add_product.new.sum (omega arith)
          (c.add_product.ensures.value ∙ ap₂ (λ a b. (polynomials K.ring).add
          (poly_of K c.loop-j.sum) ((polynomials K.ring).mul (poly_of K a) (poly_of K b)))
          c.row.ensures c.row-in-loop-j.ensures) c.loop-j.invariant.value;
    }

pub returns-clause-value : goal.returns-clause-value
returns-clause-value g c =
    let K = g.K.Ring.elements c.args.k.now in
    let end : c.loop-j.j ≡ c.args.i + 1 = omega arith in
    c.loop-j.invariant.value
    ∙ ap (λ n. (polynomials K.ring).add (poly_of K c.args.sum.now)
    (sum_below (polynomials K.ring) n (λ j. (polynomials K.ring).mul
    (coeff (polynomials K.ring) (map (λ p. poly_of K p) c.args.a.now) j)
    (coeff (polynomials K.ring) (map (λ p. poly_of K p) c.args.b.now) (c.args.i - j))))) end
