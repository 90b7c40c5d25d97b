use Rattle.std.proofs.Common.{◌≡◌, suc, ◌-◌, length, ap, arith}
use Rattle.ff_theory.specs.Values.{poly_of, polys_over}
use Rattle.ff_theory.proofs.Poly.{polynomial_laws, polynomial_tests}
use Rattle.ff_elem.proofs.Quotients.{fraction-value}
use Rattle.ff_elem.proofs.ZeroLemmas.{zeros-length, zeros-value}
use Rattle.ff_elem.proofs.algebra.Alg.fraction.Goals as goal

pub returns-clause-element : goal.returns-clause-element
returns-clause-element g c =
    let F = g.K.Ring.elements c.args.self.now.k in
    let L = g.K.Ring.lawful c.args.self.now.k in
    let f = c.args.self.now.f in
    let n = length f - 1 in
    let num = c.push_zero_rows.new.rows.items in
    let zeros = c.in_ok-push_zero_rows.ensures.zeros in
    let long : length f ≡ suc n = omega (arith, c.requires.small) in
    let len : length num ≡ n = omega (
      arith,
      zeros-length (polys_over F) (polynomial_laws F.ring L.laws L.tests)
          (polynomial_tests F.ring L.laws L.tests) (poly_of F) c.args.rows.items num _ zeros,
      ap
          length c.rows.ensures,
      c.requires.small,
    ) in
    let h = c.in_ok-element.ensures in
    record {
      den = h.den;
      num = h.num;
      lowest = (fraction-value F L f n c.args.rows.items num c.args.den c.in_ok-element.element
          c.args.self.now.plane long c.requires.den c.requires.nonzero
          len (zeros-value (polys_over F) (polynomial_laws F.ring L.laws L.tests)
          (polynomial_tests F.ring L.laws L.tests) (poly_of F) c.args.rows.items num _ zeros)
          h.lowest h.equal).0;
    }

pub returns-clause-value : goal.returns-clause-value
returns-clause-value g c =
    let F = g.K.Ring.elements c.args.self.now.k in
    let L = g.K.Ring.lawful c.args.self.now.k in
    let f = c.args.self.now.f in
    let n = length f - 1 in
    let num = c.push_zero_rows.new.rows.items in
    let zeros = c.in_ok-push_zero_rows.ensures.zeros in
    let long : length f ≡ suc n = omega (arith, c.requires.small) in
    let len : length num ≡ n = omega (
      arith,
      zeros-length (polys_over F) (polynomial_laws F.ring L.laws L.tests)
          (polynomial_tests F.ring L.laws L.tests) (poly_of F) c.args.rows.items num _ zeros,
      ap
          length c.rows.ensures,
      c.requires.small,
    ) in
    let h = c.in_ok-element.ensures in
    (fraction-value F L f n c.args.rows.items num c.args.den c.in_ok-element.element
    c.args.self.now.plane long c.requires.den c.requires.nonzero
    len (zeros-value (polys_over F) (polynomial_laws F.ring L.laws L.tests)
    (polynomial_tests F.ring L.laws L.tests) (poly_of F) c.args.rows.items num _ zeros) h.lowest
    h.equal).1
