use Rattle.std.proofs.Common.{sym, subst, arith}
use Rattle.ff_fibre.specs.Fibres.{HasFibreForm, IsFibreAt}
use Rattle.ff_fibre.proofs.Equations.{tabled_form, tabled_basis, tabled_entry}
use Rattle.ff_fibre.proofs.products.fibre_at.Goals as goal

pub table_of-requires : goal.table_of-requires
table_of-requires g c = record {
  order = c.requires.order;
  fibre = c.in_ok-basis.ensures.form;
  equation = c.in_ok-equation.ensures.plane;
  equation_is = c.in_ok-equation.ensures.value;
}

pub returns-clause-form : goal.returns-clause-form
returns-clause-form g c =
    let F = g.K.Ring.elements c.args.alg.now.k in
    let L = g.K.Ring.lawful c.args.alg.now.k in
    let f = c.args.alg.now.f in
    let s = c.in_ok-basis.basis in
    subst (HasFibreForm L f) (sym c.with_table.ensures) (record {
      basis = tabled_form F L f c.args.order.now s c.in_ok-table.table c.in_ok-basis.ensures.form;
      table = c.in_ok-table.ensures.table;
    })

pub returns-clause-fibre : goal.returns-clause-fibre
returns-clause-fibre g c =
    let F = g.K.Ring.elements c.args.alg.now.k in
    let L = g.K.Ring.lawful c.args.alg.now.k in
    let f = c.args.alg.now.f in
    let o = c.args.order.now in
    let a = F.value c.args.a in
    let s = c.in_ok-basis.basis in
    let t = c.in_ok-table.table in
    let k = c.in_ok-table.ensures in
    subst (IsFibreAt L f o a) (sym c.with_table.ensures) (record {
      basis = tabled_basis F L f o a s t c.in_ok-basis.ensures;
      table = k.table;
      products = λ i l j q. tabled_entry F L f o s t i j _
          (k.value i (omega (arith, l, k.table.count)) j q);
    })
