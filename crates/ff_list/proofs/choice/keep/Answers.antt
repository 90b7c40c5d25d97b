use Rattle.std.proofs.Common.{sym, subst}
use Rattle.ff_data.specs.Pairs.{IsPair}
use Rattle.ff_data.specs.Systems.{HasForm}
use Rattle.ff_list.proofs.choice.keep.Goals as goal

pub back-requires : goal.back-requires
back-requires g c =
    let h = c.requires.systems in
    let s = c.args.known.now.start.system in
    record {
      field = c.requires.field;
      first = subst (λ k. HasForm (g.K.Ring.lawful k) c.args.alg1.now.f s)
          (sym c.requires.field) h.known.system.form;
      second = h.system.form;
      alike = h.alike;
      candidate = c.requires.candidate;
    }

pub keep_entry-requires : goal.keep_entry-requires
keep_entry-requires g c =
    let L = g.K.Ring.lawful c.args.alg2.now.k in
    record {
      field = c.requires.field;
      pair = subst (λ e. IsPair L c.args.alg2.now.f e.pair) (sym c.entry_of.ensures)
          c.requires.candidate.pair;
      back = subst (λ e. IsPair L c.args.alg1.now.f e.back) (sym c.entry_of.ensures)
          (subst (λ k. IsPair (g.K.Ring.lawful k) c.args.alg1.now.f c.in-Ok.back)
          c.requires.field c.in-Ok.ensures);
      list = c.requires.list;
    }
