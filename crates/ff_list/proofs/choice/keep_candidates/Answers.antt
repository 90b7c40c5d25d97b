use Rattle.std.proofs.Common.{All, sym, subst}
use Rattle.ff_data.specs.Systems.{HasForm}
use Rattle.ff_ring.specs.Ring.{HasTable}
use Rattle.ff_forms.specs.Forms.{HasCandidateForm}
use Rattle.ff_list.proofs.choice.keep_candidates.Goals as goal

pub candidates-requires : goal.candidates-requires
candidates-requires g c =
    let h = c.requires.systems in
    let f = c.args.alg1.now.f in
    let s = c.args.known.now.start.system in
    record {
      field = c.requires.field;
      form1 = subst (λ k. HasForm (g.K.Ring.lawful k) f s) (sym c.requires.field)
          h.known.system.form;
      table1 = subst (λ k. HasTable (g.K.Ring.elements k) s) (sym c.requires.field)
          h.known.system.table;
      form2 = h.system.form;
      table2 = h.system.table;
      alike = h.alike;
      relation = h.known.relation;
      alpha = c.requires.choice.alpha;
      nonzero = c.requires.choice.nonzero;
      beta = c.requires.choice.beta;
      roots = c.requires.roots;
    }

pub keep_each-requires : goal.keep_each-requires
keep_each-requires g c =
    let L = g.K.Ring.lawful c.args.alg2.now.k in
    record {
      field = c.requires.field;
      systems = c.requires.systems;
      candidates = subst (All (HasCandidateForm L c.args.alg2.now.f c.args.s2.now))
          (sym c.found.view_is) c.in_ok-found.ensures.forms;
      list = c.requires.list;
    }
