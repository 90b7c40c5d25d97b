use Rattle.std.proofs.Common.{◌≡◌, ℕ, ◌-◌, ◌<◌, [], length, sym, ◌∙◌, ap, subst, arith}
use Rattle.std.proofs.Common.{Vec, Global}
use Rattle.std.proofs.lemmas.List.{get_or-map}
use Rattle.ff_theory.specs.Vector.{vector_of}
use Rattle.ff_theory.proofs.Results.{ok_map}
use Rattle.ff_order.specs.Steps.{IsPowerRow}
use Rattle.ff_order.proofs.FirstSpace.{row_len_is}
use Rattle.ff_order.proofs.Monomials.{first_power, long, row_long, some, after_row, after_block}
use Rattle.ff_order.proofs.NextSpace.{power_modulus, top_longer}
use Rattle.ff_order.proofs.images.power_row.Goals as goal

pub first_row-requires : goal.first_row-requires
first_row-requires g c =
    let F = g.K.Ring.elements c.args.alg.now.k in
    let L = g.K.Ring.lawful c.args.alg.now.k in
    let f = c.args.alg.now.f in
    let top = c.args.top.now in
    let rows = c.args.rows.now in
    let short = row_long F L f c.args.alg.now.plane c.args.alg.now.has_y c.args.chart rows.d top
    c.requires.rows.d c.coeffs.result.now c.coeffs.ensures (length c.args.list.now)
    c.requires.index in
    let more = top_longer F L f c.args.alg.now.plane c.args.alg.now.has_y c.args.chart rows
    c.requires.rows top c.requires.top_is in
    let size = row_len_is F L f c.args.alg.now.plane c.args.alg.now.has_y c.args.chart top
    c.requires.top in
    omega (arith, short, more, size)

pub returns-then-s-eq0-clause-value : goal.returns-then-s-eq0-clause-value
returns-then-s-eq0-clause-value g c =
    let F = g.K.Ring.elements c.args.alg.now.k in
    let L = g.K.Ring.lawful c.args.alg.now.k in
    let f = c.args.alg.now.f in
    let hf = c.args.alg.now.plane in
    let two = c.args.alg.now.has_y in
    let top = c.args.top.now in
    let rows = c.args.rows.now in
    let s = length c.args.list.now in
    let e : 0 ≡ s = omega (arith, c.if-s-eq0.true) in
    let short = row_long F L f hf two c.args.chart rows.d top c.requires.rows.d
    c.coeffs.result.now c.coeffs.ensures s c.requires.index in
    let more = top_longer F L f hf two c.args.chart rows c.requires.rows top c.requires.top_is in
    ok_map _ _ c.first_row.result
    (λ r h. subst (λ s. IsPowerRow L f c.args.chart rows.d top s (vector_of F r.items)) e
    (first_power F L f hf two c.args.chart rows.d top
    (some F L f hf two c.args.chart rows.d top c.requires.rows.d c.coeffs.result.now
    c.coeffs.ensures s c.requires.index) short (omega (arith, short, more)) (vector_of F r.items)
    h)) c.first_row.ensures.value

pub next_row-requires-clause-modulus :
    goal.next_row-requires-clause-modulus
next_row-requires-clause-modulus g c =
    power_modulus (g.K.Ring.elements c.args.alg.now.k) (g.K.Ring.lawful c.args.alg.now.k)
    c.args.alg.now.f c.args.alg.now.plane c.args.alg.now.has_y c.args.chart c.args.rows.now
    c.requires.rows c.args.top.now c.requires.top_is

pub next_row-requires-else-s-l-eq0-clause-modulus :
    goal.next_row-requires-else-s-l-eq0-clause-modulus
next_row-requires-else-s-l-eq0-clause-modulus g c =
    power_modulus (g.K.Ring.elements c.args.alg.now.k) (g.K.Ring.lawful c.args.alg.now.k)
    c.args.alg.now.f c.args.alg.now.plane c.args.alg.now.has_y c.args.chart c.args.rows.now
    c.requires.rows c.args.top.now c.requires.top_is

pub returns-then-s-l-eq0-clause-value : goal.returns-then-s-l-eq0-clause-value
returns-then-s-l-eq0-clause-value g c =
    let F = g.K.Ring.elements c.args.alg.now.k in
    let L = g.K.Ring.lawful c.args.alg.now.k in
    let f = c.args.alg.now.f in
    let hf = c.args.alg.now.plane in
    let two = c.args.alg.now.has_y in
    let items : Vec ℕ Global → _ = λ v. v.items in
    let top = c.args.top.now in
    let d = c.args.rows.now.d in
    let list = c.args.list.now in
    let s = length list in
    let e = c.coeffs.result.now in
    let positive : 0 < s = omega (arith, c.if-s-eq0.false) in
    let wide = long F L f hf two c.args.chart d top c.requires.rows.d e c.coeffs.ensures s
    c.requires.index in
    let at = s - (length e - 1) in
    let below : at < s = omega (arith, positive, wide) in
    let before = subst (λ t. IsPowerRow L f c.args.chart d top at (vector_of F t))
    (sym (c.deref.ensures.value ∙ ap items c.index-list-s.is
    ∙ sym (get_or-map items list at c.index-list-s.result [] below))) (c.requires.powers at below)
    in
    ok_map _ _ c.next_row.result
    (λ r h. after_block F L f hf two c.args.chart d top c.requires.rows.d e c.coeffs.ensures s
    c.requires.index c.args.variables.now.1 (vector_of F c.deref.result.now) (vector_of F r.items) h
    c.requires.theta_is c.if-s-l-eq0.true positive before)
    c.next_row.ensures.value

pub returns-else-s-l-eq0-clause-value : goal.returns-else-s-l-eq0-clause-value
returns-else-s-l-eq0-clause-value g c =
    let F = g.K.Ring.elements c.args.alg.now.k in
    let L = g.K.Ring.lawful c.args.alg.now.k in
    let f = c.args.alg.now.f in
    let hf = c.args.alg.now.plane in
    let two = c.args.alg.now.has_y in
    let items : Vec ℕ Global → _ = λ v. v.items in
    let top = c.args.top.now in
    let d = c.args.rows.now.d in
    let list = c.args.list.now in
    let s = length list in
    let e = c.coeffs.result.now in
    let positive : 0 < s = omega (arith, c.if-s-eq0.false) in
    let wide = long F L f hf two c.args.chart d top c.requires.rows.d e c.coeffs.ensures s
    c.requires.index in
    let at = s - 1 in
    let below : at < s = omega (arith, positive, wide) in
    let before = subst (λ t. IsPowerRow L f c.args.chart d top at (vector_of F t))
    (sym (c.deref-else-s-l-eq0.ensures.value ∙ ap items c.index-list-s-else-s-l-eq0.is
    ∙ sym (get_or-map items list at c.index-list-s-else-s-l-eq0.result [] below)))
    (c.requires.powers at below) in
    ok_map _ _ c.next_row-else-s-l-eq0.result
    (λ r h. after_row F L f hf two c.args.chart d top c.requires.rows.d e c.coeffs.ensures s
    c.requires.index c.args.variables.now.0 (vector_of F c.deref-else-s-l-eq0.result.now)
    (vector_of F r.items) h
    c.requires.u_is c.if-s-l-eq0.false before)
    c.next_row-else-s-l-eq0.ensures.value
