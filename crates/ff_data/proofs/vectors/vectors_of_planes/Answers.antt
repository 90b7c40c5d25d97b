use Rattle.std.proofs.Common.{◌≡◌, ℕ, ◌*◌, ◌∙◌, length, get_or, [], sym, ap, subst, arith}
use Rattle.std.specs.Global.{Vec}
use Rattle.std.proofs.lemmas.List.{get_or_default, length-map}
use Rattle.ff_theory.specs.Values.{plane_of, x_size}
use Rattle.ff_theory.specs.Vector.{vector_of, IsVector}
use Rattle.ff_charts.specs.Lattice.{flat}
use Rattle.ff_lin.specs.Space.{AreVectors}
use Rattle.ff_elem.proofs.RowLemmas.{pushed-length, pushed-each}
use Rattle.ff_data.specs.Vectors.{IsPlaneWithin}
use Rattle.ff_data.proofs.ListLemmas.{pushed-at, held-at}
use Rattle.ff_data.proofs.VectorLemmas.{shape-of}
use Rattle.ff_data.proofs.vectors.vectors_of_planes.Goals as goal

pub vector_of_plane-requires : goal.vector_of_plane-requires
vector_of_plane-requires g c =
    let K = g.K.Ring.elements c.args.k.now in
    let L = g.K.Ring.lawful c.args.k.now in
    let a = c.a-item.result in
    let i = c.loop-a.a-index in
    let h : IsPlaneWithin K c.args.n a = subst (IsPlaneWithin K c.args.n) (sym c.a-item.is)
    (c.requires i a c.loop-a-test.true) in
    record {
      a = h.plane;
      shape = shape-of K L a c.args.n c.width_of-l.result h.few
          (let w = c.width_of-l.ensures i a c.loop-a-test.true in
          omega (arith, w, ap x_size c.a-item.is));
    }

pub loop-a-init : goal.loop-a-init
loop-a-init g c =
    let e = ap length c.in_ok-vectors.ensures.items in
    record {
      count = e;
      vectors = λ k d h. absurd (omega (arith, h, e));
      value = λ d j h. absurd (omega (arith, h));
    }

pub loop-a-preserved : goal.loop-a-preserved
loop-a-preserved g c =
    let K = g.K.Ring.elements c.args.k.now in
    let h = c.loop-a.invariant in
    let i = c.loop-a.a-index in
    let l = c.width_of-l.result in
    let xs = c.loop-a.vectors.items in
    let ys = c.push.new.self.items in
    let x = c.in_ok-vector_of_plane.field-0 in
    let e = c.in_ok-push.ensures.items in
    let d = c.in_ok-vector_of_plane.ensures in
    record {
      count = pushed-length xs x ys i e h.count;
      vectors = pushed-each (λ (v : Vec ℕ). IsVector K (c.args.n * l) v.items) xs x ys e h.vectors
          d.vector;
      value = λ v. pushed-at (λ j (u : Vec ℕ). (t : ℕ) → vector_of K u.items t
          ≡ flat K.ring l (plane_of K (get_or c.args.planes.now j [])) t) v xs x ys i e h.count
          (h.value v) (λ t. d.value t ∙ ap (λ a. flat K.ring l (plane_of K a) t) (c.a-item.is
          ∙ get_or_default c.args.planes.now i c.a-item.result [] c.loop-a-test.true));
    }

pub returns-in-Some-clause-vectors : goal.returns-in-Some-clause-vectors
returns-in-Some-clause-vectors g c =
    let K = g.K.Ring.elements c.args.k.now in
    subst (λ n. AreVectors K n c.loop-a.vectors.items) (sym c.in-Some.ensures.1)
    c.loop-a.invariant.vectors

pub returns-in-Some-clause-value : goal.returns-in-Some-clause-value
returns-in-Some-clause-value g c =
    let K = g.K.Ring.elements c.args.k.now in
    let L = g.K.Ring.lawful c.args.k.now in
    let h = c.loop-a.invariant in
    let l = c.width_of-l.result in
    let vs = c.loop-a.vectors.items in
    let whole : c.loop-a.a-index ≡ length c.args.planes.now = omega (
      arith,
      c.loop-a-test.false,
      c.loop-a.auto.a-index-end,
    ) in
    record {
      l = l;
      count = length-map vs (λ (v : Vec ℕ). v.items) ∙ h.count ∙ whole;
      shape = λ i q.
          let p = c.requires i [] q in
          shape-of K L (get_or c.args.planes.now i []) c.args.n l p.few
          (c.width_of-l.ensures i [] q);
      value = λ i j q. held-at (λ v. vector_of K v j
          ≡ flat K.ring l (plane_of K (get_or c.args.planes.now i [])) j) vs i
          (omega (arith, q, h.count, whole)) (λ d. h.value d i (omega (arith, q, whole)) j);
    }
