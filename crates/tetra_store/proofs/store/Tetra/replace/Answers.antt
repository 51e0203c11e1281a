-- The four steps of `replace` are together what it promises.
--
-- The cells over the fan are put in and joined (grow), they become the kept cells of their vertices (keep_new), kept cells
-- that were among the old ones become others (mend), and the old cells are taken out. What each has left is read off its
-- contract: kept1 and kept2 are the kept cells behind the second and the third step, which were written through a borrowed
-- list (items_written). The rest are lemmas on stores: can_grow and can_mend for what the steps ask for, store_again for the
-- invariant, replaced_now and first_new for the clauses, and the room by arithmetic (spare_left).
use Rattle.std.proofs.Common.{ℕ, ◌≡◌, ◌<◌, ◌≤◌, ◌+◌, List, ◌++◌, take, drop, length, ap, sym, ◌∙◌, subst, arith, slice_index}
use Rattle.std.proofs.Common.{vec_capacity, true}
use Rattle.std.proofs.Math.ListN.{set}
use Rattle.std.proofs.lemmas.List.{get_or_default}
use Rattle.geo_sign.specs.Tetrahedron.{vertex_of}
use Rattle.slab.specs.Slab.{slab_len}
use Rattle.tetra_store.specs.Links.{links_of, IsLive}
use Rattle.tetra_store.specs.Store.{Store, IsStore, store_from, spare_room}
use Rattle.tetra_store.specs.Fan.{CanReplace, IsReplaced, IsOver}
use Rattle.tetra_store.specs.Steps.{AreKeptNew, AreMended}
use Rattle.tetra_store.proofs.Room.{has_room, spare_left}
use Rattle.tetra_store.proofs.Asked.{can_grow, over_below}
use Rattle.tetra_store.proofs.Replaced.{can_mend, items_written, store_again, replaced_now, first_new}
use Rattle.tetra_store.proofs.store.Tetra.replace.Goals as goal

pub grow-requires-clause-can : goal.grow-requires-clause-can
grow-requires-clause-can c =
    let i = c.self.inside in
    let s : Store =
    store_from i.points.items i.inserted.items i.cells i.kept.items (vec_capacity i.ids) (vec_capacity i.edges) in
    let can : CanReplace s c.args.old.now c.args.fan.now c.args.p =
    subst (λ (t : Store). CanReplace t c.args.old.now c.args.fan.now c.args.p) (sym c.self.view_is) c.requires in
    let room =
    has_room i.cells.capacity (slab_len i.cells) (vec_capacity i.ids) (vec_capacity i.edges) (length c.args.fan.now)
    can.some_facet can.room in
    let slots : length i.cells.slots ≤ i.cells.capacity =
    omega (arith, c.capacity-most.ensures.slots, c.capacity-most.ensures.value) in
    can_grow s c.args.old.now c.args.fan.now c.args.p c.self.invariant can i.cells.capacity slots room.few

pub keep_new-requires-clause-vertices : goal.keep_new-requires-clause-vertices
keep_new-requires-clause-vertices c =
    let i = c.self.inside in
    let s : Store =
    store_from i.points.items i.inserted.items i.cells i.kept.items (vec_capacity i.ids) (vec_capacity i.edges) in
    let can : CanReplace s c.args.old.now c.args.fan.now c.args.p =
    subst (λ (t : Store). CanReplace t c.args.old.now c.args.fan.now c.args.p) (sym c.self.view_is) c.requires in
    λ k m l n. let b = over_below s c.args.old.now c.args.fan.now c.args.p c.self.invariant can k m l n in
    let e = ap length c.deref_mut.ensures.value in
    omega arith

pub mend-requires-clause-held : goal.mend-requires-clause-held
mend-requires-clause-held c =
    let i = c.self.inside in
    let s : Store =
    store_from i.points.items i.inserted.items i.cells i.kept.items (vec_capacity i.ids) (vec_capacity i.edges) in
    let can : CanReplace s c.args.old.now c.args.fan.now c.args.p =
    subst (λ (t : Store). CanReplace t c.args.old.now c.args.fan.now c.args.p) (sym c.self.view_is) c.requires in
    let fan = c.args.fan.now in
    let ids = c.grow.new.ids.items in
    let kept1 = c.keep_new.new.kept in
    let keeps : AreKeptNew i.kept.items kept1 fan ids c.args.p (length fan) =
    subst (λ (z : List ℕ). AreKeptNew z kept1 fan ids c.args.p (length fan)) c.deref_mut.ensures.value
    (subst (λ (z : List ℕ). AreKeptNew c.deref_mut.result.now kept1 fan z c.args.p (length fan)) c.deref.ensures.value
    c.keep_new.ensures) in
    let n : length kept1 ≡ i.kept.len = omega (arith, keeps.count, i.kept.ok.0) in
    let same : c.deref_mut-2.result.now ≡ kept1 = c.deref_mut-2.ensures.value ∙ items_written i.kept.len kept1 i.kept.items n in
    λ id k h l e.
    can_mend s c.args.old.now fan c.args.p c.self.invariant can c.grow.new.cells.slots ids kept1 c.grow.ensures.grown
    c.grow.ensures.count keeps id k h l
    (subst (λ (z : List ℕ). slice_index z (vertex_of ((links_of c.grow.new.cells.slots).at id) k) ≡ id) same e)

pub invariant_of-self : goal.invariant_of-self
invariant_of-self c =
    let i = c.self.inside in
    let s : Store =
    store_from i.points.items i.inserted.items i.cells i.kept.items (vec_capacity i.ids) (vec_capacity i.edges) in
    let old = c.args.old.now in
    let fan = c.args.fan.now in
    let p = c.args.p in
    let can : CanReplace s old fan p = subst (λ (t : Store). CanReplace t old fan p) (sym c.self.view_is) c.requires in
    let ids = c.grow.new.ids.items in
    let kept1 = c.keep_new.new.kept in
    let kept2 = c.mend.new.kept in
    let links1 = links_of c.grow.new.cells.slots in
    let keeps : AreKeptNew i.kept.items kept1 fan ids p (length fan) =
    subst (λ (z : List ℕ). AreKeptNew z kept1 fan ids p (length fan)) c.deref_mut.ensures.value
    (subst (λ (z : List ℕ). AreKeptNew c.deref_mut.result.now kept1 fan z p (length fan)) c.deref.ensures.value
    c.keep_new.ensures) in
    let n1 : length kept1 ≡ i.kept.len = omega (arith, keeps.count, i.kept.ok.0) in
    let same : c.deref_mut-2.result.now ≡ kept1 =
    c.deref_mut-2.ensures.value ∙ items_written i.kept.len kept1 i.kept.items n1 in
    let mends : AreMended links1 old kept1 kept2 (length old) =
    subst (λ (z : List ℕ). AreMended links1 old z kept2 (length old)) same c.mend.ensures in
    let n2 : length kept2 ≡ i.kept.len = mends.count ∙ n1 in
    let spare =
    spare_room c.take_out.new.cells.capacity (slab_len c.take_out.new.cells) (vec_capacity c.grow.new.ids)
    (vec_capacity c.grow.new.edges) in
    let again =
    store_again s old fan p c.self.invariant can c.grow.new.cells.slots ids kept1 c.grow.ensures.grown c.grow.ensures.count
    keeps c.take_out.new.cells.slots kept2 mends c.take_out.ensures.out spare c.take_out.new.cells.capacity in
    let here : List ℕ → Store = λ z. record {
      points = i.points.items;
      inserted = set i.inserted.items p true;
      slots = c.take_out.new.cells.slots;
      kept = z;
      spare = spare;
      capacity = c.take_out.new.cells.capacity;
    } in
    subst (λ (z : List ℕ). IsStore (here z))
    (sym (items_written i.kept.len kept2 (take i.kept.len (kept1 ++ drop (length kept1) i.kept.items)) n2)) again

pub returns : goal.returns
returns c =
    let i = c.self.inside in
    let s : Store =
    store_from i.points.items i.inserted.items i.cells i.kept.items (vec_capacity i.ids) (vec_capacity i.edges) in
    let old = c.args.old.now in
    let fan = c.args.fan.now in
    let p = c.args.p in
    let can : CanReplace s old fan p = subst (λ (t : Store). CanReplace t old fan p) (sym c.self.view_is) c.requires in
    let ids = c.grow.new.ids.items in
    let kept1 = c.keep_new.new.kept in
    let kept2 = c.mend.new.kept in
    let links1 = links_of c.grow.new.cells.slots in
    let keeps : AreKeptNew i.kept.items kept1 fan ids p (length fan) =
    subst (λ (z : List ℕ). AreKeptNew z kept1 fan ids p (length fan)) c.deref_mut.ensures.value
    (subst (λ (z : List ℕ). AreKeptNew c.deref_mut.result.now kept1 fan z p (length fan)) c.deref.ensures.value
    c.keep_new.ensures) in
    let n1 : length kept1 ≡ i.kept.len = omega (arith, keeps.count, i.kept.ok.0) in
    let same : c.deref_mut-2.result.now ≡ kept1 =
    c.deref_mut-2.ensures.value ∙ items_written i.kept.len kept1 i.kept.items n1 in
    let mends : AreMended links1 old kept1 kept2 (length old) =
    subst (λ (z : List ℕ). AreMended links1 old z kept2 (length old)) same c.mend.ensures in
    let n2 : length kept2 ≡ i.kept.len = mends.count ∙ n1 in
    let count = slab_len c.take_out.new.cells in
    let spare = spare_room c.take_out.new.cells.capacity count (vec_capacity c.grow.new.ids) (vec_capacity c.grow.new.edges) in
    let fewer : count ≤ slab_len i.cells + length fan = omega (arith, c.take_out.ensures.len, c.grow.ensures.len) in
    let left =
    spare_left i.cells.capacity (slab_len i.cells) count (vec_capacity i.ids) (vec_capacity i.edges) (length fan) fewer in
    let cap : i.cells.capacity ≡ c.take_out.new.cells.capacity = sym (c.take_out.ensures.capacity ∙ c.grow.ensures.capacity) in
    let spares : s.spare ≤ spare + length fan =
    subst (λ (z : ℕ). s.spare ≤ spare_room z count (vec_capacity c.grow.new.ids) (vec_capacity c.grow.new.edges) + length fan) cap
    (subst (λ (z : ℕ). s.spare ≤ spare_room i.cells.capacity count z (vec_capacity c.grow.new.edges) + length fan)
    (sym c.grow.ensures.ids_list)
    (subst (λ (z : ℕ). s.spare ≤ spare_room i.cells.capacity count (vec_capacity i.ids) z + length fan)
    (sym c.grow.ensures.edges_list) left)) in
    let done =
    replaced_now s old fan p c.self.invariant can c.grow.new.cells.slots ids kept1 c.grow.ensures.grown c.grow.ensures.count
    keeps c.take_out.new.cells.slots kept2 mends c.take_out.ensures.out spare c.take_out.new.cells.capacity spares in
    let here : List ℕ → Store = λ z. record {
      points = i.points.items;
      inserted = set i.inserted.items p true;
      slots = c.take_out.new.cells.slots;
      kept = z;
      spare = spare;
      capacity = c.take_out.new.cells.capacity;
    } in
    let whole =
    subst (λ (z : List ℕ). IsReplaced s (here z) old fan p)
    (sym (items_written i.kept.len kept2 (take i.kept.len (kept1 ++ drop (length kept1) i.kept.items)) n2)) done in
    let new =
    first_new s old fan p c.self.invariant can c.grow.new.cells.slots ids kept1 c.grow.ensures.grown c.grow.ensures.count keeps
    c.take_out.new.cells.slots kept2 mends c.take_out.ensures.out in
    let l : 0 < length ids = omega (arith, c.grow.ensures.count, can.some_facet) in
    let is : slice_index ids 0 ≡ c.index.result.now = get_or_default ids 0 0 c.index.result.now l ∙ sym c.index.ensures in
    record {
      replaced =
          subst (λ (t : Store).
          IsReplaced t
          (here (take i.kept.len (kept2 ++ drop (length kept2) (take i.kept.len (kept1 ++ drop (length kept1) i.kept.items)))))
          old fan p) c.self.view_is whole;
      live = subst (λ (z : ℕ). IsLive (links_of c.take_out.new.cells.slots) z) is new.0;
      new = subst (λ (z : ℕ). IsOver (links_of c.take_out.new.cells.slots) fan p z) is new.1;
      capacity = sym cap ∙ ap (λ (t : Store). t.capacity) c.self.view_is;
    }
