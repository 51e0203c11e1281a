-- The next face of each cut face.
--
-- Upward and downward crossings are sorted by edge and match, so the two at one place are on one edge, and the face that
-- goes up through it follows the face that goes down (next_here). Each cut face goes down through one edge, so it stands in
-- the list. Each write puts a next face at its place, also where there was one already (written), so behind the last
-- crossing each cut face has its next one.
use Rattle.std.proofs.Common.{ℕ, ◌≡◌, ◌<◌, ◌∙◌, ap, sym, subst, arith, List, get_or, length, map, ℤ, to_z, of_z}
use Rattle.geo_sign.specs.Point.{Point}
use mir.Syntax.{w32}
use Rattle.std.proofs.lemmas.Int.{ints}
use Rattle.std.proofs.lemmas.List.{length-set, get_or_default, length-map}
use Rattle.solid_slice.specs.Loops.{IsNext}
use Rattle.solid_slice.specs.Crossings.{key_of_crossing, AreCrossings}
use Rattle.solid_slice.specs.declared.crossings.Crossing.{Crossing}
use Rattle.mesh_edges.proofs.EdgeCounts.{each_among}
use Rattle.solid_slice.proofs.Matching.{no_crossing, next_at, next_within, cut_is_listed, written}
use Rattle.solid_slice.proofs.successors.successors.Goals as goal

-- the faces read at one place are each other's next
next_here : (points : List Point) (faces : List (List ℕ)) (h : ℤ) (ups downs : List Crossing)
    → AreCrossings points faces h (length faces) ups downs → map key_of_crossing ups ≡ map key_of_crossing downs → (i : ℕ)
    → i < length downs → (up down : Crossing) → up ≡ get_or ups i up → down ≡ get_or downs i down
    → IsNext points faces h down.face up.face
next_here points faces h ups downs crossings same i l up down eu ed =
    let l' : i < length ups =
    omega (arith, ap (λ (t : List ℕ). length t) same, length-map ups key_of_crossing, length-map downs key_of_crossing) in
    let up_is : get_or ups i no_crossing ≡ up = get_or_default ups i no_crossing up l' ∙ sym eu in
    let down_is : get_or downs i no_crossing ≡ down = get_or_default downs i no_crossing down l ∙ sym ed in
    subst (λ (c : Crossing). IsNext points faces h c.face up.face) down_is
    (subst (λ (c : Crossing). IsNext points faces h (get_or downs i no_crossing).face c.face) up_is
    (next_at points faces h ups downs crossings same i l))

pub index_mut-requires : goal.index_mut-requires
index_mut-requires c =
    let n =
    next_here c.args.mesh.now.points.items c.args.mesh.now.faces.items _ c.args.crossings.now.ups.items
    c.args.crossings.now.downs.items c.requires.crossings c.requires.matched c.loop-at.at (omega arith) c.index.result.now
    c.index-in-loop-at.result.now c.index.ensures c.index-in-loop-at.ensures in
    omega (arith, (next_within _ _ _ _ _ n).0, c.loop-at.invariant.size)

pub loop-at-preserved : goal.loop-at-preserved
loop-at-preserved c =
    let e : to_z w32 (of_z w32 c.args.height) ≡ c.args.height = omega (arith, ints) in
    let faces = c.args.mesh.now.faces.items in
    let downs = c.args.crossings.now.downs.items in
    let R = λ (f g : ℕ). IsNext c.args.mesh.now.points.items faces (to_z w32 (of_z w32 c.args.height)) f g in
    let n =
    subst (λ (h : ℤ). IsNext c.args.mesh.now.points.items faces h c.index-in-loop-at.result.now.face c.index.result.now.face)
    (sym e)
    (next_here c.args.mesh.now.points.items faces c.args.height c.args.crossings.now.ups.items downs c.requires.crossings
    c.requires.matched c.loop-at.at (omega arith) c.index.result.now c.index-in-loop-at.result.now c.index.ensures
    c.index-in-loop-at.ensures) in
    let within = (next_within _ _ _ _ _ n).0 in
    let l : c.loop-at.at < length downs = omega arith in
    let down_is : get_or downs c.loop-at.at no_crossing ≡ c.index-in-loop-at.result.now =
    get_or_default downs c.loop-at.at no_crossing c.index-in-loop-at.result.now l ∙ sym c.index-in-loop-at.ensures in
    record {
      size =
          length-set c.loop-at.next.items c.index-in-loop-at.result.now.face c.index.result.now.face ∙ c.loop-at.invariant.size;
      each =
          written R c.loop-at.next.items (λ j. (get_or downs j no_crossing).face) c.loop-at.at
          c.index-in-loop-at.result.now.face c.index.result.now.face (omega (arith, within, c.loop-at.invariant.size)) n
          (ap (λ (d : Crossing). d.face) down_is) c.loop-at.invariant.each;
    }

pub returns : goal.returns
returns c =
    let e : to_z w32 (of_z w32 c.args.height) ≡ c.args.height = omega (arith, ints) in
    let faces = c.args.mesh.now.faces.items in
    let downs = c.args.crossings.now.downs.items in
    record {
      size = c.loop-at.invariant.size;
      each = λ f cut.
          let found =
          cut_is_listed c.args.mesh.now.points.items faces c.args.height c.args.crossings.now.ups.items downs
          c.requires.crossings
          (each_among (length c.args.mesh.now.points.items) faces c.requires.valid.few_points c.requires.valid.each) f cut in
          let n = c.loop-at.invariant.each found.0 (omega (arith, found.1)) in
          subst (λ (k : ℕ). IsNext c.args.mesh.now.points.items faces c.args.height k (get_or c.loop-at.next.items k 0)) found.2
          (subst (λ (h : ℤ). IsNext c.args.mesh.now.points.items faces h (get_or downs found.0 no_crossing).face
          (get_or c.loop-at.next.items (get_or downs found.0 no_crossing).face 0)) e n);
    }
