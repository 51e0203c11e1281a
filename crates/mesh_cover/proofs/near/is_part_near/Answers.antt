-- The corners are within reach of one face, so all of the part is. Points and face are read through borrowed slices.
use Rattle.std.proofs.Common.{ℕ, ◌≡◌, ◌<◌, List, [], length, subst, arith}
use Rattle.std.proofs.lemmas.Bool.{OnTrue_from, OnTrue_at}
use Rattle.std.proofs.lemmas.List.{get_or_read}
use Rattle.geo_sign.specs.Point.{Point}
use Rattle.mesh_edges.specs.Edges.{face_at}
use Rattle.mesh_cover.specs.Parts.{IsCornerNear}
use Rattle.mesh_cover.proofs.Quarters.{covered_by_one}
use Rattle.mesh_cover.proofs.near.is_part_near.Goals as goal

pub returns : goal.returns
returns c =
    let onto = c.args.onto.now in
    let part = c.args.part.now in
    let i = c.args.i in
    let points = onto.points.items in
    let faces = onto.faces.items in
    let below : i < length faces = omega (arith, c.if-i-len.false, c.len.ensures, onto.faces.ok.0) in
    let face : c.index-face.result.now ≡ face_at faces i = get_or_read faces _ _ below c.index-face.ensures [] in
    let read : (ps : List Point) (q : Point) → ps ≡ points → IsCornerNear c.args.within ps part.scale q c.index-face.result.now
    → IsCornerNear c.args.within points part.scale q (face_at faces i)
    =
    λ ps q e h.
    subst (λ (f : List ℕ). IsCornerNear c.args.within points part.scale q f) face
    (subst (λ (p : List Point). IsCornerNear c.args.within p part.scale q c.index-face.result.now) e h) in
    OnTrue_from _ _
    (λ yes.
    covered_by_one c.args.within part.scale points faces i part.a part.b part.c below
    (read _ part.a c.deref-2.ensures.value (OnTrue_at c.if-not-is_near_target.false c.is_near_target.ensures))
    (read _ part.b c.deref-3.ensures.value (OnTrue_at c.if-not-is_near_target-2.false c.is_near_target-2.ensures))
    (read _ part.c c.deref-4.ensures.value (OnTrue_at yes c.is_near_target-3.ensures)))
