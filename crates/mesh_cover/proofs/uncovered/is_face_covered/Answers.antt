-- The whole of the face is within reach of a hinted face, or of others by its parts.
use Rattle.std.proofs.Common.{length}
use Rattle.std.proofs.lemmas.Bool.{OnTrue_from, OnTrue_at}
use Rattle.mesh_cover.proofs.Quarters.{moved, face_covered}
use Rattle.mesh_cover.proofs.uncovered.is_face_covered.Goals as goal

pub returns-then-is_near_hint : goal.returns-then-is_near_hint
returns-then-is_near_hint c =
    let onto = c.args.onto.now in
    let part = c.whole-part.ensures in
    face_covered (length c.args.points.now) c.args.within c.args.points.now onto.points.items onto.faces.items c.args.face c.requires.face
    (moved c.args.within _ 1 onto.points.items onto.faces.items _ _ _ _ _ _ part.scale part.a part.b part.c
    (OnTrue_at c.if-is_near_hint.true c.is_near_hint.ensures))

pub returns-then-is_near_hint-2 : goal.returns-then-is_near_hint-2
returns-then-is_near_hint-2 c =
    let onto = c.args.onto.now in
    let part = c.whole-part.ensures in
    face_covered (length c.args.points.now) c.args.within c.args.points.now onto.points.items onto.faces.items c.args.face c.requires.face
    (moved c.args.within _ 1 onto.points.items onto.faces.items _ _ _ _ _ _ part.scale part.a part.b part.c
    (OnTrue_at c.if-is_near_hint-2.true c.is_near_hint-2.ensures))

pub returns-then-is_near_hint-3 : goal.returns-then-is_near_hint-3
returns-then-is_near_hint-3 c =
    let onto = c.args.onto.now in
    let part = c.whole-part.ensures in
    face_covered (length c.args.points.now) c.args.within c.args.points.now onto.points.items onto.faces.items c.args.face c.requires.face
    (moved c.args.within _ 1 onto.points.items onto.faces.items _ _ _ _ _ _ part.scale part.a part.b part.c
    (OnTrue_at c.if-is_near_hint-3.true c.is_near_hint-3.ensures))

pub returns : goal.returns
returns c =
    let onto = c.args.onto.now in
    let part = c.whole-part.ensures in
    OnTrue_from _ _
    (λ yes.
    face_covered (length c.args.points.now) c.args.within c.args.points.now onto.points.items onto.faces.items c.args.face c.requires.face
    (moved c.args.within _ 1 onto.points.items onto.faces.items _ _ _ _ _ _ part.scale part.a part.b part.c
    (OnTrue_at yes c.in_ok-covered.ensures)))
