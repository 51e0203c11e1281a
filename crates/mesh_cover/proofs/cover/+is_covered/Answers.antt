-- The quarters are near faces, so the part is.
use Rattle.std.proofs.Common.{ℕ, ◌*◌, ◌∙◌, ap, ap₂}
use Rattle.std.proofs.lemmas.Bool.{OnTrue_at}
use Rattle.mesh_cover.specs.Parts.{plus}
use Rattle.mesh_cover.proofs.Quarters.{quarters, moved}
use Rattle.mesh_cover.proofs.cover.+is_covered.Goals as goal

pub returns : goal.returns
returns t c =
    let within = c.args.within in
    let points = c.args.onto.now.points.items in
    let faces = c.args.onto.now.faces.items in
    let p = c.args.part.now in
    let one = c.turned-turned.ensures in
    let two = c.turned-turned-2.ensures in
    let first = c.corner-corner.ensures in
    let second = c.corner-corner-2.ensures in
    let third = c.corner-corner-3.ensures in
    let middle = c.middle-middle.ensures in
    let two_a = two.a ∙ one.b in
    let two_b = two.b ∙ one.c in
    let two_c = two.c ∙ one.a in
    quarters within p.scale points faces p.a p.b p.c
    (moved within _ (2 * p.scale) points faces _ _ _ (plus p.a p.a) (plus p.a p.b) (plus p.a p.c) first.scale first.a first.b first.c
    (OnTrue_at c.if-not-branch.false c.in_ok-is_covered.ensures))
    (moved within _ (2 * p.scale) points faces _ _ _ (plus p.b p.b) (plus p.b p.c) (plus p.b p.a)
    (second.scale ∙ ap (λ (n : ℕ). 2 * n) one.scale) (second.a ∙ ap₂ plus one.a one.a) (second.b ∙ ap₂ plus one.a one.b)
    (second.c ∙ ap₂ plus one.a one.c) (OnTrue_at c.if-not-branch-2.false c.in_ok-is_covered-2.ensures))
    (moved within _ (2 * p.scale) points faces _ _ _ (plus p.c p.c) (plus p.c p.a) (plus p.c p.b)
    (third.scale ∙ ap (λ (n : ℕ). 2 * n) (two.scale ∙ one.scale)) (third.a ∙ ap₂ plus two_a two_a) (third.b ∙ ap₂ plus two_a two_b)
    (third.c ∙ ap₂ plus two_a two_c) (OnTrue_at c.if-not-branch-3.false c.in_ok-is_covered-3.ensures))
    (moved within _ (2 * p.scale) points faces _ _ _ (plus p.b p.c) (plus p.c p.a) (plus p.a p.b) middle.scale middle.a middle.b middle.c
    (OnTrue_at c.if-not-branch-4.false c.in_ok-is_covered-4.ensures))
