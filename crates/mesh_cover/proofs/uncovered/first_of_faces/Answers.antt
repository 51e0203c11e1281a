use Rattle.std.proofs.Common.{ℕ, List, [], arith, subst}
use Rattle.std.proofs.lemmas.List.{get_or_default}
use Rattle.mesh_cover.specs.Covers.{IsFaceCovered}
use Rattle.mesh_cover.proofs.uncovered.first_of_faces.Goals as goal

pub returns : goal.returns
returns c = λ k d l.
    let onto = c.args.onto.now in
    subst (λ (f : List ℕ). IsFaceCovered c.args.within c.args.points.now onto.points.items onto.faces.items f)
    (get_or_default c.args.faces.now k [] d l) (c.loop-i.invariant k (omega (arith, l, c.loop-i-test.false)))
