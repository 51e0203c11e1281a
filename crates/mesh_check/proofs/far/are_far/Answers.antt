use Rattle.std.proofs.Common.{ℕ, List, [], arith, subst}
use Rattle.std.proofs.lemmas.List.{get_or_default}
use Rattle.mesh_cover.specs.Covers.{IsNearFaceOf}
use Rattle.mesh_check.proofs.far.are_far.Goals as goal

pub returns : goal.returns
returns c = λ k d l.
    let target = c.args.target.now in
    subst (λ (f : List ℕ). ¬ IsNearFaceOf target.within c.args.points.now target.m target.q f)
    (get_or_default c.args.faces.now k [] d l) (c.loop-i.invariant k (omega (arith, l, c.loop-i-test.false)))
