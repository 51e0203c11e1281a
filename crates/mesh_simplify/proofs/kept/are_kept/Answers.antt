use Rattle.std.proofs.Common.{ℕ, arith, subst, below_more}
use Rattle.std.proofs.lemmas.List.{get_or_default}
use Rattle.mesh_edges.specs.declared.pairs.Pair.{Pair}
use Rattle.mesh_crossings.specs.Tested.{pair_in}
use Rattle.mesh_simplify.specs.Tested.{IsOldFaceAt}
use Rattle.mesh_simplify.proofs.kept.are_kept.Goals as goal

pub loop-pair-preserved : goal.loop-pair-preserved
loop-pair-preserved c =
    let Kept : ℕ → Type 0 =
    IsOldFaceAt c.args.old.now.points.items c.args.mesh.now.points.items c.args.from.now c.args.old.now.faces.items c.args.mesh.now.faces.items in
    below_more
    (λ (k : ℕ). Kept (pair_in c.args.pairs.now k).first × Kept (pair_in c.args.pairs.now k).second) c.loop-pair.pair-index
    c.loop-pair.invariant (c.if-not-is_kept.ensures, c.if-not-is_kept-2.ensures)

pub returns : goal.returns
returns c = λ k d l.
    let Kept : ℕ → Type 0 =
    IsOldFaceAt c.args.old.now.points.items c.args.mesh.now.points.items c.args.from.now c.args.old.now.faces.items c.args.mesh.now.faces.items in
    subst (λ (p : Pair). Kept p.first × Kept p.second)
    (get_or_default c.args.pairs.now k (record { first = 0; second = 0 }) d l)
    (c.loop-pair.invariant k (omega (arith, c.loop-pair-test.false)))
