use Rattle.std.proofs.Common.{◌≡◌, ap, sym, ◌∙◌, rules, ℤ, FitsSigned, to_z, of_z}
use Rattle.std.proofs.lemmas.Bool.{OnTrue_from, eqb-true}
use Rattle.std.proofs.lemmas.Int.{to_z-of_z}
use mir.Syntax.{w128}
use Rattle.triangles.specs.Shared.{weighted_sum}
use Rattle.mesh_crossings.proofs.Witnessed.{read_sum}
use Rattle.mesh_crossings.proofs.witness.is_sum_on.Goals as goal

pub returns : goal.returns
returns c =
    let here : ℤ = c.args.sum in
    let there : ℤ = c.sum_on.result in
    let fits : FitsSigned w128 here = search rules in
    let fits_there : FitsSigned w128 there = search rules in
    let w = c.args.w in
    let there_is : there ≡ weighted_sum c.args.x c.args.y c.args.z w.a w.b w.c =
    read_sum c.args.x c.args.y c.args.z there w.a w.b w.c (search rules) (search rules) (search rules) c.sum_on.ensures in
    OnTrue_from _ _
    (λ yes.
    sym (to_z-of_z w128 here fits)
    ∙ (ap (to_z w128) (eqb-true (of_z w128 here) (of_z w128 there) yes) ∙ (to_z-of_z w128 there fits_there ∙ there_is)))
