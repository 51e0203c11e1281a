use Rattle.std.proofs.Common.{subst, sym, ◌∙◌, List, ℕ}
use Rattle.std.proofs.lemmas.Bool.{false≢true}
use Rattle.mesh_smooth.specs.Rounds.{IsTestedAmong}
use Rattle.mesh_smooth.proofs.Passes.{near_tested}
use Rattle.mesh_smooth.proofs.marking.mark_near.Goals as goal

pub returns-clause-tested : goal.returns-clause-tested
returns-clause-tested c = λ f first last asked.
    near_tested c.args.mesh.now.points.now c.args.mesh.now.faces.now c.args.mesh.now.tree.now c.args.mesh.now.asked.now c.mark_run.new.crosses f
    c.hull_of_run-hull.result _ c.requires.mesh.ready.boxes (c.hull_of_run-hull.ensures f first last) c.in_ok-near.ensures.found
    (subst (λ (xs : List ℕ). IsTestedAmong c.args.mesh.now.points.now c.args.mesh.now.faces.now c.args.mesh.now.asked.now c.mark_run.new.crosses xs f)
    c.deref.ensures.value (c.mark_run.ensures.tested f first last asked))

pub returns-then-not-is_any_asked-clause-tested : goal.returns-then-not-is_any_asked-clause-tested
returns-then-not-is_any_asked-clause-tested c = λ f first last asked.
    absurd (false≢true (sym (c.if-not-is_any_asked.ensures f first last) ∙ asked))
