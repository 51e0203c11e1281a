use Rattle.std.proofs.Common.{rules, ◌∙◌}
use Rattle.mesh_finish.proofs.steps.kept.Goals as goal

pub returns-in_err-new-in-Some-clause-why : goal.returns-in_err-new-in-Some-clause-why
returns-in_err-new-in-Some-clause-why c = λ options points faces closed e.
    search (rules, c.in_err-new-in-Some.ensures.why options points faces closed (e ∙ c.in-Some.is))
