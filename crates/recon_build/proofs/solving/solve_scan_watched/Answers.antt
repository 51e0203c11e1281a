use Rattle.std.proofs.lemmas.Result.{IfOk-weaker}
use Rattle.certificate.specs.Certificates.{claim_of}
use Rattle.scan_rows.specs.Views.{shown_of}
use Rattle.solution.specs.Laws.{IsSame}
use Rattle.solution.specs.Solutions.{IsSolution, surface_of}
use Rattle.solution.proofs.Uniqueness.{solution_law}
use Rattle.recon_build.specs.declared.solving.Solved.{Solved}
use Rattle.recon_build.proofs.solving.solve_scan_watched.Goals as goal

pub returns-clause-same : goal.returns-clause-same
returns-clause-same g c = λ mesh claim other.
    IfOk-weaker c.solve_over.result
    (λ (solved : Solved).
    IsSolution (shown_of c.args.scan.now) c.args.settings (surface_of solved.mesh) (claim_of solved.cert))
    (λ (solved : Solved). IsSame (surface_of solved.mesh) (claim_of solved.cert) mesh claim)
    (λ (solved : Solved) h.
    solution_law (shown_of c.args.scan.now) c.args.settings (surface_of solved.mesh) mesh (claim_of solved.cert) claim h other)
    c.solve_over.ensures.solution
