-- The mesh is compared with the text that its surface is printed as. Where they differ, the place is the last fault: all else of the
-- certificate is as it is to be, since its labels were shown best. Where they are the same, the certificate has no fault, so the surface
-- and it are a solution (solution_from), with the numbers that are given.
use Rattle.std.proofs.Common.{ℕ, ◌≡◌, ◌++◌, [], ap, sym, subst, ◌∙◌, arith, refl, List}
use Rattle.certificate.specs.Certificates.{Claim, claim_of}
use Rattle.mesh.specs.Meshes.{Surface}
use Rattle.mesh_ply.specs.Texts.{mesh_text}
use Rattle.mesh.specs.declared.mesh.Mesh.{Mesh}
use Rattle.solution.specs.Solutions.{surface_of, IsSolution}
use Rattle.scan_rows.specs.Shown.{Shown}
use Rattle.scan_rows.specs.Views.{shown_of}
use Rattle.recon_check.specs.Answers.{IsFault, surface_text}
use Rattle.recon_check.specs.Differences.{IsFirstDifference}
use Rattle.recon_check.proofs.Solutions.{solution_from}
use Rattle.recon_check.proofs.Stopped.{passed_on}
use Rattle.recon_check.proofs.checking.shown_over.Goals as goal

pub returns-in_err-surface-clause-fault : goal.returns-in_err-surface-clause-fault
returns-in_err-surface-clause-fault c =
    passed_on c.from_residual.result c.in_err-surface.field-0.0
    (IsFault (shown_of c.args.scan.now) c.args.settings c.args.claimed.now.mesh.now (claim_of c.args.claimed.now.cert)) c.from_residual.ensures.1
    (c.in_err-surface.ensures.fault c.args.claimed.now.mesh.now)

-- what was printed is the text of the surface
text_is : (mesh : Mesh) (given text start : List ℕ) → given ≡ text
    → text ≡ start ++ mesh_text mesh.points.items mesh.faces.items → start ≡ [] → given ≡ surface_text (surface_of mesh)
text_is mesh given text start a b e = a ∙ b ∙ ap (λ (front : List ℕ). front ++ mesh_text mesh.points.items mesh.faces.items) e

pub returns-in-Some-clause-fault : goal.returns-in-Some-clause-fault
returns-in-Some-clause-fault c =
    let best = c.in_ok-surface.ensures.surface in
    let text =
    text_is c.in_ok-surface.surface c.deref.result.now c.push_mesh.new.out.items c.new-text.result.items c.deref.ensures.value
    c.in_ok-push_mesh.ensures.printed c.new-text.ensures.items in
    record {
      counts = best.counts;
      complex = best.complex;
      complex_is = best.complex_is;
      reason_is = (
        best.best,
        best.cost_is,
        subst (λ (other : List ℕ). IsFirstDifference c.args.claimed.now.mesh.now other c.in-Some.place)
            (text ∙ ap surface_text best.surface_is) c.in-Some.ensures.differs,
      );
    }

pub returns-clause-shown : goal.returns-clause-shown
returns-clause-shown c =
    let scan : Shown = shown_of c.args.scan.now in
    let claim : Claim = claim_of c.args.claimed.now.cert in
    let best = c.in_ok-surface.ensures.surface in
    let text =
    text_is c.in_ok-surface.surface c.deref.result.now c.push_mesh.new.out.items c.new-text.result.items c.deref.ensures.value
    c.in_ok-push_mesh.ensures.printed c.new-text.ensures.items in
    record {
      shown = record {
        surface = surface_of c.in_ok-surface.surface;
        mesh_is = c.in-None.ensures.same ∙ text;
        solution = subst (λ (surface : Surface). IsSolution scan c.args.settings surface claim) (sym best.surface_is)
            (solution_from scan c.args.settings best.complex claim c.requires.formed best.complex_is best.counts best.best
            best.cost_is);
      };
      inside_is = omega (arith, c.len.ensures, c.args.claimed.now.cert.inside.ok.0);
      faces_is = omega (arith, c.len-in-None.ensures, c.in_ok-surface.surface.faces.ok.0);
      cost_is = refl;
    }
