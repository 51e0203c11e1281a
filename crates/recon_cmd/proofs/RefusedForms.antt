-- A mesh or a scan whose surfaces were handed to the forms was not refused, and a run that ends with the code of a refusal refused.
use Rattle.std.proofs.Common.{◌≡◌, refl, arith, inl, inr, List, ℕ}
use Rattle.host.specs.State.{State}
use Rattle.mesh_form.specs.Received.{Received}
use Rattle.mesh.specs.Meshes.{Surface}
use Rattle.scan_rows.specs.Shown.{Shown}
use Rattle.command_run.specs.Status.{code_of}
use Rattle.command_run.specs.declared.status.Status.{Status}
use Rattle.command_run.specs.declared.status.Status.TheVariants.{Done, No, BadArguments, Refused, Failed, NoMemory}
use Rattle.recon_cmd.specs.Export.{FormsHandOut}
use Rattle.recon_cmd.specs.Sweep.{SweepAsked, SweepHandOut}

-- the code of a status is that of a refusal
pub refused_by_code : (status : Status) → code_of status ≡ code_of Refused → status ≡ Refused
refused_by_code Done e = absurd (omega (arith, e))
refused_by_code No e = absurd (omega (arith, e))
refused_by_code BadArguments e = absurd (omega (arith, e))
refused_by_code Refused e = refl
refused_by_code Failed e = absurd (omega (arith, e))
refused_by_code NoMemory e = absurd (omega (arith, e))

pub handed_not_refused : (outputs : List (List ℕ)) (mesh : Surface) (status : Status) (before after : State)
    (new : List Received) (texts : List (List ℕ)) → FormsHandOut outputs mesh status before after new texts
    → status ≡ Refused → ⊥
handed_not_refused outputs mesh status before after new texts (inl (is, fronts, still)) e = absurd (cc (is, e))
handed_not_refused outputs mesh status before after new texts (inr (all, inl (is, whole))) e = absurd (cc (is, e))
handed_not_refused outputs mesh status before after new texts (inr (all, inr (is, stopped))) e = absurd (cc (is, e))

pub surfaces_not_refused : (asked : SweepAsked) (scan : Shown) (status : Status) (before after : State) (new : List Received)
    (texts : List (List ℕ)) → SweepHandOut asked scan status before after new texts → status ≡ Refused → ⊥
surfaces_not_refused asked scan status before after new texts (inl (is, fronts, still)) e = absurd (cc (is, e))
surfaces_not_refused asked scan status before after new texts (inr carries) e = grind arith
