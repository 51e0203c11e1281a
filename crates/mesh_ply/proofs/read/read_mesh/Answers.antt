use Rattle.std.proofs.Common.{refl}
use Rattle.mesh_ply.proofs.MeshRefused.{first_or, printed_or, same_mesh, good_not_refused}
use Rattle.mesh_ply.proofs.read.read_mesh.Goals as goal

pub returns-in-Ok-clause-printed : goal.returns-in-Ok-clause-printed
returns-in-Ok-clause-printed c =
    λ ps fs w is. same_mesh c.args.bytes.now c.in-Ok.mesh.points.items ps c.in-Ok.mesh.faces.items fs c.in-Ok.ensures.ok w is

pub returns-in-Ok-clause-first : goal.returns-in-Ok-clause-first
returns-in-Ok-clause-first c =
    λ r k. absurd (good_not_refused c.args.bytes.now c.in-Ok.mesh.points.items c.in-Ok.mesh.faces.items r c.in-Ok.ensures.ok k)

pub returns-in-Err-clause-printed : goal.returns-in-Err-clause-printed
returns-in-Err-clause-printed c =
    λ ps fs w is. printed_or c.in-Err.refusal c.args.bytes.now ps fs c.refusal_of_mesh.result c.refusal_of_mesh.ensures
    c.in-Err.ensures.refused w is

pub returns-in-Err-clause-first : goal.returns-in-Err-clause-first
returns-in-Err-clause-first c =
    λ r k. (
      first_or c.in-Err.refusal c.args.bytes.now r c.refusal_of_mesh.result c.refusal_of_mesh.ensures
          c.in-Err.ensures.refused k,
      refl,
    )
