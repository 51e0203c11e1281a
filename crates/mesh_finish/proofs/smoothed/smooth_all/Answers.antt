-- The faces are smoothed through a borrowed slice and read through another, so `read` first says that these are one list.
use Rattle.std.proofs.Common.{ℕ, ◌≡◌, List, length, drop, sym, ap, ◌∙◌, subst, arith}
use Rattle.std.specs.List.{All}
use Rattle.std.proofs.lemmas.List.{take_at}
use Rattle.mesh.specs.Meshes.{IsFace}
use Rattle.mesh_flips.specs.Turns.{IsTriangle}
use Rattle.mesh_flips.proofs.Kept.{flips_count}
use Rattle.mesh_finish.specs.Finished.{AreTurned}
use Rattle.mesh_finish.proofs.Rewritten.{faces_same}
use Rattle.mesh_finish.proofs.smoothed.smooth_all.Goals as goal

count : (c : goal.After-drop-points-2) → length c.smooth_mesh.new.faces ≡ length c.args.mesh.faces.items
count c = flips_count c.in_ok-new.ensures.smoothed.shape.flips ∙ ap length c.deref_mut.ensures.value

points : (c : goal.After-drop-points-2) → length c.in_ok-new.new.points.items ≡ length c.args.mesh.points.items
points c = c.in_ok-new.ensures.smoothed.count ∙ ap length c.deref-3.ensures.value

read : (c : goal.After-drop-points-2) → c.deref-4.result.now ≡ c.smooth_mesh.new.faces
read c =
    c.deref-4.ensures.value
    ∙ take_at c.smooth_mesh.new.faces (drop (length c.smooth_mesh.new.faces) c.args.mesh.faces.items) c.args.mesh.faces.len
    (let m = c.args.mesh.faces.ok.0 in
    let k = count c in
    omega arith)

each : (c : goal.After-drop-points-2) → All (IsFace (length c.in_ok-new.new.points.items)) c.in_ok-faces.faces.items
each c =
    subst (λ (n : ℕ). All (IsFace n) c.in_ok-faces.faces.items) (sym c.in_ok-new.ensures.smoothed.count)
    (c.in_ok-faces.ensures.faces (length c.deref-3.result.now)
    (subst (λ (faces : List (List ℕ)). All (IsTriangle (length c.deref-3.result.now)) faces) (sym (read c)) c.smooth_mesh.ensures.each))

pub returns-clause-valid : goal.returns-clause-valid
returns-clause-valid c =
    let same = ap length (read c) in
    let k = count c in
    record {
      few_points = omega (arith, points c, c.requires.few_points);
      few_faces = omega (arith, c.in_ok-faces.ensures.turned.count, c.requires.few_faces);
      each = each c;
    }

pub returns-clause-still : goal.returns-clause-still
returns-clause-still c = λ off.
    let n = length c.args.mesh.points.items in
    let as_before : c.deref-4.result.now ≡ c.args.mesh.faces.items =
    read c ∙ (c.smooth_mesh.ensures.still off ∙ c.deref_mut.ensures.value) in
    let turned : AreTurned c.args.mesh.faces.items c.in_ok-faces.faces.items =
    subst (λ (faces : List (List ℕ)). AreTurned faces c.in_ok-faces.faces.items) as_before c.in_ok-faces.ensures.turned in
    faces_same n c.args.mesh.faces.items c.in_ok-faces.faces.items c.requires.each
    (subst (λ (m : ℕ). All (IsFace m) c.in_ok-faces.faces.items) (points c) (each c)) turned.count turned.each
