-- The faces are sorted, flipped through a borrowed slice and read through another, so `read` first says that these are the faces.
use Rattle.std.proofs.Common.{ℕ, ◌≡◌, List, length, drop, sym, ap, ◌∙◌, subst, arith}
use Rattle.std.specs.List.{All}
use Rattle.std.specs.List.Sorted.{IsPermutation}
use Rattle.std.proofs.lemmas.List.{take_at}
use Rattle.std.proofs.lemmas.List.Sorted.{length_permutation, All-permutation}
use Rattle.mesh.specs.Meshes.{IsFace}
use Rattle.mesh_flips.specs.Turns.{IsTriangle}
use Rattle.mesh_flips.proofs.Kept.{flips_count}
use Rattle.mesh_finish.specs.Finished.{AreTurned}
use Rattle.mesh_finish.proofs.Rewritten.{faces_triangles, finished_balanced, finished_single}
use Rattle.mesh_finish.proofs.whole.finished_faces.Goals as goal

-- a mesh's faces in another order
sorted_triangles : (n : ℕ) (faces sorted : List (List ℕ)) → All (IsFace n) faces → IsPermutation faces sorted
    → All (IsTriangle n) sorted
sorted_triangles n faces sorted each moved = All-permutation (IsTriangle n) faces sorted moved (faces_triangles n faces each)

pub flip_edges-requires-clause-each : goal.flip_edges-requires-clause-each
flip_edges-requires-clause-each c =
    subst (λ (faces : List (List ℕ)). All (IsTriangle (length c.args.points.now)) faces) (sym c.deref_mut.ensures.value)
    (sorted_triangles _ _ _ c.requires.each c.in_ok-sorted.ensures)

sorted_before : (c : goal.After-drop-sorted-2) → c.deref_mut.result.now ≡ c.in_ok-sorted.sorted.items
sorted_before c = c.deref_mut.ensures.value

count : (c : goal.After-drop-sorted-2) → length c.flip_edges.new.faces ≡ length c.args.faces.now
count c =
    flips_count c.flip_edges.ensures.flipped.flips
    ∙ (ap length (sorted_before c) ∙ length_permutation c.args.faces.now c.in_ok-sorted.sorted.items c.in_ok-sorted.ensures)

read : (c : goal.After-drop-sorted-2) → c.deref-2.result.now ≡ c.flip_edges.new.faces
read c =
    c.deref-2.ensures.value
    ∙ take_at c.flip_edges.new.faces (drop (length c.flip_edges.new.faces) c.in_ok-sorted.sorted.items) c.in_ok-sorted.sorted.len
    (let n = length_permutation c.args.faces.now c.in_ok-sorted.sorted.items c.in_ok-sorted.ensures in
    let m = c.in_ok-sorted.sorted.ok.0 in
    let k = count c in
    omega arith)

pub returns-clause-valid : goal.returns-clause-valid
returns-clause-valid c =
    let each : All (IsTriangle (length c.args.points.now)) c.deref-2.result.now =
    subst (λ (faces : List (List ℕ)). All (IsTriangle (length c.args.points.now)) faces) (sym (read c)) c.flip_edges.ensures.each in
    let same = ap length (read c) in
    let k = count c in
    record {
      few_points = c.requires.few_points;
      few_faces = omega (arith, c.in_ok-turned.ensures.turned.count, c.requires.few_faces);
      each = c.in_ok-turned.ensures.faces _ each;
    }

pub returns-clause-closed : goal.returns-clause-closed
returns-clause-closed c =
    let n = length c.args.points.now in
    let turned : AreTurned c.flip_edges.new.faces c.in_ok-turned.turned.items =
    subst (λ (faces : List (List ℕ)). AreTurned faces c.in_ok-turned.turned.items) (read c) c.in_ok-turned.ensures.turned in
    let moved : IsPermutation c.args.faces.now c.deref_mut.result.now =
    subst (λ (faces : List (List ℕ)). IsPermutation c.args.faces.now faces) (sym (sorted_before c)) c.in_ok-sorted.ensures in
    finished_balanced n c.args.faces.now c.deref_mut.result.now c.flip_edges.new.faces c.in_ok-turned.turned.items
    (sorted_triangles n _ _ c.requires.each moved) c.flip_edges.ensures.each moved c.flip_edges.ensures.flipped.flips turned

pub returns-clause-single : goal.returns-clause-single
returns-clause-single c =
    let n = length c.args.points.now in
    let turned : AreTurned c.flip_edges.new.faces c.in_ok-turned.turned.items =
    subst (λ (faces : List (List ℕ)). AreTurned faces c.in_ok-turned.turned.items) (read c) c.in_ok-turned.ensures.turned in
    let moved : IsPermutation c.args.faces.now c.deref_mut.result.now =
    subst (λ (faces : List (List ℕ)). IsPermutation c.args.faces.now faces) (sym (sorted_before c)) c.in_ok-sorted.ensures in
    finished_single n c.args.faces.now c.deref_mut.result.now c.flip_edges.new.faces c.in_ok-turned.turned.items
    c.flip_edges.ensures.each moved c.flip_edges.ensures.flipped.single turned
