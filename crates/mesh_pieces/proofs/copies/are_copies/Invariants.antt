use Rattle.std.proofs.Common.{ℕ, ◌≡◌, ◌<◌, [], map, take, length, get_or}
use Rattle.mesh.specs.Meshes.{IsFace}
use Rattle.mesh_pieces.proofs.copies.are_copies.Given as goal

abbrev pub invariant-loop-f : goal.invariant-loop-f
invariant-loop-f l =
    record {
      copies : map (map (λ w. get_or l.origin w 0)) (take l.f l.new) ≡ take l.f l.old;
      faces : (k : ℕ) → k < l.f → IsFace (length l.origin) (get_or l.new k []);
    }
