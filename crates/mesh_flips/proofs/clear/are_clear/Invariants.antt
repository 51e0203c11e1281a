use Rattle.std.proofs.Common.{ℕ, ◌<◌, ◌≢◌, length, get_or}
use Rattle.mesh_edges.specs.Edges.{face_at}
use Rattle.mesh_flips.specs.Clear.{IsClear}
use Rattle.mesh_flips.proofs.clear.are_clear.Given as goal

abbrev pub invariant-loop-i : goal.invariant-loop-i
invariant-loop-i l =
    (k : ℕ) → k < l.i-index → get_or l.found k 0 < length l.faces → get_or l.found k 0 ≢ l.site.one → get_or l.found k 0 ≢ l.site.other
    → IsClear l.points l.site.quad (face_at l.faces (get_or l.found k 0))
