use Rattle.std.proofs.Common.{ℕ, ◌≡◌, ◌<◌, false, length, take, get_or}
use Rattle.mesh.specs.Meshes.{is_used}
use Rattle.mesh.proofs.facets.vertex_marks.Given as goal

abbrev pub invariant-loop-facet : goal.invariant-loop-facet
invariant-loop-facet l =
    (length l.marks.items ≡ l.fn.count)
    × ((v : ℕ) → v < l.fn.count → get_or l.marks.items v false ≡ is_used (take l.facet-index l.facets) v)
