use Rattle.std.proofs.Common.{◌≡◌, ◌<◌, ◌≤◌, get_or, true, false}
use Rattle.mesh_edges.specs.Things.{AreSoMany}
use Rattle.mesh_measures.proofs.manifolds.count_flags.Given as goal

abbrev pub invariant-loop-v : goal.invariant-loop-v
invariant-loop-v l =
    record { few : l.count ≤ l.v; many : AreSoMany (λ v. (v < l.v) × (get_or l.flags v false ≡ true)) l.count }
