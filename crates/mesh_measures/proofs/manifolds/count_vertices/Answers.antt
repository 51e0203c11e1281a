use Rattle.std.proofs.Common.{ℕ, ◌≡◌, ◌<◌, ap, arith, length, subst}
use Rattle.mesh_edges.specs.Things.{AreSoMany}
use Rattle.mesh_measures.specs.Manifolds.{IsManifoldVertex}
use Rattle.mesh_measures.proofs.manifolds.count_vertices.Goals as goal

pub returns : goal.returns
returns c =
    let count : length c.deref_mut.result.now ≡ c.args.points =
    omega (arith, c.deref_mut.ensures.len, c.in_ok-flags.ensures.len, ap length c.deref_mut.ensures.value, c.in_ok-flags.flags.ok.0) in
    subst (λ (n : ℕ). AreSoMany (λ v. (v < n) × (IsManifoldVertex c.args.faces.now v → ⊥)) c.count_marked-count.result) count
    c.count_marked-count.ensures
