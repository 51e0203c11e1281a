use Rattle.mesh_measures.specs.Manifolds.{IsNonManifoldPair}
use Rattle.mesh_check.specs.Verdicts.{IsNonManifoldVertex}
use Rattle.mesh_check.proofs.Counted.{none_counted}
use Rattle.mesh_check.proofs.judging.nonmanifold_counts.Goals as goal

pub returns-then-topology-eq0-2 : goal.returns-then-topology-eq0-2
returns-then-topology-eq0-2 c = λ asked.
    record {
      edges =
          none_counted (IsNonManifoldPair c.args.mesh.now.faces.items) c.in_ok-topology.topology.nonmanifold_edges
          c.in_ok-topology.ensures.edges c.if-topology-eq0.true;
      vertices =
          none_counted (IsNonManifoldVertex c.args.mesh.now.points.items c.args.mesh.now.faces.items)
          c.in_ok-topology.topology.nonmanifold_vertices c.in_ok-topology.ensures.vertices
          c.if-topology-eq0-2.true;
    }
