use Rattle.mesh_edges.specs.Matching.{AreHalves, rises, falls}
use Rattle.mesh_edges.proofs.matching.sides_of.Given as goal

abbrev pub invariant-loop-h : goal.invariant-loop-h
invariant-loop-h l =
    record {
      there : AreHalves l.faces (rises l.faces) l.h l.sides.there.items;
      back : AreHalves l.faces (falls l.faces) l.h l.sides.back.items;
    }
