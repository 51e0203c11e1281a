use Rattle.std.proofs.Common.{ℕ, ◌<◌, ◌≡◌, true}
use Rattle.geo_sign.specs.Rational.{displaced}
use Rattle.geo_sign.specs.Sights.{is_crossed}
use Rattle.geo_sign.specs.Tetrahedron.{facet_of}
use Rattle.tetra_store.specs.Links.{tetrahedron_from}
use Rattle.tetra_store.specs.Store.{vertices_of}
use Rattle.beam.proofs.ways.side_by_trial.Given as goal

abbrev pub invariant-loop-k : goal.invariant-loop-k
invariant-loop-k l =
    (j : ℕ) → j < l.k
    → ¬ (is_crossed (vertices_of l.t) l.ray.vertex (displaced l.s) (facet_of (tetrahedron_from l.v) j) ≡ true)
