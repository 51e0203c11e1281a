use Rattle.std.proofs.Common.{◌≡◌, ℕ, ◌<◌, false, get_or, List}
use Rattle.geo_sign.specs.Tetrahedron.{facet_at, is_same_facet}
use Rattle.plain_net.proofs.network.facet_index.Given as goal

abbrev pub invariant-loop-index : goal.invariant-loop-index
invariant-loop-index l = (k : ℕ) (d : List ℕ) → k < l.index → is_same_facet (facet_at (get_or l.facets k d)) l.facet ≡ false
