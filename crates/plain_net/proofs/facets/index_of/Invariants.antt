use Rattle.std.proofs.Common.{◌≡◌, ℕ, ◌<◌, false, get_or}
use Rattle.geo_sign.specs.Tetrahedron.{Tetrahedron, is_among}
use Rattle.plain_net.proofs.facets.index_of.Given as goal

abbrev pub invariant-loop-index : goal.invariant-loop-index
invariant-loop-index l = (k : ℕ) (d : Tetrahedron) → k < l.index → is_among (get_or l.cells k d) l.facet ≡ false
