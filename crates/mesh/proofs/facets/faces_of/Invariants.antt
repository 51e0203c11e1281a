use Rattle.std.proofs.Common.{◌≡◌, map, take, get_or}
use Rattle.mesh.proofs.facets.faces_of.Given as goal

abbrev pub invariant-loop-facet : goal.invariant-loop-facet
invariant-loop-facet l = l.faces.items ≡ map (map (λ v. get_or l.numbers v 0)) (take l.facet-index l.facets)
