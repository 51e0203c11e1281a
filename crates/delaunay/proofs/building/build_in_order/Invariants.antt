use Rattle.std.proofs.Common.{◌≡◌, ◌++◌}
use Rattle.geo_sign.specs.Vertices.{corners}
use Rattle.tetra_store.specs.Links.{links_of, IsLive}
use Rattle.tetra_store.specs.Store.{vertices_of}
use Rattle.tetra_store.specs.Delaunay.{IsDelaunay}
use Rattle.delaunay.proofs.Built.{AreInserted}
use Rattle.delaunay.proofs.building.build_in_order.Given as goal

abbrev pub invariant-loop-i : goal.invariant-loop-i
invariant-loop-i g l = record {
  points : l.t.points ≡ corners ++ l.points;
  inserted : AreInserted l.t.inserted l.order l.i;
  delaunay : IsDelaunay (vertices_of l.t) (links_of l.t.slots);
  live : IsLive (links_of l.t.slots) l.at;
}
