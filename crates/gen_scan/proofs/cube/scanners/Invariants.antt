use Rattle.std.proofs.Common.{◌≡◌, All, take}
use Rattle.geo_sign.specs.Point.{IsWithin}
use Rattle.gen_scan.specs.Generated.{scanners as scanners_of_faces}
use Rattle.gen_scan.proofs.cube.scanners.Given as goal
use Rattle.geo_sign.specs.declared.point.TheConstants.{DATA_LIMIT}

abbrev pub invariant-loop-face : goal.invariant-loop-face
invariant-loop-face l = record {
  value : l.places.items ≡ take l.face scanners_of_faces;
  data_points : All (IsWithin DATA_LIMIT) l.places.items;
}
