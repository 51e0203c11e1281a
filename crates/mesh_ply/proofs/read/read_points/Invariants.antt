use Rattle.std.proofs.Common.{None}
use Rattle.geo_sign.specs.Point.{IsWithin}
use Rattle.line_text.proofs.Rows.{IsReadSoFar}
use Rattle.mesh_ply.specs.Texts.{point_line}
use Rattle.mesh_ply.proofs.read.read_points.Given as goal
use Rattle.geo_sign.specs.declared.point.TheConstants.{BOX_LIMIT}

abbrev pub invariant-loop-k : goal.invariant-loop-k
invariant-loop-k l = IsReadSoFar (IsWithin BOX_LIMIT) point_line None l.text l.rest l.rows.items l.k l.line l.at
