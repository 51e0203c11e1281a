-- Points of a list of which one is set.
use Rattle.std.proofs.Common.{ℕ, ◌≡◌, ◌≢◌, ◌<◌, List, length, set, get_or-set_other, get_or-set_same}
use Rattle.geo_sign.specs.Point.{Point}
use Rattle.mesh.specs.Meshes.{point_at}

pub point_here : (points : List Point) (i : ℕ) (p : Point) → i < length points → point_at (set points i p) i ≡ p
point_here points i p l = rw get_or-set_same

pub point_other : (points : List Point) (i k : ℕ) (p : Point) → k ≢ i → point_at (set points i p) k ≡ point_at points k
point_other points i k p ne = rw get_or-set_other
