-- Flips one after another.
use Rattle.std.proofs.Common.{ℕ, ◌≡◌, List, arith}
use Rattle.mesh_flips.specs.Quads.{IsQuad, flipped}
use Rattle.geo_sign.specs.Point.{Point}
use Rattle.mesh_flips.specs.Flips.{AreFlips, IsFlipped}
use Rattle.mesh_flips.specs.Flips.AreFlips.{none, more}
use Rattle.mesh_flips.proofs.Kept.{flips_count}
use Rattle.mesh_flips.specs.declared.quad.Quad.{Quad}

-- none
pub unflipped : (faces : List (List ℕ)) → AreFlips faces faces
unflipped faces = none

-- one
pub flipped_once : (old new : List (List ℕ)) (one other : ℕ) (q : Quad) → IsQuad old one other q
    → new ≡ flipped old one other q → AreFlips old new
flipped_once old new one other q lie then =
    more none (record { one = one; other = other; quad = q; lie = lie; then = then })

-- some, and then some
pub flipped_on : {old mid new : List (List ℕ)} → AreFlips old mid → AreFlips mid new → AreFlips old new
flipped_on first none = first
flipped_on first (more second f) = more (flipped_on first second) f

-- the same with what they keep

pub unchanged : (points : List Point) (faces : List (List ℕ)) → IsFlipped points faces faces
unchanged points faces = record { flips = none; apart = λ i j ne li lj apart. apart; single = λ u v once. once }

pub changed_on : (points : List Point) (old mid new : List (List ℕ)) → IsFlipped points old mid → IsFlipped points mid new
    → IsFlipped points old new
changed_on points old mid new first second =
    let count = flips_count first.flips in
    record {
      flips = flipped_on first.flips second.flips;
      apart = λ i j ne li lj apart. second.apart i j ne (omega arith) (omega arith) (first.apart i j ne li lj apart);
      single = λ u v once. second.single u v (first.single u v once);
    }
