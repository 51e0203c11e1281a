-- The fingerprint of the input, which identifies the scan of a certificate.
--
--   StampView     a fingerprint: the digest of a scan's file, the scale and the fixed scanner
--   IsDigest d    32 bytes
--   IsUnit n      1 to the greatest scale
--   IsFixed p     a data point, or no fixed scanner
--   IsStamp s     the invariant of a `Stamp`
--   IsVersion s   the fingerprint is valid, or there is none
use Rattle.std.specs.Prelude.{ℕ, ◌≡◌, List, Option, Some, None, length}
use Rattle.std.specs.Option.{ForSome}
use Rattle.geo_sign.specs.Point.{Point, IsWithin}
use Rattle.hex.specs.Hex.{IsBytes}
use Rattle.geo_sign.specs.Numbers.{IsBetween}
use Rattle.certificate.specs.declared.stamp.TheConstants.{UNIT_LIMIT}
use Rattle.geo_sign.specs.declared.point.TheConstants.{DATA_LIMIT}

-- the digest of a scan's file, the scale with which it is read, and the position from which all its points were seen, if that
-- is fixed
pub record StampView : Type 0 where
  pub digest : List ℕ
  pub unit : ℕ
  pub fixed : Option Point

-- 32 bytes
abbrev pub IsDigest : List ℕ → Type 0
IsDigest digest = (length digest ≡ 32) × IsBytes digest

-- the scale: scaled units in one unit of the scan
abbrev pub IsUnit : ℕ → Type 0
IsUnit unit = IsBetween 1 UNIT_LIMIT unit

-- a data point, if there is one
abbrev pub IsFixed : Option Point → Type 0
IsFixed fixed = ForSome fixed (IsWithin DATA_LIMIT)

-- the digest, the scale and the fixed scanner are valid
pub record IsStamp (s : StampView) : Type 0 where
  pub digest : IsDigest s.digest
  pub unit : IsUnit s.unit
  pub fixed : IsFixed s.fixed

-- a valid fingerprint, or none
abbrev pub IsVersion : Option StampView → Type 0
IsVersion None = Unit {0}
IsVersion (Some s) = IsStamp s
