-- Whether a certificate belongs to this run: its fingerprint of the input against the digest of the scan's file, the scale and the fixed
-- scanner of the run.
--
--   IsStampedFor here claim          the certificate has no fingerprint, or this one
--   IsOtherPart here stated reason   the reason is the first part in which a stated fingerprint differs from this
--                                    run's, with both values: the digest, the scale or the fixed scanner
--   IsOtherStamp here claim reason   the certificate has a fingerprint, and this is the first part of it that differs
use Rattle.std.specs.Prelude.{◌≡◌, ◌≢◌, Some}
use Rattle.std.specs.Option.{ForSome}
use Rattle.certificate.specs.Stamps.{StampView}
use Rattle.certificate.specs.Certificates.{Claim}
use Rattle.recon_check.specs.declared.answer.Reason.{Reason}
use Rattle.recon_check.specs.declared.answer.Reason.TheVariants.{OtherScan, OtherUnit, OtherFixed}

-- the certificate has no fingerprint, or this one
abbrev pub IsStampedFor : StampView → Claim → Type 0
IsStampedFor here claim = ForSome claim.stamp (λ stated. stated ≡ here)

-- the first part that differs: the digest, the scale, the fixed scanner
abbrev pub IsOtherPart : (here stated : StampView) → Reason → Type 0
IsOtherPart here stated (OtherScan a b) = (a ≡ stated.digest) × (b ≡ here.digest) × (a ≢ b)
IsOtherPart here stated (OtherUnit a b) = (stated.digest ≡ here.digest) × (a ≡ stated.unit) × (b ≡ here.unit) × (a ≢ b)
IsOtherPart here stated (OtherFixed p q) =
    (stated.digest ≡ here.digest) × (stated.unit ≡ here.unit) × (p ≡ stated.fixed) × (q ≡ here.fixed) × (p ≢ q)
IsOtherPart here stated _ = ⊥

-- the certificate has a fingerprint, and this is the first part of it that differs
pub record IsOtherStamp (here : StampView) (claim : Claim) (reason : Reason) : Type 0 where
  pub stated : StampView
  pub stamp_is : claim.stamp ≡ Some stated
  pub part : IsOtherPart here stated reason
