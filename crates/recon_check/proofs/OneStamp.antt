-- A stamp has one first part that differs, and none where it is that of this run.
--
-- Of two parts that are said to differ first the later one says that the earlier is the same, so they are one part (one_part), and what
-- is told of it are the two values that it has. A certificate has one stamp (one_stamp), and one that has that of this run differs in no
-- part (not_other).
use Rattle.std.proofs.Common.{◌≡◌, ap, sym, subst, ◌∙◌, arith}
use Rattle.std.proofs.lemmas.Option.{same_Some}
use Rattle.certificate.specs.Stamps.{StampView}
use Rattle.certificate.specs.Certificates.{Claim}
use Rattle.recon_check.specs.Stamps.{IsStampedFor, IsOtherPart, IsOtherStamp}
use Rattle.recon_check.specs.declared.answer.Reason.{Reason}
use Rattle.recon_check.specs.declared.answer.Reason.TheVariants.{OtherScan, OtherUnit, OtherFixed}

-- no part of a stamp differs from itself
no_part : (here stated : StampView) (reason : Reason) → stated ≡ here → IsOtherPart here stated reason → ⊥
no_part here stated (OtherScan a b) same h = h.2 (h.0 ∙ ap (λ (s : StampView). s.digest) same ∙ sym h.1)
no_part here stated (OtherUnit a b) same h = h.3 (h.1 ∙ ap (λ (s : StampView). s.unit) same ∙ sym h.2)
no_part here stated (OtherFixed p q) same h = h.4 (h.2 ∙ ap (λ (s : StampView). s.fixed) same ∙ sym h.3)
no_part here stated _ same h = absurd h

pub not_other : (here : StampView) (claim : Claim) (reason : Reason) → IsStampedFor here claim → IsOtherStamp here claim reason
    → ⊥
not_other here claim reason stamped other = no_part here other.stated reason (stamped other.stated other.stamp_is) other.part

one_part : (here stated : StampView) (reason other : Reason) → IsOtherPart here stated reason → IsOtherPart here stated other
    → reason ≡ other
one_part here stated (OtherScan a b) (OtherScan c d) h k =
    let first : a ≡ c = h.0 ∙ sym k.0 in
    let second : b ≡ d = h.1 ∙ sym k.1 in
    cc
one_part here stated (OtherUnit a b) (OtherUnit c d) h k =
    let first : a ≡ c = h.1 ∙ sym k.1 in
    let second : b ≡ d = h.2 ∙ sym k.2 in
    cc
one_part here stated (OtherFixed p q) (OtherFixed a b) h k =
    let first : p ≡ a = h.2 ∙ sym k.2 in
    let second : q ≡ b = h.3 ∙ sym k.3 in
    cc
one_part here stated _ _ h k = absurd (first_of (assumption, grind arith))

pub one_stamp : (here : StampView) (claim : Claim) (reason other : Reason) → IsOtherStamp here claim reason
    → IsOtherStamp here claim other → reason ≡ other
one_stamp here claim reason other h k =
    let same : k.stated ≡ h.stated = same_Some k.stated h.stated (sym k.stamp_is ∙ h.stamp_is) in
    one_part here h.stated reason other h.part (subst (λ (s : StampView). IsOtherPart here s other) same k.part)
