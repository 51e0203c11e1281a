use Rattle.std.proofs.Common.{◌≡◌, ap, refl, arith, length, [], ◌∷◌, None}
use Rattle.std.proofs.lemmas.List.Elements.{All-nil}
use Rattle.certificate.specs.Certificates.{Claim, claim_of}
use Rattle.solution.proofs.SightLists.{few_points}
use Rattle.scan_rows.specs.Shown.{Shown}
use Rattle.scan_rows.specs.Views.{shown_of}
use Rattle.recon_check.specs.declared.answer.Which.TheVariants.{Points, Scanners, Sights, Vote, Smooth}
use Rattle.recon_check.proofs.FirstCounts.{IsSame, IsToldOf, none_told, or_told, some_told}
use Rattle.recon_check.proofs.counts.other_count.Goals as goal

pub overflow_cast-points : goal.overflow_cast-points
overflow_cast-points c = omega (arith, ap length c.requires, few_points c.args.scan.now)

-- one number after another
result_is : (c : goal.After-or-4)
    → IsToldOf (shown_of c.args.scan.now) c.args.settings (claim_of c.args.cert.now)
    (Points ∷ Scanners ∷ Sights ∷ Vote ∷ Smooth ∷ []) c.or-4.result
result_is c =
    let scan : Shown = shown_of c.args.scan.now in
    let claim : Claim = claim_of c.args.cert.now in
    let scanners : c.len.result ≡ length scan.scanners = omega (arith, c.len.ensures, c.args.scan.now.scanners.ok.0) in
    let sights : c.len-2.result ≡ length scan.seen = omega (arith, c.len-2.ensures, c.args.scan.now.seen.ok.0) in
    or_told scan c.args.settings claim Smooth _ c.or-3.result c.other-5.result _ refl c.other-5.ensures c.or-4.ensures
    (or_told scan c.args.settings claim Vote _ c.or-2.result c.other-4.result _ refl c.other-4.ensures c.or-3.ensures
    (or_told scan c.args.settings claim Sights _ c.or.result c.other-3.result _ sights c.other-3.ensures c.or-2.ensures
    (or_told scan c.args.settings claim Scanners _ c.other.result c.other-2.result _ scanners c.other-2.ensures c.or.ensures
    (or_told scan c.args.settings claim Points _ None c.other.result c.other.result (ap length c.requires) c.other.ensures refl
    (All-nil (IsSame scan c.args.settings claim))))))

pub returns-clause-same : goal.returns-clause-same
returns-clause-same c =
    none_told (shown_of c.args.scan.now) c.args.settings (claim_of c.args.cert.now) c.or-4.result (result_is c)

pub returns-clause-other : goal.returns-clause-other
returns-clause-other c =
    some_told (shown_of c.args.scan.now) c.args.settings (claim_of c.args.cert.now) c.or-4.result (result_is c)
