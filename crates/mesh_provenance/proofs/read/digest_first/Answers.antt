use Rattle.std.proofs.Common.{refl}
use Rattle.line_text.proofs.Kept.{IfNone-holds}
use Rattle.line_text.proofs.Parts.{behind_word}
use Rattle.cert_text.proofs.StampRefused.{no_digest, no_digest_line}
use Rattle.mesh_provenance.proofs.FileCodes.{from_scan}
use Rattle.mesh_provenance.proofs.read.digest_first.Goals as goal

pub returns-in_err-token-clause-none : goal.returns-in_err-token-clause-none
returns-in_err-token-clause-none c =
    IfNone-holds _ _
    (from_scan c.args.text.now c.in_ok-rest.rest.now (behind_word _ _ _ _ c.sha256.ensures c.in_ok-rest.ensures.some)
    (no_digest_line _ c.in_ok-rest.rest.now refl c.in_err-token.ensures.none))

pub returns-in_err-digest-clause-none : goal.returns-in_err-digest-clause-none
returns-in_err-digest-clause-none c =
    IfNone-holds _ _
    (from_scan c.args.text.now c.in_ok-rest.rest.now (behind_word _ _ _ _ c.sha256.ensures c.in_ok-rest.ensures.some)
    (no_digest _ c.in_ok-rest.rest.now c.in_ok-token.token.now c.in_ok-token.rest.now refl c.in_ok-token.ensures.some.0
    c.in_ok-token.ensures.some.1 c.in_err-digest.ensures.none))
