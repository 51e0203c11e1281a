use Rattle.line_text.proofs.Kept.{IfNone-holds}
use Rattle.line_text.proofs.Parts.{behind_word}
use Rattle.cert_text.proofs.StampRefused.{no_digest, no_digest_line}
use Rattle.cert_text.proofs.stamp_read.digest_first.Goals as goal

pub returns-in_err-token-clause-none : goal.returns-in_err-token-clause-none
returns-in_err-token-clause-none c =
    IfNone-holds _ _
    (no_digest_line c.args.text.now c.in_ok-rest.rest.now (behind_word _ _ _ _ c.scan.ensures c.in_ok-rest.ensures.some)
    c.in_err-token.ensures.none)

pub returns-in_err-digest-clause-none : goal.returns-in_err-digest-clause-none
returns-in_err-digest-clause-none c =
    IfNone-holds _ _
    (no_digest c.args.text.now c.in_ok-rest.rest.now c.in_ok-token.token.now c.in_ok-token.rest.now
    (behind_word _ _ _ _ c.scan.ensures c.in_ok-rest.ensures.some) c.in_ok-token.ensures.some.0 c.in_ok-token.ensures.some.1
    c.in_err-digest.ensures.none)
