use Rattle.std.proofs.Common.{ℕ, List, Some, ap, ◌++◌, ◌∙◌}
use Rattle.certificate.specs.Certificates.{claim_of, stamp_view}
use Rattle.cert_text.specs.Texts.{cert_text}
use Rattle.recon_build.proofs.WellFormed.{version_of}
use Rattle.recon_cmd.specs.Check.{restamped}
use Rattle.recon_cmd.proofs.commands.check.restamped_text.Goals as goal

pub push_cert-requires : goal.push_cert-requires
push_cert-requires c =
    let formed = c.requires in
    record {
      stamp = version_of (Some c.args.stamp.now);
      counts = formed.counts;
      inside = formed.inside;
      flow = formed.flow;
      sink = formed.sink;
    }

pub returns : goal.returns
returns c =
    c.in_ok-push_cert.ensures.printed
    ∙ ap (λ (front : List ℕ). front ++ cert_text (restamped (stamp_view c.args.stamp.now) (claim_of c.args.cert)))
    c.new-text.ensures.items
