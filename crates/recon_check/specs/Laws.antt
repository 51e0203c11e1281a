-- What holds of answers.
--
--   OneAnswer     no mesh and certificate have two answers
use Rattle.std.specs.Prelude.{ℕ, ◌≡◌, List}
use Rattle.certificate.specs.Stamps.{StampView}
use Rattle.flow_net.specs.declared.votes.Settings.{Settings}
use Rattle.scan_rows.specs.Shown.{Shown}
use Rattle.recon_check.specs.Answers.{IsAnswer}
use Rattle.recon_check.specs.declared.answer.Answer.{Answer}

-- no mesh and certificate have two answers
abbrev pub OneAnswer : Type 0
OneAnswer =
    (scan : Shown) (settings : Settings) (stamp : StampView) (mesh cert : List ℕ) (answer other : Answer)
    → IsAnswer scan settings stamp mesh cert answer
    → IsAnswer scan settings stamp mesh cert other → answer ≡ other
