-- With which statuses `sweep` ends if no call fails.
use Rattle.std.proofs.Common.{ap}
use Rattle.command_run.specs.Answers.{Answer, file_limit}
use Rattle.command_run.specs.declared.status.Status.TheVariants.{Done, Refused}
use Rattle.recon_cmd.specs.Sweep.{WritesSweep}
use Rattle.recon_cmd.specs.SweepLaws.{AcceptedIsSwept, RefusedIsNotSwept}
use Rattle.recon_cmd.proofs.Completeness.{ends_so, scan_opened, scan_refused}
use Rattle.recon_cmd.proofs.FileAnswers.{scan_accepted}

pub accepted_is_swept : AcceptedIsSwept
accepted_is_swept = λ asked bytes scan status before after old new texts runs within read.
    ends_so _ _ _ status before after runs.told runs.tells runs.no_failure runs.outcome.run Done
    (λ answer answers. ap (λ (a : Answer). a.status)
    (scan_opened asked.input asked.options (λ _. WritesSweep asked new texts) runs.told.files bytes scan answer runs.file
    (scan_accepted file_limit asked.options bytes scan within read) answers).is)

pub refused_is_not_swept : RefusedIsNotSwept
refused_is_not_swept = λ asked bytes status before after old new texts runs why.
    ends_so _ _ _ status before after runs.told runs.tells runs.no_failure runs.outcome.run Refused
    (λ answer. scan_refused asked.input asked.options (λ _. WritesSweep asked new texts) runs.told.files bytes answer runs.file why)
