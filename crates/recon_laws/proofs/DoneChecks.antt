-- Runs of `check` that are done.
--
-- A run in which no call failed leaves the count of failed calls, and so does one that is done (`had_no_failure`). No other part of its
-- contract speaks of that count, so the same contract holds of states that count from 0 (`from_zero`), and there a count that is left has
-- not risen (`none_rose`). So the theorem of `recon_cmd`, whose premise is that no call failed, applies to these states, and says the same
-- of the files.
use Rattle.std.proofs.Common.{ℕ, ◌≢◌, refl, ◌∙◌, arith, List, Option, Some}
use Rattle.host.specs.Counts.{Rose}
use Rattle.host.specs.State.{State}
use Rattle.command_run.specs.Outcome.{FaultsFit}
use Rattle.command_run.specs.declared.status.Status.{Status}
use Rattle.command_run.specs.declared.status.Status.TheVariants.{Done, No, BadArguments, Refused, Failed, NoMemory}
use Rattle.recon_cmd.specs.CheckLaws.{ChecksOn}
use Rattle.recon_cmd.specs.Commands.{Asked, Outcome, check}
use Rattle.recon_cmd.specs.Options.{Options}
use Rattle.recon_cmd.specs.Words.{SurfaceNames}
use Rattle.recon_cmd.proofs.CheckedMeshes.{checked_is_best, checked_text_is_best}
use Rattle.recon_laws.specs.Laws.{DoneCheckIsBest, DoneCheckOfPrintedIsBest, DoneHadNoFailure, EndsDone}
use Rattle.recon_laws.proofs.Printed.{text_is_printed}

pub had_no_failure : DoneHadNoFailure
had_no_failure = λ asked before after outcome. outcome.faults

-- the same state, with no failed call counted
abbrev pub unfailed : State → State
unfailed state = record state { faults = 0 }

-- a count that is 0 before and after fits each status but one
no_faults : (status : Status) → status ≢ Failed → FaultsFit status 0 0
no_faults Done failed = refl
no_faults No failed = refl
no_faults BadArguments failed = refl
no_faults Refused failed = refl
no_faults NoMemory failed = refl
no_faults Failed failed = absurd (failed refl)

-- a run in which no call failed is one between such states
pub from_zero : (asked : Option Asked) (status : Status) (before after : State) → status ≢ Failed → Outcome asked status before after
    → Outcome asked status (unfailed before) (unfailed after)
from_zero asked status before after failed outcome =
    record {
      fits = outcome.fits;
      faults = no_faults status failed;
      opens = outcome.opens;
      writing = outcome.writing;
      tells = outcome.tells;
      reads = outcome.reads;
    }

done_is_no_failure : Done ≢ Failed
done_is_no_failure e = cc

pub none_rose : ¬ Rose 0 0
none_rose rose = absurd (omega (arith, rose.1))

checks_on : (names : SurfaceNames) (output : Option (List ℕ)) (options : Options) (bytes mesh cert : List ℕ) (before after : State)
    → EndsDone names output options bytes mesh cert before after
    → ChecksOn names output options bytes mesh cert Done (unfailed before) (unfailed after)
checks_on names output options bytes mesh cert before after ends =
    record {
      told = ends.told;
      tells = ends.tells;
      input = ends.input;
      mesh_file = ends.mesh_file;
      cert_file = ends.cert_file;
      no_failure = none_rose;
      outcome = from_zero (Some (check names output options)) Done before after done_is_no_failure ends.outcome;
    }

pub done_check_is_best : DoneCheckIsBest
done_check_is_best = λ names output options bytes mesh cert before after ends.
    checked_is_best names output options bytes mesh cert (unfailed before) (unfailed after)
    (checks_on names output options bytes mesh cert before after ends)

pub done_check_of_printed_is_best : DoneCheckOfPrintedIsBest
done_check_of_printed_is_best = λ names output options scan bytes mesh cert before after printed ends.
    checked_text_is_best names output options scan bytes mesh cert (unfailed before) (unfailed after)
    (record {
      shown = printed.shown;
      in_units = printed.in_units;
      none_fixed = printed.none_fixed;
      text_is = printed.text_is ∙ text_is_printed scan;
    })
    (checks_on names output options bytes mesh cert before after ends)
