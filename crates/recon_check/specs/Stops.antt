-- Why a check stops.
--
--   StopsFor P stop    P holds of the reason, or the check ran out of memory
use Rattle.recon_check.specs.declared.answer.Reason.{Reason}
use Rattle.recon_check.specs.declared.stop.Stop.{Stop}
use Rattle.recon_check.specs.declared.stop.Stop.TheVariants.{Fault, NoMemory}

-- P holds of the reason, or the check ran out of memory
abbrev pub StopsFor : (Reason → Type 0) → Stop → Type 0
StopsFor P (Fault reason) = P reason
StopsFor P NoMemory = Unit {0}
