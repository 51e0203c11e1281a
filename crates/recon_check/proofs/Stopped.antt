-- What is said of a stop.
use Rattle.std.proofs.Common.{◌≡◌, Result, Ok, Err, IfErr, Option, Some, None, IfNone, sym, subst, ◌∙◌, ap}
use Rattle.std.specs.Result.{IsErrAnd}
use Rattle.std.proofs.lemmas.Result.{err_from_is_err_and}
use Rattle.recon_check.specs.Stops.{StopsFor}
use Rattle.recon_check.specs.declared.answer.Reason.{Reason}
use Rattle.recon_check.specs.declared.stop.Stop.{Stop}
use Rattle.recon_check.specs.declared.stop.Stop.TheVariants.{Fault, NoMemory}

-- a stop that is passed on
pub passed_on : {T : Type 0} (r : Result T Stop) (stop : Stop) (P : Reason → Type 0) → IsErrAnd r (λ given. given ≡ stop)
    → StopsFor P stop → IfErr r (StopsFor P)
passed_on {T} r stop P err h =
    let p = err_from_is_err_and r err in
    subst (λ (o : Result T Stop). IfErr o (StopsFor P)) (sym (p.1 ∙ ap Err p.2)) h

-- what follows of its reason follows of a stop
pub stop_weaker : (stop : Stop) (P Q : Reason → Type 0) → ((reason : Reason) → P reason → Q reason) → StopsFor P stop
    → StopsFor Q stop
stop_weaker (Fault reason) P Q f h = f reason h
stop_weaker NoMemory P Q f h = tt

-- and where there may be none
pub result_weaker : {T : Type 0} (r : Result T Stop) (P Q : Reason → Type 0) → ((reason : Reason) → P reason → Q reason)
    → IfErr r (StopsFor P) → IfErr r (StopsFor Q)
result_weaker (Ok x) P Q f h = tt
result_weaker (Err stop) P Q f h = stop_weaker stop P Q f h

-- ---- and of a reason that there may be
pub none_from : {T : Type 0} (found : Option T) (P : Type 0) → P → IfNone found P
none_from None P h = h
none_from (Some x) P h = tt
