-- The outcome of a run, from what its steps do.
--
-- A run reads, and then carries an answer out, or its reading is all that it does. Reading leaves every file and what was
-- said (same_told), so an answer that is carried out behind it, whole or up to a failed call, is so from the beginning
-- (carried_after, stopped_after by the files to be written). A host may tell nothing: told_so and told_after_reading take
-- the cases of what is told before, between and after. obeyed_by joins both steps, and starved_by is for a run that found no
-- memory for what it read. All of it holds for any set of answers.
use Rattle.std.proofs.Common.{◌≡◌, ◌⊎◌, inl, inr, ℕ, ◌+◌, ◌≤◌, List, [], ◌∷◌, ◌++◌, take, Option, Some, None, IfSome, refl, sym, ap}
use Rattle.std.proofs.Common.{subst, ◌∙◌}
use Rattle.std.specs.Option.{IsSomeAnd}
use Rattle.host.specs.Counts.{Rose}
use Rattle.host.specs.State.{State, Told, Files, with_file}
use Rattle.host.specs.Whole.{apart_from_left}
use Rattle.command_run.specs.Answers.{Answer, Write}
use Rattle.command_run.specs.Outcome.{Run, TellsBy, EndsBy, IsCarriedOut, IsUntouched, StoppedIn, FaultsFit, OpensNoMore, all_written}
use Rattle.command_run.specs.Steps.{IsAnswered, ReadsBy, CarriesOut}
use Rattle.command_run.specs.declared.status.Status.{Status}
use Rattle.command_run.specs.declared.status.Status.TheVariants.{Done, No, BadArguments, Refused, Failed, NoMemory}

-- what is told before and after, from a fact of what is told before
told_so : (before after : Option Told) (A : Told → Type 0) (P Q : Told → Told → Type 0)
    → ((old new : Told) → A old → P old new → Q old new)
    → IfSome before A → IfSome before (λ old. IsSomeAnd after (λ new. P old new))
    → IfSome before (λ old. IsSomeAnd after (λ new. Q old new))
told_so None after A P Q each a p = tt
told_so (Some old) None A P Q each a p = p
told_so (Some old) (Some new) A P Q each a p = each old new a p

-- a reading changes no file and says nothing
pub same_told : (mid old : Told) → apart_from_left (Some mid) ≡ apart_from_left (Some old) → IsUntouched old mid
same_told mid old e = record { files = ap (λ (o : Option Told). files_in o) e; said = ap (λ (o : Option Told). said_in o) e }
  where
    files_in : Option Told → Files
    files_in None = mid.files
    files_in (Some told) = told.files

    said_in : Option Told → List ℕ
    said_in None = mid.said
    said_in (Some told) = told.said

-- what is told after a reading and something else
told_after_reading : (before mid after : Option Told) (P Q : Told → Told → Type 0)
    → ((old now new : Told) → IsUntouched old now → P now new → Q old new)
    → apart_from_left mid ≡ apart_from_left before
    → IfSome mid (λ now. IsSomeAnd after (λ new. P now new)) → IfSome before (λ old. IsSomeAnd after (λ new. Q old new))
told_after_reading None mid after P Q each only p = tt
told_after_reading (Some old) None after P Q each only p = cc
told_after_reading (Some old) (Some now) None P Q each only p = p
told_after_reading (Some old) (Some now) (Some new) P Q each only p = each old now new (same_told now old only) p

-- only readings: all else is as it was
untouched : (before after : Option Told) → apart_from_left after ≡ apart_from_left before
    → IfSome before (λ old. IsSomeAnd after (λ new. IsUntouched old new))
untouched None after only = tt
untouched (Some old) None only = cc
untouched (Some old) (Some new) only = same_told new old only

-- an answer is carried out after a reading as before it
carried_after : (writes : List Write) (line : List ℕ) (old now new : Told) → IsUntouched old now
    → IsCarriedOut writes line now new → IsCarriedOut writes line old new
carried_after writes line old now new same carried =
    record {
      files = carried.files ∙ ap (all_written writes) same.files;
      said = carried.said ∙ ap (λ (said : List ℕ). said ++ line) same.said;
    }

-- a call fails on the way after a reading as before it
stopped_after : (writes : List Write) (line : List ℕ) (old now new : Told) → IsUntouched old now → StoppedIn writes line now new
    → StoppedIn writes line old new
stopped_after [] line old now new same stopped =
    record {
      files = stopped.files ∙ same.files;
      length = stopped.length;
      said = stopped.said ∙ ap (λ (said : List ℕ). said ++ take stopped.length line) same.said;
    }
stopped_after ((name, bytes) ∷ rest) line old now new same (inl front) =
    inl (record { said = front.said ∙ same.said; files = in_files front.files })
  where
    in_files : ((new.files ≡ now.files) ⊎ ((length : ℕ) × (new.files ≡ with_file name (take length bytes) now.files)))
        → ((new.files ≡ old.files) ⊎ ((length : ℕ) × (new.files ≡ with_file name (take length bytes) old.files)))
    in_files (inl e) = inl (e ∙ same.files)
    in_files (inr (length, e)) = inr (length, e ∙ ap (with_file name (take length bytes)) same.files)
stopped_after ((name, bytes) ∷ rest) line old now new same (inr stopped) =
    inr (stopped_after rest line (record old { files = with_file name bytes old.files })
    (record now { files = with_file name bytes now.files }) new
    (record { files = ap (with_file name bytes) same.files; said = same.said }) stopped)

-- an answer has a status with which a command ends
tells_end : (Answers : Files → Answer → Type 0) (status : Status) (old new : Told) → IsAnswered status
    → EndsBy Answers status old new → TellsBy Answers status old new
tells_end Answers Done old new answered ends = ends
tells_end Answers No old new answered ends = ends
tells_end Answers BadArguments old new answered ends = ends
tells_end Answers Refused old new answered ends = ends
tells_end Answers Failed old new answered ends = absurd answered
tells_end Answers NoMemory old new answered ends = absurd answered

-- with such a status the count of faults is as it was
no_fault : (status : Status) (before after : ℕ) → IsAnswered status → after ≡ before → FaultsFit status before after
no_fault Done before after answered same = same
no_fault No before after answered same = same
no_fault BadArguments before after answered same = same
no_fault Refused before after answered same = same
no_fault Failed before after answered same = absurd answered
no_fault NoMemory before after answered same = absurd answered

-- no more files were opened
opens_as : (Answers : Files → Answer → Type 0) (before mid after : State) → after.opens ≡ mid.opens
    → OpensNoMore Answers before mid → OpensNoMore Answers before after
opens_as Answers before mid after same reads =
    subst (λ (n : ℕ). IfSome before.told
    (λ old. (answer : Answer) → Answers old.files answer → n ≤ before.opens + answer.reads)) (sym same) reads

-- one of the answers is carried out, or a call fails on the way
pub obeyed_by : (Fits : Status → Type 0) (most : ℕ) (Answers : Files → Answer → Type 0) (status : Status) (writes : List Write)
    (line : List ℕ) (result : Status) (before mid after : State)
    → Fits Failed → Fits status → IsAnswered status
    → IfSome before.told
    (λ told. (reads : ℕ) × Answers told.files (record { status = status; reads = reads; writes = writes; line = line }))
    → ReadsBy most Answers before mid → mid.faults ≡ before.faults
    → CarriesOut writes line status result mid after
    → Run Fits most Answers result before after
obeyed_by Fits most Answers status writes line result before mid after fails fits answered answers reads same (inl (is, all)) =
    subst (λ (s : Status). Run Fits most Answers s before after) (sym is) (record {
      fits = fits;
      faults = no_fault status before.faults after.faults answered (all.faults ∙ same);
      opens = subst (λ (n : ℕ). n ≤ before.opens + most) (sym all.opens) reads.opens;
      writing = all.writing;
      tells =
          told_so before.told after.told
          (λ old. (reads : ℕ) × Answers old.files (record { status = status; reads = reads; writes = writes; line = line }))
          (IsCarriedOut writes line) (TellsBy Answers status)
          (λ old new (reads, answers) carried.
          tells_end Answers status old new answered
          (record {
            answer = record { status = status; reads = reads; writes = writes; line = line };
            answers = answers;
            status_is = refl;
            carried_out = carried;
          }))
          answers
          (told_after_reading before.told mid.told after.told (IsCarriedOut writes line) (IsCarriedOut writes line)
          (carried_after writes line) reads.told all.told);
      reads = opens_as Answers before mid after all.opens reads.no_more;
    })
obeyed_by Fits most Answers status writes line result before mid after fails fits answered answers reads same
    (inr (is, stopped)) =
    subst (λ (s : Status). Run Fits most Answers s before after) (sym is) (record {
      fits = fails;
      faults = subst (λ (n : ℕ). Rose n after.faults) same stopped.faults;
      opens = subst (λ (n : ℕ). n ≤ before.opens + most) (sym stopped.opens) reads.opens;
      writing = stopped.writing;
      tells =
          told_so before.told after.told
          (λ old. (reads : ℕ) × Answers old.files (record { status = status; reads = reads; writes = writes; line = line }))
          (StoppedIn writes line) (TellsBy Answers Failed)
          (λ old new (reads, answers) on_the_way.
          inr (record {
            answer = record { status = status; reads = reads; writes = writes; line = line };
            answers = answers;
            stopped = on_the_way;
          }))
          answers
          (told_after_reading before.told mid.told after.told (StoppedIn writes line) (StoppedIn writes line)
          (stopped_after writes line) reads.told stopped.told);
      reads = opens_as Answers before mid after stopped.opens reads.no_more;
    })

-- there was no memory for an answer
pub starved_by : (Fits : Status → Type 0) (most : ℕ) (Answers : Files → Answer → Type 0) (before after : State) → Fits NoMemory
    → ReadsBy most Answers before after → after.faults ≡ before.faults → Run Fits most Answers NoMemory before after
starved_by Fits most Answers before after fits reads same =
    record {
      fits = fits;
      faults = same;
      opens = reads.opens;
      writing = reads.writing;
      tells = untouched before.told after.told reads.told;
      reads = reads.no_more;
    }
