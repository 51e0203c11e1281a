-- The effect of a run on its host, for any command.
--
--   WhereTold before after Holds        if the host exposes its state, the states before and after have this relation
--   all_written writes files            the files after these were written in order
--   IsUntouched old new                 the files and the output are unchanged
--   IsCarriedOut writes line old new    all files were written and the line was printed
--   SaidFront, WroteFront               a prefix of the line was printed; a prefix of a file was written
--   StoppedIn writes line old new       the state after a failed call. Either the outputs before the first incomplete
--                                       one are complete, and that one is as it was or a prefix of its text; or all
--                                       outputs are complete, and a prefix of the line was printed
--   EndsBy, StopsBy                     one of these answers was carried out; it was carried out up to a failed call
--   TellsBy Answers status old new      the exposed state after a run with these answers that ended with this status
--   FaultsFit status before after       the fault count rose exactly if the run failed
--   OpensNoMore Answers before after    no more files were opened than the answer reads
--   Run Fits most Answers status before after
--                                       what a run does to its host: it carries an answer out, or stops at a failed
--                                       call, or runs out of memory; nothing else changes. About bytes it states
--                                       something only if the host states its files
use Rattle.std.specs.Option.{IsSomeAnd}
use Rattle.std.specs.Prelude.{IfSome, List, [], ◌∷◌, ◌≡◌, ℕ, ◌++◌, take, ◌⊎◌, ◌+◌, ◌≤◌, false}
use Rattle.host.specs.Counts.{Rose}
use Rattle.host.specs.State.{State, Told, Files, with_file}
use Rattle.command_run.specs.Answers.{Write, Answer}
use Rattle.command_run.specs.declared.status.Status.{Status}
use Rattle.command_run.specs.declared.status.Status.TheVariants.{Done, No, BadArguments, Refused, Failed, NoMemory}

-- if the host exposes its state before, it does so after, and the two states have this relation
abbrev pub WhereTold : State → State → (Told → Told → Type 0) → Type 0
WhereTold before after Holds = IfSome before.told (λ old. IsSomeAnd after.told (λ new. Holds old new))

-- the files after these were written in order
abbrev pub all_written : List Write → Files → Files
all_written [] files = files
all_written ((name, bytes) ∷ rest) files = all_written rest (with_file name bytes files)

-- the files and the output are unchanged
pub record IsUntouched (old new : Told) : Type 0 where
  pub files : new.files ≡ old.files
  pub said : new.said ≡ old.said

-- all files were written and the line was printed
pub record IsCarriedOut (writes : List Write) (line : List ℕ) (old new : Told) : Type 0 where
  pub files : new.files ≡ all_written writes old.files
  pub said : new.said ≡ old.said ++ line

-- all files are complete, and a prefix of the line was printed
pub record SaidFront (line : List ℕ) (old new : Told) : Type 0 where
  pub files : new.files ≡ old.files
  pub length : ℕ
  pub said : new.said ≡ old.said ++ take length line

-- nothing was printed, and the file is unchanged or contains a prefix of its bytes
pub record WroteFront (name bytes : List ℕ) (old new : Told) : Type 0 where
  pub said : new.said ≡ old.said
  pub files : (new.files ≡ old.files) ⊎ ((length : ℕ) × (new.files ≡ with_file name (take length bytes) old.files))

-- a call failed: in the first file that is not complete, or in the line if all files are complete
abbrev pub StoppedIn : List Write → List ℕ → Told → Told → Type 0
StoppedIn [] line old new = SaidFront line old new
StoppedIn ((name, bytes) ∷ rest) line old new =
    WroteFront name bytes old new ⊎ StoppedIn rest line (record old { files = with_file name bytes old.files }) new

-- one of these answers is carried out, and has this status
pub record EndsBy (Answers : Files → Answer → Type 0) (status : Status) (old new : Told) : Type 0 where
  pub answer : Answer
  pub answers : Answers old.files answer
  pub status_is : answer.status ≡ status
  pub carried_out : IsCarriedOut answer.writes answer.line old new

-- one of these answers is carried out up to a call that failed
pub record StopsBy (Answers : Files → Answer → Type 0) (old new : Told) : Type 0 where
  pub answer : Answer
  pub answers : Answers old.files answer
  pub stopped : StoppedIn answer.writes answer.line old new

-- the exposed state after a run with these answers that ended with this status
abbrev pub TellsBy : (Files → Answer → Type 0) → Status → Told → Told → Type 0
TellsBy Answers Failed old new = IsUntouched old new ⊎ StopsBy Answers old new
TellsBy Answers NoMemory old new = IsUntouched old new
TellsBy Answers Done old new = EndsBy Answers Done old new
TellsBy Answers No old new = EndsBy Answers No old new
TellsBy Answers BadArguments old new = EndsBy Answers BadArguments old new
TellsBy Answers Refused old new = EndsBy Answers Refused old new

-- the fault count rose if the run failed, and is else unchanged
abbrev pub FaultsFit : Status → (before after : ℕ) → Type 0
FaultsFit Failed before after = Rose before after
FaultsFit Done before after = after ≡ before
FaultsFit No before after = after ≡ before
FaultsFit BadArguments before after = after ≡ before
FaultsFit Refused before after = after ≡ before
FaultsFit NoMemory before after = after ≡ before

-- no more files were opened than each of these answers reads, however the run ended
abbrev pub OpensNoMore : (Files → Answer → Type 0) → State → State → Type 0
OpensNoMore Answers before after =
    IfSome before.told (λ old. (answer : Answer) → Answers old.files answer → after.opens ≤ before.opens + answer.reads)

-- the effect of a run on its host, with these possible statuses, this maximal number of inputs, and these answers
pub record Run (Fits : Status → Type 0) (most : ℕ) (Answers : Files → Answer → Type 0) (status : Status)
    (before after : State) : Type 0 where
  -- this status is possible
  pub fits : Fits status
  -- the fault count rose exactly if the run failed
  pub faults : FaultsFit status before.faults after.faults
  -- no more files were opened than the run may read
  pub opens : after.opens ≤ before.opens + most
  -- no file is left open for writing
  pub writing : after.writing ≡ false
  -- the exposed state
  pub tells : WhereTold before after (λ old new. TellsBy Answers status old new)
  -- no more files were opened than this answer reads
  pub reads : OpensNoMore Answers before after
