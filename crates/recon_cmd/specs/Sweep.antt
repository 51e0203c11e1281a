-- `sweep IN FROM STEP N OUT1 .. OUTN`: best surfaces of a scan in the formats of the writers that were passed. Its answer
-- depends on these writers.
--
--   SweepAsked                       what `sweep` is asked for: the names of the scan and the outputs, the step from
--                                    each area weight to the next, and the options at the first area weight
--   sweep_keys                       the options that `sweep` may have
--   asked_with input from ..         the request with these options
--   sweep_behind input from ..       the request in the arguments after the numbers
--   sweep_words_of forms words       the request in the arguments after `sweep`, if they name this number of outputs
--   sweep_of forms words             the scan, the step of the area weights, the outputs and the options of `sweep`, if
--                                    there are as many outputs as mesh writers
--   sweep_asked words                the request of `sweep` (`SweepAsked`) that the program holds
--   entries_behind words             the number of writers for the arguments after `sweep`
--   entries_of words                 how many mesh writers the arguments of `sweep` ask for: as many as the fifth says,
--                                    or none
--   FitsForms words forms            as many outputs as writers, and weights within their limit
--   sweep_line n first last          the line that `sweep` prints when it is done
--   WritesSweep asked ..             the answer that writes the writers' texts
--   SweepAnswer limit asked forms texts files answer
--                                    the scan is rejected; or each mesh writer has received all of the mesh of its own
--                                    weight, the writers' texts are written to the outputs, in order, and the costs of
--                                    the first and the last are printed (`WritesSweep`)
--   IsFileOfScan name options ..     if the host exposes its files, the named one is a text of the scan
--   AreHandedEntries asked ..        the writers are unchanged, or have received prefixes of their meshes
--   SweepFormsAfter asked status before old new
--                                    after status 0 each mesh writer has received exactly the mesh of its weight. After
--                                    3 the writers are as they were. After 4 and 5 each is fresh or has received a
--                                    prefix of that mesh, or they are as they were
--   HaveEntriesOf asked scan ..      each writer has received the mesh of its entry, and the costs of the first and last are
--                                    these
--   SweepCarries asked scan ..       the meshes have been passed to the writers, and their texts are written
--   SweepHandOut asked scan ..       the continuation after the scan was read
--   SweepOutcome limit asked ..      the effect of a run on its host and on the writers
use Rattle.std.specs.List.{zip}
use Rattle.std.specs.Prelude.{ℕ, List, [], ◌∷◌, ◌-◌, nat_le, Option, Some, None, if◌then◌else◌, ◌==◌, codes, unwrap_or, map, string_bytes}
use Rattle.std.specs.Prelude.{◌≡◌, ◌≤◌, length, ◌++◌, IfSome, Ok, ◌⊎◌}
use Rattle.std.specs.Str.{bytes_eq}
use Rattle.flow_net.specs.declared.votes.TheConstants.{WEIGHT_LIMIT}
use Rattle.host.specs.State.{Files, State}
use Rattle.mesh_form.specs.Received.{Received}
use Rattle.ply_head.specs.Optional.{◌>>=◌}
use Rattle.scan_rows.specs.Shown.{Shown}
use Rattle.sweep.specs.Entries.{smoothing_of, CostsAt, HaveEntries, given_by, HaveEntryFronts}
use Rattle.command_run.specs.Answers.{Answer}
use Rattle.command_run.specs.Lines.{labelled}
use Rattle.command_run.specs.Outcome.{Run}
use Rattle.command_run.specs.Steps.{CarriesOut}
use Rattle.command_run.specs.Words.{is_name}
use Rattle.command_run.specs.declared.status.Status.{Status}
use Rattle.command_run.specs.declared.status.Status.TheVariants.{Done, No, BadArguments, Refused, Failed, NoMemory}
use Rattle.recon_cmd.specs.Answers.{read_as, MayRefuse, ToScan}
use Rattle.recon_cmd.specs.OptionViews.{options_view}
use Rattle.recon_cmd.specs.Options.{Options, number_between}
use Rattle.recon_cmd.specs.Words.{named}
use Rattle.recon_cmd.specs.declared.commands.sweeping.SweepWords.{SweepWords}
use Rattle.recon_cmd.specs.declared.options.keys.Key.{Key}
use Rattle.recon_cmd.specs.declared.options.keys.Key.TheVariants.{Unit as unit_key, Vote as vote_key, Scanner as scanner_key}

-- the names of `sweep IN FROM STEP N OUT1 .. OUTN`, the increase from each weight to the next, and the options, at the first
-- weight
pub record SweepAsked : Type 0 where
  pub input : List ℕ
  pub step : ℕ
  pub outputs : List (List ℕ)
  pub options : Options

-- the options of `sweep`
abbrev pub sweep_keys : List Key
sweep_keys = unit_key ∷ vote_key ∷ scanner_key ∷ []

-- the request with these options at the first weight
abbrev pub asked_with : (input : List ℕ) → (from step : ℕ) → (outputs : List (List ℕ)) → Options → SweepAsked
asked_with input from step outputs options =
    record { input = input; step = step; outputs = outputs; options = record options { smooth = from } }

-- This number of names beside that of the scan, and then options in any order, with a largest weight within the limit. Entry k,
-- counted from 0, has the weight from + k * step.
abbrev pub sweep_behind : (input : List ℕ) → (from step count : ℕ) → List (List ℕ) → Option SweepAsked
sweep_behind input from step count words =
    if nat_le (smoothing_of from step (count - 1)) WEIGHT_LIMIT
    then (named count sweep_keys words
    >>= λ held. if is_name input held.names then Some (asked_with input from step held.names held.options) else None)
    else None

-- a scan, a weight, an increase, the number of writers, as many outputs, and options
abbrev pub sweep_words_of : (forms : ℕ) → List (List ℕ) → Option SweepAsked
sweep_words_of forms (input ∷ from ∷ step ∷ count ∷ words) = do
  least ← number_between 0 WEIGHT_LIMIT from
  rise ← number_between 1 WEIGHT_LIMIT step
  entries ← number_between 1 64 count
  if entries == forms then sweep_behind input least rise forms words else None
sweep_words_of forms words = None

-- the command, with these arguments after it
abbrev pub sweep_of : (forms : ℕ) → List (List ℕ) → Option SweepAsked
sweep_of forms (word ∷ words) = if bytes_eq word (codes "sweep") then sweep_words_of forms words else None
sweep_of forms [] = None

-- the number of writers for the arguments after `sweep`: that in the fourth, 1 to 64, and else none
abbrev pub entries_behind : List (List ℕ) → ℕ
entries_behind (input ∷ from ∷ step ∷ count ∷ words) = unwrap_or (number_between 1 64 count) 0
entries_behind words = 0

-- the same for arguments whose first is `sweep`
abbrev pub entries_of : List (List ℕ) → Option ℕ
entries_of [] = None
entries_of (word ∷ words) = if bytes_eq word (codes "sweep") then Some (entries_behind words) else None

-- the request that the program holds
abbrev pub sweep_asked : SweepWords → SweepAsked
sweep_asked words = record {
  input = words.input.now;
  step = words.step;
  outputs = map string_bytes words.outputs.now;
  options = options_view words.options;
}

-- as many outputs as writers, at least one, and a largest weight within the limit
pub record FitsForms (words : SweepWords) (forms : ℕ) : Type 0 where
  pub as_many : length words.outputs.now ≡ forms
  pub some : 1 ≤ forms
  pub rises : 1 ≤ words.step
  pub within : smoothing_of words.options.settings.smooth words.step (forms - 1) ≤ WEIGHT_LIMIT

-- `sweep N first_cost a last_cost b`
unfoldable pub sweep_line : (entries first last : ℕ) → List ℕ
sweep_line entries first last =
    labelled (codes "sweep ") entries
    ++ (labelled (codes " first_cost ") first ++ (labelled (codes " last_cost ") last ++ (10 ∷ [])))

-- there are as many writers as outputs, each has received the mesh of its entry, and these are the costs of the first and the
-- last surface
pub record HaveEntriesOf (asked : SweepAsked) (scan : Shown) (forms : List Received) (first last : ℕ) : Type 0 where
  pub count : length forms ≡ length asked.outputs
  pub each : HaveEntries (given_by scan) asked.options.vote asked.options.smooth asked.step forms
  pub first_is : CostsAt (given_by scan) asked.options.vote asked.options.smooth first
  pub last_is : CostsAt (given_by scan) asked.options.vote
      (smoothing_of asked.options.smooth asked.step (length asked.outputs - 1)) last

-- each writer has received the mesh of its entry, and their texts are written to the outputs, in order
pub record WritesSweep (asked : SweepAsked) (forms : List Received) (texts : List (List ℕ)) (scan : Shown)
    (answer : Answer) : Type 0 where
  pub first : ℕ
  pub last : ℕ
  pub entries : HaveEntriesOf asked scan forms first last
  pub is : answer ≡ record {
    status = Done;
    reads = 1;
    writes = zip asked.outputs texts;
    line = sweep_line (length asked.outputs) first last;
  }

-- the scan is rejected, or the texts of these writers are written
abbrev pub SweepAnswer : (limit : ℕ) → SweepAsked → (forms : List Received) → (texts : List (List ℕ)) → Files → Answer → Type 0
SweepAnswer limit asked forms texts = ToScan limit asked.input asked.options (λ _. WritesSweep asked forms texts)

-- if the host exposes its files, the named one is a text of the scan
abbrev pub IsFileOfScan : (name : List ℕ) → Options → Shown → State → Type 0
IsFileOfScan name options scan before =
    IfSome before.told
    (λ told. (bytes : List ℕ) × (told.files name ≡ Some bytes) × (read_as options bytes ≡ Ok scan))

-- the writers are unchanged, or each has received a prefix of the mesh of its entry
abbrev pub AreHandedEntries : SweepAsked → State → (old new : List Received) → Type 0
AreHandedEntries asked before old new =
    (new ≡ old)
    ⊎ ((scan : Shown) × IsFileOfScan asked.input asked.options scan before
    × HaveEntryFronts (given_by scan) asked.options.vote asked.options.smooth asked.step new)

-- what the writers have received after a run that ended with this status
abbrev pub SweepFormsAfter : SweepAsked → Status → State → (old new : List Received) → Type 0
SweepFormsAfter asked Done before old new =
    (scan : Shown) × IsFileOfScan asked.input asked.options scan before
    × HaveEntries (given_by scan) asked.options.vote asked.options.smooth asked.step new
SweepFormsAfter asked Refused before old new = new ≡ old
SweepFormsAfter asked Failed before old new = AreHandedEntries asked before old new
SweepFormsAfter asked NoMemory before old new = AreHandedEntries asked before old new
SweepFormsAfter asked No before old new = ⊥
SweepFormsAfter asked BadArguments before old new = ⊥

-- the writers have received the meshes of their entries, and their texts are written up to the end or a call that failed
pub record SweepCarries (asked : SweepAsked) (scan : Shown) (status : Status) (before after : State) (new : List Received)
    (texts : List (List ℕ)) : Type 0 where
  pub first : ℕ
  pub last : ℕ
  pub entries : HaveEntriesOf asked scan new first last
  pub carried : CarriesOut (zip asked.outputs texts) (sweep_line (length asked.outputs) first last) Done status before after

-- The continuation after the scan was read: memory ran out, and each writer has received a prefix of its mesh; or each has
-- received all of it, and their texts are written up to a call that failed.
abbrev pub SweepHandOut : SweepAsked → Shown → Status → State → State → (new : List Received) → (texts : List (List ℕ)) → Type 0
SweepHandOut asked scan status before after new texts =
    ((status ≡ NoMemory) × HaveEntryFronts (given_by scan) asked.options.vote asked.options.smooth asked.step new × (after ≡ before))
    ⊎ SweepCarries asked scan status before after new texts

-- the effect of a run of `sweep` on its host, and on writers that had received `old`, have received `new` and have these texts
pub record SweepOutcome (limit : ℕ) (asked : SweepAsked) (status : Status) (before after : State) (old new : List Received)
    (texts : List (List ℕ)) : Type 0 where
  pub run : Run MayRefuse 1 (SweepAnswer limit asked new texts) status before after
  pub forms : SweepFormsAfter asked status before old new
