-- What `sweep` does: its outcome from that of its steps.
--
-- A run reads one file, and then hands the surfaces of the scan to the forms (swept). They hold the meshes of their entries and
-- the texts are carried out (handed), or a call fails on that way, or memory ends before all of them are handed out, and the
-- forms hold fronts. What is true of files, faults and what was said comes from the lemmas for any run (starved_by, obeyed_by).
-- If the scan is rejected, its line is printed (none_swept). If a call failed, or there was no memory for the scan, the forms are
-- unchanged, which needs no lemma.
use Rattle.std.proofs.Common.{◌≡◌, inl, inr, ℕ, ◌-◌, List, [], length, Option, Some, IfSome, Ok, Err, false, refl, sym, ap}
use Rattle.std.proofs.Common.{subst, ◌∙◌, map, string_bytes}
use Rattle.std.proofs.lemmas.List.{length-map}
use Rattle.std.proofs.lemmas.Option.{IfSome_then}
use Rattle.std.specs.List.{zip}
use Rattle.host.specs.State.{State, Told, Files}
use Rattle.host.specs.Whole.{OnlyReads}
use Rattle.mesh_form.specs.Received.{Received}
use Rattle.scan_rows.specs.Shown.{Shown}
use Rattle.scan_rows.specs.Views.{shown_of}
use Rattle.scan_rows.specs.declared.scan.Scan.{Scan}
use Rattle.sweep.proofs.Handings.{fronts_of_entries}
use Rattle.sweep.specs.Entries.{CostsAt, HaveEntries, given_by, smoothing_of}
use Rattle.command_run.specs.Answers.{Answer, invalid}
use Rattle.command_run.specs.Replies.{line_bytes}
use Rattle.command_run.specs.Steps.{CarriesOut, ReadsBy}
use Rattle.command_run.specs.declared.reply.Line.{Line}
use Rattle.command_run.specs.declared.status.Status.{Status}
use Rattle.command_run.specs.declared.status.Status.TheVariants.{Done, Refused}
use Rattle.command_run.proofs.Outcomes.{obeyed_by, starved_by}
use Rattle.recon_cmd.specs.Answers.{scan_within, MayRefuse}
use Rattle.recon_cmd.specs.Steps.{Bytes, IsReading}
use Rattle.recon_cmd.specs.Sweep.{IsFileOfScan, SweepAnswer, SweepAsked, SweepFormsAfter, SweepHandOut, SweepOutcome, WritesSweep}
use Rattle.recon_cmd.specs.Sweep.{sweep_asked, sweep_line}
use Rattle.recon_cmd.specs.declared.commands.sweeping.SweepWords.{SweepWords}
use Rattle.recon_cmd.proofs.FileAnswers.{file_cases, opened, scan_found}
use Rattle.recon_cmd.proofs.FileReplies.{reads_all, reads_last}
use Rattle.recon_cmd.specs.declared.whole_run.reading.Reading.TheVariants as readings

-- the writers' texts are the answer to the scan
abbrev To : SweepAsked → (forms : List Received) → (texts : List (List ℕ)) → List ℕ → Shown → Answer → Type 0
To asked forms texts = λ _. WritesSweep asked forms texts

-- each answer reads one file
answer_reads : (limit : ℕ) (asked : SweepAsked) (forms : List Received) (texts : List (List ℕ)) (files : Files) (answer : Answer)
    → SweepAnswer limit asked forms texts files answer → answer.reads ≡ 1
answer_reads limit asked forms texts files answer =
    file_cases 1 asked.input (scan_within limit asked.options) (To asked forms texts) files answer (answer.reads ≡ 1)
    (λ bytes line has so is. ap (λ (a : Answer). a.reads) is) (λ bytes scan has so writes. ap (λ (a : Answer). a.reads) writes.is)

sweep_reads : (limit : ℕ) (asked : SweepAsked) (forms : List Received) (texts : List (List ℕ)) (before after : State)
    → before.writing ≡ false → OnlyReads before after → ReadsBy 1 (SweepAnswer limit asked forms texts) before after
sweep_reads limit asked forms texts before after closed only =
    reads_all 1 (SweepAnswer limit asked forms texts) before after
    (reads_last 0 (SweepAnswer limit asked forms texts) before after (answer_reads limit asked forms texts) closed only)

-- the file is a text of the scan
file_of : (limit : ℕ) (asked : SweepAsked) (scan : Scan) (held : Bytes) (before : State)
    → IfSome before.told (IsReading limit asked.input asked.options (readings.Scan scan held))
    → IsFileOfScan asked.input asked.options (shown_of scan) before
file_of limit asked scan held before read =
    IfSome_then before.told read
    (λ told is. (held.items, is.0, (scan_found limit asked.options held.items (shown_of scan) is.1).1))

-- the scan is there, and is answered so
answered_scan : (limit : ℕ) (asked : SweepAsked) (forms : List Received) (texts : List (List ℕ)) (scan : Scan) (held : Bytes)
    (answer : Answer) (o : Option Told) → WritesSweep asked forms texts (shown_of scan) answer → answer.reads ≡ 1
    → IfSome o (IsReading limit asked.input asked.options (readings.Scan scan held))
    → IfSome o
    (λ told. (reads : ℕ)
    × SweepAnswer limit asked forms texts told.files
    (record { status = answer.status; reads = reads; writes = answer.writes; line = answer.line }))
answered_scan limit asked forms texts scan held answer o answers one read =
    IfSome_then o read
    (λ told is. (
      answer.reads,
      (opened 1 asked.input (scan_within limit asked.options) (To asked forms texts) told.files held.items (Ok (shown_of scan)) answer
          is.0 is.1).1 answers,
    ))

-- ---- forms
-- the forms have received the meshes of their entries, and their texts are carried out
pub handed : (words : SweepWords) (scan : Shown) (forms : ℕ) (result : Status) (before after : State) (new : List Received)
    (texts : List (List ℕ)) (first last : ℕ) (line : List ℕ)
    → length words.outputs.now ≡ forms → length new ≡ forms
    → HaveEntries (given_by scan) words.options.settings.vote words.options.settings.smooth words.step new
    → CostsAt (given_by scan) words.options.settings.vote words.options.settings.smooth first
    → CostsAt (given_by scan) words.options.settings.vote (smoothing_of words.options.settings.smooth words.step (forms - 1)) last
    → line ≡ sweep_line (length words.outputs.now) first last
    → CarriesOut (zip (map string_bytes words.outputs.now) texts) line Done result before after
    → SweepHandOut (sweep_asked words) scan result before after new texts
handed words scan forms result before after new texts first last line same count each first_is last_is line_is carried =
    inr (record {
      first = first;
      last = last;
      entries =
          record {
            count = count ∙ sym outputs;
            each = each;
            first_is = first_is;
            last_is =
                subst (λ (n : ℕ). CostsAt (given_by scan) words.options.settings.vote
                (smoothing_of words.options.settings.smooth words.step (n - 1)) last) (sym outputs) last_is;
          };
      carried =
          subst (λ (l : List ℕ). CarriesOut (zip (map string_bytes words.outputs.now) texts) l Done result before after)
          (line_is
          ∙ ap (λ (n : ℕ). sweep_line n first last) (sym (length-map words.outputs.now string_bytes))) carried;
    })
  where
    outputs : length (map string_bytes words.outputs.now) ≡ forms
    outputs = length-map words.outputs.now string_bytes ∙ same

-- lists whose values of a kind are the same are as long
pub as_long : {V B : Type 0} (kind : B → V) (received : B → Received) (old new : List B) → map kind new ≡ map kind old
    → length (map received new) ≡ length old
as_long kind received old new same =
    length-map new received ∙ (sym (length-map new kind) ∙ (ap length same ∙ length-map old kind))

-- ---- outcomes

-- the file is rejected, and the forms are unchanged
pub none_swept : (limit : ℕ) (asked : SweepAsked) (line : Line) (result : Status) (before mid after : State)
    (old new : List Received) (texts : List (List ℕ)) → before.writing ≡ false → OnlyReads before mid
    → mid.faults ≡ before.faults → IfSome before.told (IsReading limit asked.input asked.options (readings.Refused line))
    → new ≡ old → CarriesOut [] (line_bytes line) Refused result mid after
    → SweepOutcome limit asked result before after old new texts
none_swept limit asked line result before mid after old new texts closed only same read unchanged carried =
    record {
      run =
          obeyed_by MayRefuse 1 (SweepAnswer limit asked new texts) Refused [] (line_bytes line) result before mid after tt tt tt
          (IfSome_then before.told read
          (λ told (bytes, has, so). (
            1,
            (opened 1 asked.input (scan_within limit asked.options) (To asked new texts) told.files bytes
                (Err (Some (line_bytes line))) (invalid 1 (line_bytes line)) has so).1 refl,
          )))
          (sweep_reads limit asked new texts before mid closed only) same carried;
      forms = by carried;
    }
  where
    by : CarriesOut [] (line_bytes line) Refused result mid after → SweepFormsAfter asked result before old new
    by (inl (is, whole)) = subst (λ (s : Status). SweepFormsAfter asked s before old new) (sym is) unchanged
    by (inr (is, stopped)) = subst (λ (s : Status). SweepFormsAfter asked s before old new) (sym is) (inl unchanged)

-- the scan was read, and its surfaces handed to the forms
pub swept : (limit : ℕ) (asked : SweepAsked) (scan : Scan) (held : Bytes) (result : Status) (before mid after : State)
    (old new : List Received) (texts : List (List ℕ)) → before.writing ≡ false → OnlyReads before mid
    → mid.faults ≡ before.faults → IfSome before.told (IsReading limit asked.input asked.options (readings.Scan scan held))
    → SweepHandOut asked (shown_of scan) result mid after new texts → SweepOutcome limit asked result before after old new texts
swept limit asked scan held result before mid after old new texts closed only same read (inl (is, fronts, still)) =
    subst (λ (s : Status). SweepOutcome limit asked s before after old new texts) (sym is) (record {
      run = starved_by MayRefuse 1 (SweepAnswer limit asked new texts) before after tt
          (subst (λ (s : State). ReadsBy 1 (SweepAnswer limit asked new texts) before s) (sym still)
          (sweep_reads limit asked new texts before mid closed only)) (ap (λ (s : State). s.faults) still ∙ same);
      forms = inr (shown_of scan, file_of limit asked scan held before read, fronts);
    })
swept limit asked scan held result before mid after old new texts closed only same read (inr carries) =
    record {
      run = obeyed_by MayRefuse 1 (SweepAnswer limit asked new texts) Done (zip asked.outputs texts) line result before mid after tt
          tt tt
          (answered_scan limit asked new texts scan held answer before.told
          (record {
            first = carries.first;
            last = carries.last;
            entries = carries.entries;
            is = refl;
          }) refl read)
          (sweep_reads limit asked new texts before mid closed only) same carries.carried;
      forms = by carries.carried;
    }
  where
    line : List ℕ
    line = sweep_line (length asked.outputs) carries.first carries.last

    answer : Answer
    answer = record { status = Done; reads = 1; writes = zip asked.outputs texts; line = line }

    by : CarriesOut (zip asked.outputs texts) line Done result mid after → SweepFormsAfter asked result before old new
    by (inl (is, whole)) =
        subst (λ (s : Status). SweepFormsAfter asked s before old new) (sym is)
        (shown_of scan, file_of limit asked scan held before read, carries.entries.each)
    by (inr (is, stopped)) =
        subst (λ (s : Status). SweepFormsAfter asked s before old new) (sym is)
        (inr (
          shown_of scan,
          file_of limit asked scan held before read,
          fronts_of_entries (given_by (shown_of scan)) asked.options.vote asked.options.smooth asked.step new carries.entries.each,
        ))
