-- The carrying out of an answer, text by text and then its line.
--
-- IsWritten says that some files were written and nothing else has changed. It holds before the first (written_none), and
-- one file more keeps it (written_more). A call that fails on a file leaves it as it was or with a front of its bytes,
-- behind those that are whole (stopped_at, by stopped_behind); with all of them written the line is said, whole or a front
-- (said_whole, said_front). What a host tells is optional, and told_through takes its cases once. texts_next and texts_split
-- cut a list of texts at a place.
use Rattle.std.proofs.Common.{◌≡◌, inl, inr, ℕ, suc, zero, ◌+◌, ◌<◌, List, [], ◌∷◌, ◌++◌, length, take, drop, get_or, Option, Some, None}
use Rattle.std.proofs.Common.{IfSome, false, refl, sym, ap, subst, ◌∙◌, arith}
use Rattle.std.specs.Option.{IsSomeAnd}
use Rattle.std.proofs.lemmas.List.{take_more, map-append}
use Rattle.host.specs.Counts.{Rose}
use Rattle.host.specs.State.{State, Told, Files, FailedFrom, after_change, says, stops_reading, with_file}
use Rattle.host.specs.Whole.{writes, WritesFront, SaysFront}
use Rattle.command_run.specs.Answers.{Write}
use Rattle.command_run.specs.Outcome.{StoppedIn, IsCarriedOut, SaidFront, all_written}
use Rattle.command_run.specs.Replies.{write_of, texts_of}
use Rattle.command_run.specs.declared.reply.Text.{Text}
use Rattle.command_run.specs.Steps.{IsWritten, CarriesAllOut, StopsOnTheWay}

-- files written after others
pub all_written-append : (done rest : List Write) (files : Files)
    → all_written (done ++ rest) files ≡ all_written rest (all_written done files)
all_written-append [] rest files = refl
all_written-append ((name, bytes) ∷ done) rest files = all_written-append done rest (with_file name bytes files)

-- what stands after a call failed behind files that are whole
pub stopped_behind : (done rest : List Write) (line : List ℕ) (old new : Told)
    → StoppedIn rest line (record old { files = all_written done old.files }) new → StoppedIn (done ++ rest) line old new
stopped_behind [] rest line old new stopped = stopped
stopped_behind ((name, bytes) ∷ done) rest line old new stopped =
    inr (stopped_behind done rest line (record old { files = with_file name bytes old.files }) new stopped)

-- the files are these, and nothing was said
abbrev pub HasWritten : List Write → Told → Told → Type 0
HasWritten done old new = (new.files ≡ all_written done old.files) × (new.said ≡ old.said)

-- a fact of what is told, through one change more
pub told_through : (before now after : Option Told) (change : Told → Told) (P Q : Told → Told → Type 0)
    → ((old mid : Told) → P old mid → Q old (change mid))
    → after ≡ after_change change now
    → IfSome before (λ old. IsSomeAnd now (λ mid. P old mid))
    → IfSome before (λ old. IsSomeAnd after (λ new. Q old new))
told_through before now after change P Q each is was =
    subst (λ (o : Option Told). IfSome before (λ old. IsSomeAnd o (λ new. Q old new))) (sym is) (by_cases before now was)
  where
    by_cases : (b n : Option Told) → IfSome b (λ old. IsSomeAnd n (λ mid. P old mid))
        → IfSome b (λ old. IsSomeAnd (after_change change n) (λ new. Q old new))
    by_cases None n p = tt
    by_cases (Some old) None p = p
    by_cases (Some old) (Some mid) p = each old mid p

-- before the first file
pub written_none : (before : State) → before.writing ≡ false → IsWritten [] before before
written_none before closed = record { faults = refl; opens = refl; writing = closed; told = by_cases before.told }
  where
    by_cases : (o : Option Told) → IfSome o (λ old. IsSomeAnd o (λ new. HasWritten [] old new))
    by_cases None = tt
    by_cases (Some told) = (refl, refl)

-- one file more
pub written_more : (done : List Write) (name bytes : List ℕ) (before now after : State) → IsWritten done before now
    → after ≡ writes name bytes now → IsWritten (done ++ ((name, bytes) ∷ [])) before after
written_more done name bytes before now after written is =
    record {
      faults = ap (λ (s : State). s.faults) is ∙ written.faults;
      opens = ap (λ (s : State). s.opens) is ∙ written.opens;
      writing = ap (λ (s : State). s.writing) is;
      told = told_through before.told now.told after.told
          (λ (t : Told). record t { files = with_file name bytes t.files; left = []; target = [] }) (HasWritten done)
          (HasWritten (done ++ ((name, bytes) ∷ [])))
          (λ old mid p. (ap (with_file name bytes) p.0 ∙ sym (all_written-append done ((name, bytes) ∷ []) old.files), p.1))
          (ap (λ (s : State). s.told) is) written.told;
    }

-- a file was not made
pub stopped_before : (done rest : List Write) (name bytes line : List ℕ) (before now after : State) → IsWritten done before now
    → FailedFrom (stops_reading now) after → StopsOnTheWay (done ++ ((name, bytes) ∷ rest)) line before after
stopped_before done rest name bytes line before now after written failed =
    record {
      faults = subst (λ (n : ℕ). Rose n after.faults) written.faults failed.rose;
      opens = ap (λ (s : State). s.opens) failed.else_same ∙ written.opens;
      writing = ap (λ (s : State). s.writing) failed.else_same ∙ written.writing;
      told =
          told_through before.told now.told after.told (λ (t : Told). record t { left = [] }) (HasWritten done)
          (StoppedIn (done ++ ((name, bytes) ∷ rest)) line)
          (λ old mid p. stopped_behind done ((name, bytes) ∷ rest) line old (record mid { left = [] })
          (inl (record { said = p.1; files = inl p.0 })))
          (ap (λ (s : State). s.told) failed.else_same) written.told;
    }

-- a file holds a front of its bytes
pub stopped_inside : (done rest : List Write) (name bytes line : List ℕ) (count : ℕ) (before now after : State)
    → IsWritten done before now → FailedFrom (writes name (take count bytes) now) after
    → StopsOnTheWay (done ++ ((name, bytes) ∷ rest)) line before after
stopped_inside done rest name bytes line count before now after written failed =
    record {
      faults = subst (λ (n : ℕ). Rose n after.faults) written.faults failed.rose;
      opens = ap (λ (s : State). s.opens) failed.else_same ∙ written.opens;
      writing = ap (λ (s : State). s.writing) failed.else_same;
      told =
          told_through before.told now.told after.told
          (λ (t : Told). record t { files = with_file name (take count bytes) t.files; left = []; target = [] })
          (HasWritten done) (StoppedIn (done ++ ((name, bytes) ∷ rest)) line)
          (λ old mid p. stopped_behind done ((name, bytes) ∷ rest) line old
          (record mid { files = with_file name (take count bytes) mid.files; left = []; target = [] })
          (inl (record { said = p.1; files = inr (count, ap (with_file name (take count bytes)) p.0) })))
          (ap (λ (s : State). s.told) failed.else_same) written.told;
    }

-- a file was not written whole
pub stopped_at : (done rest : List Write) (name bytes line : List ℕ) (before now after : State) → IsWritten done before now
    → WritesFront name bytes now after → StopsOnTheWay (done ++ ((name, bytes) ∷ rest)) line before after
stopped_at done rest name bytes line before now after written (inl failed) =
    stopped_before done rest name bytes line before now after written failed
stopped_at done rest name bytes line before now after written (inr (count, within, failed)) =
    stopped_inside done rest name bytes line count before now after written failed

-- all files are whole, and the line was said
pub said_whole : (all : List Write) (line : List ℕ) (before now after : State) → IsWritten all before now
    → after ≡ says line now → CarriesAllOut all line before after
said_whole all line before now after written is =
    record {
      faults = ap (λ (s : State). s.faults) is ∙ written.faults;
      opens = ap (λ (s : State). s.opens) is ∙ written.opens;
      writing = ap (λ (s : State). s.writing) is ∙ written.writing;
      told =
          told_through before.told now.told after.told (λ (t : Told). record t { said = t.said ++ line }) (HasWritten all)
          (IsCarriedOut all line)
          (λ old mid p. record { files = p.0; said = ap (λ (said : List ℕ). said ++ line) p.1 })
          (ap (λ (s : State). s.told) is) written.told;
    }

-- all files are whole, and a front of the line was said
pub said_front : (all : List Write) (line : List ℕ) (before now after : State) → IsWritten all before now
    → SaysFront line now after → StopsOnTheWay all line before after
said_front all line before now after written (count, within, failed) =
    record {
      faults = subst (λ (n : ℕ). Rose n after.faults) written.faults failed.rose;
      opens = ap (λ (s : State). s.opens) failed.else_same ∙ written.opens;
      writing = ap (λ (s : State). s.writing) failed.else_same ∙ written.writing;
      told =
          told_through before.told now.told after.told (λ (t : Told). record t { said = t.said ++ take count line })
          (HasWritten all) (StoppedIn all line)
          (λ old mid p.
          let stopped : SaidFront line (record old { files = all_written all old.files })
          (record mid { said = mid.said ++ take count line }) =
          record { files = p.0; length = count; said = ap (λ (said : List ℕ). said ++ take count line) p.1 } in
          subst (λ (writes : List Write). StoppedIn writes line old (record mid { said = mid.said ++ take count line }))
          (append-none all) (stopped_behind all [] line old (record mid { said = mid.said ++ take count line }) stopped))
          (ap (λ (s : State). s.told) failed.else_same) written.told;
    }
  where
    append-none : (writes : List Write) → writes ++ [] ≡ writes
    append-none [] = refl
    append-none (write ∷ rest) = ap (λ (more : List Write). write ∷ more) (append-none rest)

-- the texts before the one at a place, and that one
pub texts_next : (texts : List Text) (place : ℕ) (text : Text) → place < length texts → text ≡ get_or texts place text
    → texts_of (take (place + 1) texts) ≡ texts_of (take place texts) ++ (write_of text ∷ [])
texts_next texts place text within is =
    ap texts_of (take_more texts place text within)
    ∙ (map-append write_of (take place texts) (get_or texts place text ∷ [])
    ∙ ap (λ (t : Text). texts_of (take place texts) ++ (write_of t ∷ [])) (sym is))

-- the texts before the one at a place, that one, and those behind it
pub texts_split : (texts : List Text) (place : ℕ) (text : Text) → place < length texts → text ≡ get_or texts place text
    → texts_of texts ≡ texts_of (take place texts) ++ (write_of text ∷ texts_of (drop (suc place) texts))
texts_split [] place text within is = absurd (omega arith)
texts_split (first ∷ rest) zero text within is = ap (λ (t : Text). write_of t ∷ texts_of rest) (sym is)
texts_split (first ∷ rest) (suc place) text within is =
    ap (λ (writes : List Write). write_of first ∷ writes) (texts_split rest place text (omega arith) is)
