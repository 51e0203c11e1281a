-- The files that a host in memory is made with.
use Rattle.std.proofs.Common.{◌≡◌, ℕ, zero, suc, ◌<◌, List, [], ◌∷◌, ◌++◌, length, refl, sym, ◌∙◌, arith}
use mathlib.Core.Path.{fun_ext}
use Rattle.host.specs.Files.{files_of, names_of_files, name_at, room_at, FilesApart}
use Rattle.host.specs.Handed.{Handed, files_handed, names_handed, handed_name, NamesApart, IsMadeOf}
use Rattle.host.specs.declared.files.MemFile.{MemFile}

-- each of these files was made of what was handed in at its place
abbrev pub AreKept : ℕ → List MemFile → List Handed → Type 0
AreKept room [] [] = Unit {0}
AreKept room [] (handed ∷ all) = ⊥
AreKept room (file ∷ files) [] = ⊥
AreKept room (file ∷ files) (handed ∷ all) = IsMadeOf room file handed × AreKept room files all

-- one more file was made
pub AreKept-push : (room : ℕ) (files : List MemFile) (all : List Handed) (file : MemFile) (handed : Handed)
    → AreKept room files all → IsMadeOf room file handed → AreKept room (files ++ file ∷ []) (all ++ handed ∷ [])
AreKept-push room [] all file handed kept is = grind (arith, kept)
AreKept-push room (first ∷ files) [] file handed kept is = absurd kept
AreKept-push room (first ∷ files) (taken ∷ all) file handed kept is =
    (kept.0, AreKept-push room files all file handed kept.1 is)

kept_file_at : (room : ℕ) (files : List MemFile) (all : List Handed) → AreKept room files all → (name : List ℕ)
    → files_of files name ≡ files_handed all name
kept_file_at room [] all kept name = grind (arith, kept)
kept_file_at room (first ∷ files) [] kept name = absurd kept
kept_file_at room (first ∷ files) (taken ∷ all) kept name = grind (arith, kept_file_at room files all kept.1 name)

-- they are the files that were handed in
pub kept_files_of : (room : ℕ) (files : List MemFile) (all : List Handed) → AreKept room files all
    → files_of files ≡ files_handed all
kept_files_of room files all kept = fun_ext (kept_file_at room files all kept)

-- they have the names that were handed in
pub kept_names : (room : ℕ) (files : List MemFile) (all : List Handed) → AreKept room files all
    → names_of_files files ≡ names_handed all
kept_names room [] all kept = grind (arith, kept)
kept_names room (first ∷ files) [] kept = absurd kept
kept_names room (first ∷ files) (taken ∷ all) kept = rw (kept.0.name, kept_names room files all kept.1) refl

kept_name : (room : ℕ) (files : List MemFile) (all : List Handed) → AreKept room files all → (i : ℕ)
    → name_at files i ≡ handed_name all i
kept_name room [] all kept i = grind (arith, kept)
kept_name room (first ∷ files) [] kept i = absurd kept
kept_name room (first ∷ files) (taken ∷ all) kept zero = kept.0.name
kept_name room (first ∷ files) (taken ∷ all) kept (suc i) = kept_name room files all kept.1 i

kept_count : (room : ℕ) (files : List MemFile) (all : List Handed) → AreKept room files all → length files ≡ length all
kept_count room [] all kept = grind (arith, kept)
kept_count room (first ∷ files) [] kept = absurd kept
kept_count room (first ∷ files) (taken ∷ all) kept = let rest = kept_count room files all kept.1 in omega arith

-- where the names handed in differ, theirs do
pub kept_apart : (room : ℕ) (files : List MemFile) (all : List Handed) → AreKept room files all → NamesApart all
    → FilesApart files
kept_apart room files all kept apart i j lt within same =
    apart i j lt (rw (sym (kept_count room files all kept)) within)
    (sym (kept_name room files all kept i) ∙ same ∙ kept_name room files all kept j)

-- each has the room
pub kept_room : (room : ℕ) (files : List MemFile) (all : List Handed) → AreKept room files all → (i : ℕ) → i < length files
    → room_at files i ≡ room
kept_room room [] all kept i lt = absurd (omega arith)
kept_room room (first ∷ files) [] kept i lt = absurd kept
kept_room room (first ∷ files) (taken ∷ all) kept zero lt = kept.0.holds
kept_room room (first ∷ files) (taken ∷ all) kept (suc i) lt = kept_room room files all kept.1 i (omega arith)

pub ruleset kept = (kept_files_of, kept_names, kept_apart, kept_room, AreKept-push)
