-- A file of a list of files, by its place, and the list with one file replaced.
--
-- A host in memory keeps a list, and what a host tells is a function from names to bytes (files_of), which takes the first
-- file of a name. No two files have one name, so under the name of a place stands the file there (files_of-at), and the list
-- with another file of the same name at a place is another function at this name alone (files_of-set, by induction: the
-- place is the first one or later). From this follow a file made empty (empties), bytes added to one (adds), and what stands
-- under a name that is at a place, at none, or at one whose file is not there yet (found_file).
use Rattle.std.proofs.Common.{◌≡◌, ◌≢◌, ℕ, zero, suc, ◌<◌, ◌-◌, List, [], ◌∷◌, ◌++◌, length, get_or, set, Contains, Option}
use Rattle.std.proofs.Common.{Some, None, Bool, true, false, cond, refl, sym, ap, ◌∙◌, arith, string_bytes}
use mathlib.Core.Path.{fun_ext}
use Rattle.std.specs.Str.{bytes_eq}
use Rattle.std.specs.Option.{option_map}
use Rattle.std.proofs.lemmas.Slice.Eq.{bytes_eq-Decides}
use Rattle.host.specs.State.{Files, file_bytes, with_file, with_more}
use Rattle.host.specs.Files.{content, files_of, names_of_files, name_at, exists_at, bytes_at, room_at, FilesApart}
use Rattle.host.specs.Activity.{target_of}
use Rattle.host.specs.declared.files.MemFile.{MemFile}
use Rattle.host.specs.declared.memory.Activity.{Activity}
use Rattle.host.specs.declared.memory.Activity.TheVariants.{Writing}

-- a file that is there has a place in the list
pub exists_lt : (files : List MemFile) (i : ℕ) → exists_at files i ≡ true → i < length files
exists_lt [] i e = cc
exists_lt (file ∷ files) zero e = omega arith
exists_lt (file ∷ files) (suc i) e = let h = exists_lt files i e in omega arith

pub name_at-get : (files : List MemFile) (i : ℕ) (d : MemFile) → i < length files
    → name_at files i ≡ string_bytes (get_or files i d).name
name_at-get [] i d h = absurd (omega arith)
name_at-get (file ∷ files) zero d h = refl
name_at-get (file ∷ files) (suc i) d h = name_at-get files i d (omega arith)

pub bytes_at-get : (files : List MemFile) (i : ℕ) (d : MemFile) → i < length files
    → bytes_at files i ≡ (get_or files i d).store.bytes.items
bytes_at-get [] i d h = absurd (omega arith)
bytes_at-get (file ∷ files) zero d h = refl
bytes_at-get (file ∷ files) (suc i) d h = bytes_at-get files i d (omega arith)

pub room_at-get : (files : List MemFile) (i : ℕ) (d : MemFile) → i < length files
    → room_at files i ≡ (get_or files i d).store.room
room_at-get [] i d h = absurd (omega arith)
room_at-get (file ∷ files) zero d h = refl
room_at-get (file ∷ files) (suc i) d h = room_at-get files i d (omega arith)

pub exists_at-get : (files : List MemFile) (i : ℕ) (d : MemFile) → i < length files
    → exists_at files i ≡ (get_or files i d).exists
exists_at-get [] i d h = absurd (omega arith)
exists_at-get (file ∷ files) zero d h = refl
exists_at-get (file ∷ files) (suc i) d h = exists_at-get files i d (omega arith)

pub exists_at-set : (files : List MemFile) (i : ℕ) (file : MemFile) → i < length files
    → exists_at (set files i file) i ≡ file.exists
exists_at-set [] i file h = absurd (omega arith)
exists_at-set (other ∷ files) zero file h = refl
exists_at-set (other ∷ files) (suc i) file h = exists_at-set files i file (omega arith)

-- another file under the same name leaves the names
pub name_at-set : (files : List MemFile) (i : ℕ) (file : MemFile) → string_bytes file.name ≡ name_at files i → (j : ℕ)
    → name_at (set files i file) j ≡ name_at files j
name_at-set [] i file e j = refl
name_at-set (other ∷ files) zero file e x = grind arith
name_at-set (other ∷ files) (suc i) file e zero = refl
name_at-set (other ∷ files) (suc i) file e (suc j) = name_at-set files i file e j

-- another file of the same room leaves the rooms
pub room_at-set : (files : List MemFile) (i : ℕ) (file : MemFile) → file.store.room ≡ room_at files i → (j : ℕ)
    → room_at (set files i file) j ≡ room_at files j
room_at-set [] i file e j = refl
room_at-set (other ∷ files) zero file e x = grind arith
room_at-set (other ∷ files) (suc i) file e zero = refl
room_at-set (other ∷ files) (suc i) file e (suc j) = room_at-set files i file e j

-- another file under the same name leaves the list of names
pub names_of_files-set : (files : List MemFile) (i : ℕ) (file : MemFile) → string_bytes file.name ≡ name_at files i
    → names_of_files (set files i file) ≡ names_of_files files
names_of_files-set [] i file e = refl
names_of_files-set (other ∷ files) zero file e = ap (λ (name : List ℕ). name ∷ names_of_files files) e
names_of_files-set (other ∷ files) (suc i) file e = grind (arith, names_of_files-set files i file e)

-- a name at a place is among the names
pub Contains-name_at : (files : List MemFile) (i : ℕ) (name : List ℕ) → i < length files → name_at files i ≡ name
    → Contains (names_of_files files) name
Contains-name_at [] i name h e = absurd (omega arith)
Contains-name_at (file ∷ files) zero name h e = (0, omega arith, e)
Contains-name_at (file ∷ files) (suc i) name h e =
    let rest = Contains-name_at files i name (omega arith) e in
    (suc rest.0, omega arith, rest.2)

-- a name at no place is not among the names
pub lacks_name : (files : List MemFile) (name : List ℕ) → ((i : ℕ) → i < length files → name_at files i ≡ name → ⊥)
    → Contains (names_of_files files) name → ⊥
lacks_name [] name none (k, lt, e) = absurd (omega arith)
lacks_name (file ∷ files) name none (zero, lt, e) = none zero (omega arith) e
lacks_name (file ∷ files) name none (suc k, lt, e) =
    lacks_name files name (λ i h. none (suc i) (omega arith)) (k, omega arith, e)

apart_rest : (file : MemFile) (files : List MemFile) → FilesApart (file ∷ files) → FilesApart files
apart_rest file files apart i j lt within = apart (suc i) (suc j) (omega arith) (omega arith)

pub other_name : (q name : List ℕ) → q ≢ name → bytes_eq q name ≡ false
other_name q name ne = grind (arith, bytes_eq-Decides q name)

put_later : {A : Type 0} (a b : Bool) (x y z : A) → (a ≡ true → b ≡ true → ⊥) → cond a x (cond b y z) ≡ cond b y (cond a x z)
put_later u a x y z differ = grind arith

more_at : (b : Bool) (q name more : List ℕ) (files : Files) (new : Option (List ℕ)) → b ≡ bytes_eq q name
    → new ≡ option_map (λ bytes. bytes ++ more) (files name)
    → cond b new (files q) ≡ cond b (option_map (λ bytes. bytes ++ more) (files q)) (files q)
more_at b q name more files new is e = grind (arith, bytes_eq-Decides)

-- the files after one of them was replaced by another of its name
pub files_of-set : (files : List MemFile) (i : ℕ) (file : MemFile) → FilesApart files → i < length files
    → string_bytes file.name ≡ name_at files i
    → (q : List ℕ) → files_of (set files i file) q ≡ cond (bytes_eq q (name_at files i)) (content file) (files_of files q)
files_of-set [] i file apart h e q = absurd (omega arith)
files_of-set (other ∷ files) zero file apart h e q = grind arith
files_of-set (other ∷ files) (suc i) file apart h e q =
    let later = files_of-set files i file (apart_rest other files apart) (omega arith) e q in
    rw later
    (put_later (bytes_eq q (string_bytes other.name)) (bytes_eq q (name_at files i)) (content other) (content file)
    (files_of files q)
    (λ here there. apart zero (suc i) (omega arith) h (sym ((bytes_eq-Decides _ _).0 here) ∙ (bytes_eq-Decides _ _).0 there)))

-- the bytes under the name at a place
pub files_of-at : (files : List MemFile) (i : ℕ) (d : MemFile) → FilesApart files → i < length files
    → files_of files (name_at files i) ≡ content (get_or files i d)
files_of-at [] i d apart h = absurd (omega arith)
files_of-at (file ∷ files) zero d apart h = rw ((bytes_eq-Decides (string_bytes file.name) (string_bytes file.name)).1 refl) refl
files_of-at (file ∷ files) (suc i) d apart h =
    rw (other_name _ _ (λ e. apart zero (suc i) (omega arith) h (sym e)))
    (files_of-at files i d (apart_rest file files apart) (omega arith))

-- the file at a place was made empty
pub empties : (files : List MemFile) (i : ℕ) (file : MemFile) → FilesApart files → i < length files
    → string_bytes file.name ≡ name_at files i → content file ≡ Some []
    → files_of (set files i file) ≡ with_file (name_at files i) [] (files_of files)
empties files i file apart h e is = grind (arith, fun_ext, files_of-set)

-- bytes were added to the file at a place
pub adds : (files : List MemFile) (i : ℕ) (d file : MemFile) (more : List ℕ) → FilesApart files → i < length files
    → string_bytes file.name ≡ name_at files i
    → content file ≡ option_map (λ bytes. bytes ++ more) (content (get_or files i d))
    → files_of (set files i file) ≡ with_more (name_at files i) more (files_of files)
adds files i d file more apart h e is = grind (arith, fun_ext, files_of-set, more_at, files_of-at)

-- the bytes under the name of a file that is there
pub file_bytes-name_at : (files : List MemFile) (i : ℕ) (d : MemFile) → FilesApart files → i < length files
    → (get_or files i d).exists ≡ true → file_bytes (files_of files) (name_at files i) ≡ (get_or files i d).store.bytes.items
file_bytes-name_at files i d apart h is = grind (arith, files_of-at files i d apart h)

-- no room is left in the file that is being written
pub no_room_left : (files : List MemFile) (activity : Activity) (at room : ℕ) → activity ≡ Writing at → room_at files at ≡ room
    → room_at files at - length (file_bytes (files_of files) (name_at files at)) ≡ 0
    → room - length (file_bytes (files_of files) (target_of files activity)) ≡ 0
no_room_left files activity at room is same full = grind arith

-- what is in a file with more bytes
pub content_more : (exists : Bool) (old new more : List ℕ) → new ≡ old ++ more
    → cond exists (Some new) None ≡ option_map (λ bytes. bytes ++ more) (cond exists (Some old) None)
content_more exists old new more e = grind arith

-- what is known of the file at a place
pub ruleset at_place = (exists_lt, name_at-get, bytes_at-get, room_at-get, exists_at-get, exists_at-set, file_bytes-name_at)

-- a test by bytes says that two names differ
pub names_differ : (xs ys zs : List ℕ) (r : Bool) → r ≡ bytes_eq xs ys → r ≡ false → zs ≡ xs → zs ≡ ys → ⊥
names_differ xs ys zs r test differ e f = grind (arith, bytes_eq-Decides xs ys)

pub files_of-none : (files : List MemFile) (q : List ℕ) → ((i : ℕ) → i < length files → name_at files i ≡ q → ⊥)
    → files_of files q ≡ None
files_of-none [] q none = refl
files_of-none (file ∷ files) q none =
    rw (other_name q (string_bytes file.name) (λ e. none zero (omega arith) (sym e)))
    (files_of-none files q (λ i lt e. none (suc i) (omega arith) e))

-- the bytes under a name whose file has this place
pub files_of_place : (files : List MemFile) (i : ℕ) (d : MemFile) (q : List ℕ) → FilesApart files → i < length files
    → name_at files i ≡ q → (get_or files i d).exists ≡ true → files_of files q ≡ Some (bytes_at files i)
files_of_place files i d q apart h e is = grind (arith, files_of-at files i d apart h, bytes_at-get files i d h)

-- there is no file under a name whose file has this place
pub files_of_absent : (files : List MemFile) (i : ℕ) (d : MemFile) (q : List ℕ) → FilesApart files → i < length files
    → name_at files i ≡ q → (get_or files i d).exists ≡ false → files_of files q ≡ None
files_of_absent files i d q apart h e is = grind (arith, files_of-at files i d apart h)

pub ruleset found_file = (files_of-none, files_of_place, files_of_absent, exists_at-get)
