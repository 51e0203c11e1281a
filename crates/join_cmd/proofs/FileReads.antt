-- Reads one after another: none changes a file, so what is read at any time holds of the files as they were at the start
-- (files_back).
use Rattle.std.proofs.Common.{ℕ, ◌≡◌, ◌+◌, ◌<◌, ◌≤◌, ◌∙◌, arith, sym, refl, subst, List, [], ◌∷◌, ◌++◌, length, get_or, below_more}
use Rattle.std.proofs.Common.{Option, Some, None, IfSome, Result, Ok, Err, inl, unwrap_or}
use Rattle.std.proofs.lemmas.List.{get_or_append_left}
use Rattle.std.proofs.Math.Seq.{get_or-append_seam}
use Rattle.host.specs.State.{State, Told, Files, file_bytes}
use Rattle.host.specs.Whole.{OnlyReads, apart_from_left}
use Rattle.mesh.specs.declared.mesh.Mesh.{Mesh}
use Rattle.tile_list.specs.declared.entry.TileLine.{TileLine}
use Rattle.command_run.specs.Replies.{line_bytes}
use Rattle.command_run.specs.declared.reply.Line.{Line}
use Rattle.command_run.proofs.Outcomes.{same_told}
use Rattle.join_cmd.specs.Lines.{too_long_tile_line}
use Rattle.join_cmd.specs.Join.{AreMeshFiles, IsMeshFile, IsRejectedTile}
use Rattle.join_cmd.specs.Reading.{IsTileReading, IsUnderstoodTile, OnlyReadsTimes}

-- ---- any reads
-- what holds of the files after reads holds of them before
pub files_back : (before mid : Option Told) (P : Files → Type 0) → apart_from_left mid ≡ apart_from_left before
    → IfSome mid (λ t. P t.files) → IfSome before (λ t. P t.files)
files_back None mid P same h = tt
files_back (Some old) None P same h = cc
files_back (Some old) (Some now) P same h = subst P (same_told now old same).files h

pub reads_none : (s : State) → OnlyReadsTimes 0 s s
reads_none s = record { told = refl; writing = refl; opens = omega arith }

pub reads_more : (n : ℕ) (before mid after : State) → OnlyReadsTimes n before mid → OnlyReads mid after
    → OnlyReadsTimes (n + 1) before after
reads_more n before mid after many one =
    record {
      told = one.told ∙ many.told;
      writing = one.writing ∙ many.writing;
      opens = omega (arith, many.opens, one.opens);
    }

pub reads_within : (n most : ℕ) (before after : State) → n ≤ most → OnlyReadsTimes n before after
    → OnlyReadsTimes most before after
reads_within n most before after few many =
    record { told = many.told; writing = many.writing; opens = omega (arith, many.opens, few) }

-- ---- the meshes of tiles
-- the file of tile j is the text of mesh j
abbrev pub FileAt : (limit : ℕ) → Files → List TileLine → List Mesh → ℕ → Type 0
FileAt limit files tiles meshes j =
    (t : TileLine) (m : Mesh) → IsMeshFile limit files (get_or tiles j t).file.now (get_or meshes j m)

-- those of the first tiles
abbrev pub FilesBelow : (limit : ℕ) → List TileLine → List Mesh → ℕ → Files → Type 0
FilesBelow limit tiles meshes i files = (j : ℕ) → j < i → FileAt limit files tiles meshes j

files_more : (limit : ℕ) (files : Files) (tiles : List TileLine) (meshes : List Mesh) (mesh : Mesh) (i : ℕ) → length meshes ≡ i
    → FilesBelow limit tiles meshes i files → ((t : TileLine) → IsMeshFile limit files (get_or tiles i t).file.now mesh)
    → FilesBelow limit tiles (meshes ++ mesh ∷ []) (i + 1) files
files_more limit files tiles meshes mesh i n before here =
    below_more (FileAt limit files tiles (meshes ++ mesh ∷ [])) i
    (λ j l t m. let k : j < length meshes = omega (arith, n) in
    subst (λ (x : Mesh). IsMeshFile limit files (get_or tiles j t).file.now x)
    (sym (get_or_append_left meshes (mesh ∷ []) m j k)) (before j l t m))
    (λ t m. subst (λ (x : Mesh). IsMeshFile limit files (get_or tiles i t).file.now x) (sym (last m)) (here t))
  where
    last : (m : Mesh) → get_or (meshes ++ mesh ∷ []) i m ≡ mesh
    last m = subst (λ (k : ℕ). get_or (meshes ++ mesh ∷ []) k m ≡ mesh) n (get_or-append_seam meshes mesh [] m)

-- the bytes of a named file are read so
abbrev pub ReadSo : (limit tile : ℕ) → (name : List ℕ) → Mesh → Files → Type 0
ReadSo limit tile name mesh files =
    (bytes : List ℕ) × (files name ≡ Some bytes) × IsUnderstoodTile limit tile bytes (Ok mesh)

-- one mesh more was read
pub read_more : (limit : ℕ) (before mid : Option Told) (tiles : List TileLine) (meshes : List Mesh) (mesh : Mesh) (i : ℕ)
    (name : List ℕ) → apart_from_left mid ≡ apart_from_left before → length meshes ≡ i
    → IfSome before (λ told. FilesBelow limit tiles meshes i told.files) → IfSome mid (IsTileReading limit i name (Ok mesh))
    → ((t : TileLine) → (get_or tiles i t).file.now ≡ name)
    → IfSome before (λ told. FilesBelow limit tiles (meshes ++ mesh ∷ []) (i + 1) told.files)
read_more limit None mid tiles meshes mesh i name same n was read named = tt
read_more limit (Some old) mid tiles meshes mesh i name same n was read named =
    let here : ReadSo limit i name mesh old.files = files_back (Some old) mid (ReadSo limit i name mesh) same read in
    files_more limit old.files tiles meshes mesh i n was
    (λ t. subst (λ (x : List ℕ). IsMeshFile limit old.files x mesh) (sym (named t))
    (record { bytes = here.0; there = here.1; within = here.2.0; printed = here.2.1; text_is = here.2.2 }))

-- the file of a tile is rejected
pub read_rejected : (limit : ℕ) (before mid : Option Told) (tiles : List TileLine) (i : ℕ) (name : List ℕ) (line : Line)
    → apart_from_left mid ≡ apart_from_left before → i < length tiles
    → IfSome mid (IsTileReading limit i name (Err line)) → ((t : TileLine) → (get_or tiles i t).file.now ≡ name)
    → IfSome before (λ told. IsRejectedTile limit told.files tiles (line_bytes line))
read_rejected limit before mid tiles i name line same within read named =
    files_back before mid (λ files. IsRejectedTile limit files tiles (line_bytes line)) same (each mid read)
  where
    each : (o : Option Told) → IfSome o (IsTileReading limit i name (Err line))
        → IfSome o (λ told. IsRejectedTile limit told.files tiles (line_bytes line))
    each None h = tt
    each (Some told) (bytes, there, rejected) =
        record {
          tile = i;
          within = within;
          bytes = bytes;
          there = λ t. subst (λ (x : List ℕ). told.files x ≡ Some bytes) (sym (named t)) there;
          rejected = rejected;
        }

-- all meshes were read
pub all_read : (limit : ℕ) (o : Option Told) (tiles : List TileLine) (meshes : List Mesh) (i : ℕ) → i ≡ length tiles
    → length meshes ≡ i → IfSome o (λ told. FilesBelow limit tiles meshes i told.files)
    → IfSome o (λ told. AreMeshFiles limit told.files tiles meshes)
all_read limit None tiles meshes i all n h = tt
all_read limit (Some told) tiles meshes i all n h =
    record { count = n ∙ all; each = λ j t m l. h j (subst (λ (k : ℕ). j < k) (sym all) l) t m }

-- ---- one mesh
-- the file is longer than the limit
pub tile_long : (limit tile : ℕ) (name : List ℕ) (line : Line) (o : Option Told) → line_bytes line ≡ too_long_tile_line tile
    → IfSome o (λ told. limit < length (file_bytes told.files name))
    → IfSome o (IsTileReading limit tile name (Err line))
tile_long limit tile name line None is longer = tt
tile_long limit tile name line (Some told) is longer = with_bytes (told.files name) refl longer
  where
    with_bytes : (found : Option (List ℕ)) → told.files name ≡ found → limit < length (unwrap_or found [])
        → IsTileReading limit tile name (Err line) told
    with_bytes None has more = absurd (omega arith)
    with_bytes (Some bytes) has more = (bytes, has, inl (more, is))

-- the file was read, and its bytes are read so
pub tile_read : (limit tile : ℕ) (name bytes held : List ℕ) (reading : Result Mesh Line) (o : Option Told) → held ≡ bytes
    → length bytes ≤ limit → IfSome o (λ told. told.files name ≡ Some bytes)
    → ((most : ℕ) → length held ≤ most → IsUnderstoodTile most tile held reading)
    → IfSome o (IsTileReading limit tile name reading)
tile_read limit tile name bytes held reading None same within there understood = tt
tile_read limit tile name bytes held reading (Some told) same within there understood =
    let short : length held ≤ limit = subst (λ (b : List ℕ). length b ≤ limit) (sym same) within in
    (bytes, there, subst (λ (b : List ℕ). IsUnderstoodTile limit tile b reading) same (understood limit short))
