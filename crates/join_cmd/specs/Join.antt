-- `join TILES OUT`: one closed mesh of the meshes of tiles.
--
-- What is written is a join (`IsJoining`): closed, and each edge has the faces of the tile that owns it, but for filled ones.
--
--   tiles_of entries                the tiles among the entries of a list
--   point_of_corner p                  the place of a corner
--   core_of tile, cores_of tiles    the core of a tile, and those of tiles
--   join_names words                the file names that the program holds for `join`
--   meshes_read, join_reads         the most meshes that are read, and the most files
--   IsMeshFile limit files name mesh   the file of this name is the text of the mesh
--   AreMeshFiles limit files tiles meshes   the files of the tiles are the texts of these meshes
--   IsRejected limit tile bytes line   the bytes are not the mesh of a tile, for which this is the line
--   IsRejectedTile limit files tiles line   the same for the file of one of the tiles
--   join_done output tiles ..       the answer that writes this mesh
--   WritesJoined output cores ..    the answer writes a join of the meshes
--   IsNotJoined cores meshes answer   the meshes are not joined, and the answer says why
--   JoinAnswer output cores meshes answer   one of the two
--   TilesAnswer limit output files tiles answer   the answer to the tiles of a list
--   IsRejectedList bytes line       the bytes are not a list of tiles, for which this is the line
--   ListAnswer limit output files bytes answer   the answer to the bytes of a list
--   ToTiles limit names files answer   the answer of the command to these files
--   join_task names                 the command `join`
use Rattle.std.specs.Prelude.{ℕ, List, [], ◌∷◌, ◌≡◌, ◌<◌, ◌≤◌, ◌+◌, ◌*◌, ◌⊎◌, ⊤, length, map, Some, slice_index_or}
use Rattle.host.specs.State.{Files}
use Rattle.geo_sign.specs.Point.{Point, point}
use Rattle.line_text.specs.declared.refusal.LineRefusal.{LineRefusal}
use Rattle.mesh.specs.declared.mesh.Mesh.{Mesh}
use Rattle.mesh_join.specs.Joins.{IsJoining}
use Rattle.mesh_join.specs.Refusals.{IsRefusedJoin}
use Rattle.mesh_join.specs.declared.join.Refusal.{Refusal}
use Rattle.mesh_join.specs.declared.owners.Core.{Core}
use Rattle.mesh_ply.specs.Refusals.{IsRefusedMesh}
use Rattle.mesh_ply.specs.Texts.{mesh_text, IsPrinted}
use Rattle.mesh_ply.specs.declared.refusal.MeshRefusal.{MeshRefusal}
use Rattle.tile_list.specs.Entries.{IsTileList}
use Rattle.tile_list.specs.Refusals.{IsRefusedTiles}
use Rattle.tile_list.specs.declared.read.TheConstants.{TILE_LIMIT}
use Rattle.tile_list.specs.declared.entry.Corner.{Corner}
use Rattle.tile_list.specs.declared.entry.Entry.{Entry}
use Rattle.tile_list.specs.declared.entry.Entry.TheVariants as entries
use Rattle.tile_list.specs.declared.entry.TileLine.{TileLine}
use Rattle.command_run.specs.Answers.{Answer, Task, FileTooLong, invalid}
use Rattle.command_run.specs.Words.{Names}
use Rattle.command_run.specs.declared.status.Status.TheVariants.{Done}
use Rattle.join_cmd.specs.Lines.{too_long_tiles_line, too_long_tile_line, tiles_error_line, tile_error_line, join_error_line, joined_line}
use Rattle.join_cmd.specs.declared.reply.JoinWords.{JoinWords}

-- the tiles among the entries of a list, in their order
abbrev pub tiles_of : List Entry → List TileLine
tiles_of [] = []
tiles_of (entries.Cut cut ∷ rest) = tiles_of rest
tiles_of (entries.Tile tile ∷ rest) = tile ∷ tiles_of rest

-- the place of a corner
abbrev pub point_of_corner : Corner → Point
point_of_corner p = point p.x p.y p.z

-- the core of a tile
abbrev pub core_of : TileLine → Core
core_of tile = record { low = point_of_corner tile.low; high = point_of_corner tile.high }

-- the cores of tiles
abbrev pub cores_of : List TileLine → List Core
cores_of tiles = map core_of tiles

-- the names that the program holds
abbrev pub join_names : JoinWords → Names
join_names words = record { input = words.tiles.now; output = words.output.now }

-- the most meshes that are read: a list has fewer entries
abbrev pub meshes_read : ℕ
meshes_read = 2 * TILE_LIMIT

-- the most files that are read: each answer states this number, however many its list names
abbrev pub join_reads : ℕ
join_reads = meshes_read + 1

-- the file of this name is the text of the mesh
pub record IsMeshFile (limit : ℕ) (files : Files) (name : List ℕ) (mesh : Mesh) : Type 0 where
  pub bytes : List ℕ
  pub there : files name ≡ Some bytes
  pub within : length bytes ≤ limit
  pub printed : IsPrinted mesh.points.items mesh.faces.items
  pub text_is : bytes ≡ mesh_text mesh.points.items mesh.faces.items

-- as many meshes as tiles, each the one in the file of its tile
pub record AreMeshFiles (limit : ℕ) (files : Files) (tiles : List TileLine) (meshes : List Mesh) : Type 0 where
  pub count : length meshes ≡ length tiles
  pub each : (i : ℕ) (t : TileLine) (m : Mesh) → i < length tiles
      → IsMeshFile limit files (slice_index_or tiles i t).file.now (slice_index_or meshes i m)

-- the bytes are too long for the mesh of a tile, or no mesh: the line says so
abbrev pub IsRejected : (limit tile : ℕ) → (bytes line : List ℕ) → Type 0
IsRejected limit tile bytes line =
    ((limit < length bytes) × (line ≡ too_long_tile_line tile))
    ⊎ ((length bytes ≤ limit) × ((why : MeshRefusal) × IsRefusedMesh bytes why × (tile_error_line tile why ≡ Some line)))

-- the file of one of the tiles is rejected, with its number
pub record IsRejectedTile (limit : ℕ) (files : Files) (tiles : List TileLine) (line : List ℕ) : Type 0 where
  pub tile : ℕ
  pub within : tile < length tiles
  pub bytes : List ℕ
  pub there : (t : TileLine) → files (slice_index_or tiles tile t).file.now ≡ Some bytes
  pub rejected : IsRejected limit tile bytes line

-- the answer that writes the text of this mesh
abbrev pub join_done : (output : List ℕ) → (tiles : ℕ) → List Point → List (List ℕ) → (moved filled : ℕ) → Answer
join_done output tiles points faces moved filled =
    record {
      status = Done;
      reads = join_reads;
      writes = (output, mesh_text points faces) ∷ [];
      line = joined_line tiles (length points) (length faces) moved filled;
    }

-- The text of a join of the meshes is written. The line has its numbers of points and faces, of moved edges, and of faces that no tile has.
pub record WritesJoined (output : List ℕ) (cores : List Core) (meshes : List Mesh) (answer : Answer) : Type 0 where
  pub points : List Point
  pub faces : List (List ℕ)
  pub moved : ℕ
  pub filled : ℕ
  pub printed : IsPrinted points faces
  pub so : IsJoining cores meshes points faces moved filled
  pub is : answer ≡ join_done output (length meshes) points faces moved filled

-- the meshes are not joined for a reason, which the line says
abbrev pub IsNotJoined : List Core → List Mesh → Answer → Type 0
IsNotJoined cores meshes answer =
    (why : Refusal) × IsRefusedJoin cores meshes why × (answer ≡ invalid join_reads (join_error_line why))

-- a join is written, or it is said why not
abbrev pub JoinAnswer : (output : List ℕ) → List Core → List Mesh → Answer → Type 0
JoinAnswer output cores meshes answer = WritesJoined output cores meshes answer ⊎ IsNotJoined cores meshes answer

-- the meshes in the files of the tiles are joined, or one of the files is rejected
abbrev pub TilesAnswer : (limit : ℕ) → (output : List ℕ) → Files → List TileLine → Answer → Type 0
TilesAnswer limit output files tiles answer =
    ((meshes : List Mesh) × AreMeshFiles limit files tiles meshes × JoinAnswer output (cores_of tiles) meshes answer)
    ⊎ ((line : List ℕ) × IsRejectedTile limit files tiles line × (answer ≡ invalid join_reads line))

-- the bytes are no list of tiles: the line says the first error
abbrev pub IsRejectedList : (bytes line : List ℕ) → Type 0
IsRejectedList bytes line = (why : LineRefusal) × IsRefusedTiles bytes why × (tiles_error_line why ≡ Some line)

-- the bytes are a list whose tiles are answered, or they are rejected
abbrev pub ListAnswer : (limit : ℕ) → (output : List ℕ) → Files → (bytes : List ℕ) → Answer → Type 0
ListAnswer limit output files bytes answer =
    ((list : List Entry) × IsTileList bytes list × TilesAnswer limit output files (tiles_of list) answer)
    ⊎ ((line : List ℕ) × IsRejectedList bytes line × (answer ≡ invalid join_reads line))

-- the answer to these files: the list is too long, or answered
abbrev pub ToTiles : (limit : ℕ) → Names → Files → Answer → Type 0
ToTiles limit names files answer =
    (bytes : List ℕ) × (files names.input ≡ Some bytes)
    × (FileTooLong limit join_reads too_long_tiles_line bytes answer
    ⊎ ((length bytes ≤ limit) × ListAnswer limit names.output files bytes answer))

-- it reads the list, then each mesh that it names, and writes the joined one
abbrev pub join_task : Names → Task
join_task names = record { Denies = ⊥; Refuses = ⊤; most = join_reads; Answers = λ limit. ToTiles limit names }
