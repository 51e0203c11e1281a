-- The text of a list of tiles.
--
--   axis_code axis         the letter of an axis
--   IsCornerCoordinate z   a coordinate of the box
--   IsBoxedCorner p, IsBoxedTile tile   a corner in the box, a tile with both corners in it
--   is_file_name_byte c   whether a byte may stand in a file name
--   IsFileName name            the name of a file beside the list
--   IsEntry entry              an entry that a list may have
--   corner_fields p end    three coordinates, each with the byte that ends it
--   cut_line cut, tile_line tile, entry_line entry   the line of each
--   IsTileList text entries   the text states a number of tiles, from 1 to the most, and then has these entries, one cut fewer
--                          than tiles
use Rattle.std.specs.Prelude.{ℕ, ℤ, unsigned_abs, All, ◌≡◌, ◌≢◌, ◌+◌, ◌*◌, ◌<◌, ◌≤◌, ◌==◌, ◌||◌, Bool, true, List, ◌∷◌, ◌++◌}
use Rattle.std.specs.Prelude.{codes, length, slice_index}
use Rattle.std.specs.Char.{is_ascii_alphanumeric}
use Rattle.std.specs.List.{flat_map, list_all}
use Rattle.geo_sign.specs.declared.point.TheConstants.{BOX_LIMIT}
use Rattle.line_text.specs.Numbers.{counted, signed_ended}
use Rattle.tile_list.specs.declared.read.TheConstants.{TILE_LIMIT}
use Rattle.tile_list.specs.declared.entry.Axis.{Axis}
use Rattle.tile_list.specs.declared.entry.Axis.TheVariants.{X, Y, Z}
use Rattle.tile_list.specs.declared.entry.Corner.{Corner}
use Rattle.tile_list.specs.declared.entry.Cut.{Cut}
use Rattle.tile_list.specs.declared.entry.Entry.{Entry}
use Rattle.tile_list.specs.declared.entry.Entry.TheVariants as entries
use Rattle.tile_list.specs.declared.entry.TileLine.{TileLine}

-- the letter of an axis
abbrev pub axis_code : Axis → ℕ
axis_code X = 120
axis_code Y = 121
axis_code Z = 122

-- a coordinate of the box
abbrev pub IsCornerCoordinate : ℤ → Type 0
IsCornerCoordinate z = unsigned_abs z ≤ BOX_LIMIT

-- a corner in the box
abbrev pub IsBoxedCorner : Corner → Type 0
IsBoxedCorner p = IsCornerCoordinate p.x × IsCornerCoordinate p.y × IsCornerCoordinate p.z

-- a tile whose corners are in the box
abbrev pub IsBoxedTile : TileLine → Type 0
IsBoxedTile tile = IsBoxedCorner tile.low × IsBoxedCorner tile.high

-- a letter, a digit, or one of `.`, `_` and `-`
abbrev pub is_file_name_byte : ℕ → Bool
is_file_name_byte c = is_ascii_alphanumeric c || ((c == 46) || ((c == 95) || (c == 45)))

-- from 1 to 255 such bytes, and the first is no `.`
pub record IsFileName (name : List ℕ) : Type 0 where
  pub some : 0 < length name
  pub short : length name ≤ 255
  pub shown : slice_index name 0 ≢ 46
  pub plain : list_all is_file_name_byte name ≡ true

-- a cut in the box, or a tile in the box whose mesh has the name of a file
abbrev pub IsEntry : Entry → Type 0
IsEntry (entries.Cut cut) = IsCornerCoordinate cut.at
IsEntry (entries.Tile tile) = IsFileName tile.file.now × IsBoxedTile tile

-- three coordinates: after the first two a space, after the third this byte
abbrev pub corner_fields : Corner → (end : ℕ) → List ℕ
corner_fields p end = signed_ended p.x 32 ++ (signed_ended p.y 32 ++ signed_ended p.z end)

-- cut AXIS AT
abbrev pub cut_line : Cut → List ℕ
cut_line cut = codes "cut " ++ (axis_code cut.axis ∷ (codes " " ++ signed_ended cut.at 10))

-- tile FILE LX LY LZ HX HY HZ
abbrev pub tile_line : TileLine → List ℕ
tile_line tile = codes "tile " ++ (tile.file.now ++ (32 ∷ (corner_fields tile.low 32 ++ corner_fields tile.high 10)))

-- the line of an entry
abbrev pub entry_line : Entry → List ℕ
entry_line (entries.Cut cut) = cut_line cut
entry_line (entries.Tile tile) = tile_line tile

-- the first line and those of the entries; with a cut fewer than tiles
pub record IsTileList (text : List ℕ) (list : List Entry) : Type 0 where
  pub tiles : ℕ
  pub least : 1 ≤ tiles
  pub most : tiles ≤ TILE_LIMIT
  pub lines : length list + 1 ≡ 2 * tiles
  pub each : All IsEntry list
  pub text_is : text ≡ counted (codes "tiles ") tiles ++ flat_map entry_line list
