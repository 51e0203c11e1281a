-- Why a text is not a list of tiles: the first error in line order.
--
--   AtEntries lines text r   r is the first error of the rest of a list's text from line 2 on, which has to be this number of
--                            entries, then nothing
--   IsRefusedTiles text r    the first error of a text as a list of tiles, line by line
use Rattle.std.specs.Prelude.{ℕ, ◌*◌, ◌-◌, None, List, codes}
use Rattle.line_text.specs.Refusals.{line_after, AtNumber, AtRows, IsBehindEnd}
use Rattle.line_text.specs.declared.refusal.LineRefusal.{LineRefusal}
use Rattle.tile_list.specs.Entries.{entry_line, IsEntry}
use Rattle.tile_list.specs.declared.read.TheConstants.{TILE_LIMIT}

-- this number of entries from line 2 on, and nothing after them
abbrev pub AtEntries : (lines : ℕ) → List ℕ → LineRefusal → Type 0
AtEntries lines text r = AtRows IsEntry entry_line None lines 2 text r (λ _ rest. IsBehindEnd (line_after 2 lines) rest r)

-- the text is rejected with this error: the first line, in order, that is truncated, invalid, or after the end
abbrev pub IsRefusedTiles : List ℕ → LineRefusal → Type 0
IsRefusedTiles text r = AtNumber (codes "tiles ") 1 TILE_LIMIT 1 text r (λ tiles rest. AtEntries (2 * tiles - 1) rest r)
