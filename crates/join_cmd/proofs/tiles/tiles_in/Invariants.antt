use Rattle.std.proofs.Common.{◌≡◌, ◌++◌, drop}
use Rattle.std.specs.List.{All}
use Rattle.tile_list.specs.Entries.{IsBoxedTile}
use Rattle.join_cmd.specs.Join.{tiles_of}
use Rattle.join_cmd.proofs.tiles.tiles_in.Given as goal

abbrev pub invariant-loop-entry : goal.invariant-loop-entry
invariant-loop-entry l =
    record {
      same : l.tiles.items ++ tiles_of (drop l.entry-index l.entries) ≡ tiles_of l.entries;
      boxed : All IsBoxedTile l.tiles.items;
    }
