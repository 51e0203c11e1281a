use Rattle.std.proofs.Common.{◌≡◌, take}
use Rattle.join_cmd.specs.Join.{cores_of}
use Rattle.join_cmd.proofs.tiles.cores_in.Given as goal

abbrev pub invariant-loop-tile : goal.invariant-loop-tile
invariant-loop-tile l = l.cores.items ≡ cores_of (take l.tile-index l.tiles)
