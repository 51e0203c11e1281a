use Rattle.std.proofs.Common.{◌≡◌, map, string_bytes, drop}
use Rattle.command_run.specs.Words.{are_names}
use Rattle.command_run.proofs.names.are_names.Given as goal

abbrev pub invariant-loop-k : goal.invariant-loop-k
invariant-loop-k l = are_names (map string_bytes (drop l.k l.names)) ≡ are_names (map string_bytes l.names)
