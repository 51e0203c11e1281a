use Rattle.std.proofs.Common.{◌≡◌, map, string_bytes, drop}
use Rattle.command_run.specs.Words.{is_other}
use Rattle.command_run.proofs.names.is_none_of.Given as goal

abbrev pub invariant-loop-other : goal.invariant-loop-other
invariant-loop-other l =
    is_other l.name (map string_bytes (drop l.other-index l.others)) ≡ is_other l.name (map string_bytes l.others)
