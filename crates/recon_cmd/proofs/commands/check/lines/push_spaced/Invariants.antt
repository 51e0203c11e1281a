use Rattle.std.proofs.Common.{◌≡◌, ◌++◌, take}
use Rattle.scan.specs.PlainForm.{spaced}
use Rattle.recon_cmd.proofs.commands.check.lines.push_spaced.Given as goal

abbrev pub invariant-loop-number : goal.invariant-loop-number
invariant-loop-number l = l.line.items ≡ l.fn.line.items ++ spaced (take l.number-index l.numbers)
