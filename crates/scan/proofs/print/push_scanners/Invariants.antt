use Rattle.std.proofs.Common.{◌≡◌, ◌++◌, map, take}
use Rattle.scan_rows.specs.declared.scan.Seen.{Seen}
use Rattle.scan.specs.PlainForm.{spaced}
use Rattle.scan.proofs.print.push_scanners.Given as goal

abbrev pub invariant-loop-sight : goal.invariant-loop-sight
invariant-loop-sight l =
    l.out.items ≡ l.initial.out.items ++ spaced (map (λ (s : Seen). s.scanner) (take l.sight-index l.sights))
