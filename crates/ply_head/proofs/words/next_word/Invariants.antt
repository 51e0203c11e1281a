use Rattle.std.proofs.Common.{◌≡◌, false, take, All}
use Rattle.ply_head.specs.Lines.{is_blank}
use Rattle.ply_head.proofs.words.next_word.Given as goal

abbrev pub invariant-loop-position : goal.invariant-loop-position
invariant-loop-position l = All (λ x. is_blank x ≡ false) (take l.position l.rest)
