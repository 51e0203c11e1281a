use Rattle.std.proofs.Common.{◌≡◌, drop}
use Rattle.ply_head.specs.Lines.{words_of}
use Rattle.ply_head.proofs.words.behind_blanks.Given as goal

abbrev pub invariant-loop-position : goal.invariant-loop-position
invariant-loop-position l = words_of (drop l.position l.line) ≡ words_of l.line
