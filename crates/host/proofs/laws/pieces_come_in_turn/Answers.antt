use Rattle.std.proofs.Common.{ℕ, ◌+◌, ◌%◌, ◌∙◌, ap, length}
use Rattle.std.proofs.Math.Nat.{mod-add-mod}
use Rattle.host.specs.Memory.{pieces_of}
use Rattle.host.proofs.laws.pieces_come_in_turn.Goals as goal

pub returns : goal.returns
returns c = λ host k some e.
    ap (λ (turn : ℕ). (turn + 1) % length (pieces_of host)) e ∙ mod-add-mod k (length (pieces_of host)) 1
