use Rattle.std.proofs.Common.{arith}
use Rattle.host.proofs.Changes.{takes_more}
use Rattle.host.proofs.calls.read_all.Goals as goal

pub returns-in_err-extend_from_slice-clause-no_memory :
    goal.returns-in_err-extend_from_slice-clause-no_memory
returns-in_err-extend_from_slice-clause-no_memory g c =
    λ _. (
      c.loop-bytes.invariant.there,
      (_, grind arith, takes_more _ _ _ _ _ c.loop-bytes.invariant.taken c.in_ok-count.ensures.taken),
    )
