use Rattle.curve_order.proofs.curve.+interleaved.Given as goal

-- proposed from what the function passes where it calls itself
abbrev pub decreases-interleaved : goal.decreases-interleaved
decreases-interleaved l = l.bits
