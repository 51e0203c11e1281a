use Rattle.std.proofs.Common.{arith, sym, ◌∙◌}
use Rattle.std.proofs.lemmas.List.Sums.{position_or_len_is}
use Rattle.num_text.specs.Decimals.{is_point}
use Rattle.num_text.proofs.decimal.point_position.Goals as goal

pub returns-then-is_point_byte : goal.returns-then-is_point_byte
returns-then-is_point_byte c =
    sym (position_or_len_is is_point c.args.text.now c.loop-position.position 0 (omega arith) c.loop-position.invariant
    (λ lt. sym c.is_point_byte.ensures ∙ c.if-is_point_byte.true))

pub returns : goal.returns
returns c =
    sym (position_or_len_is is_point c.args.text.now _ 0 (omega arith) (λ k lt. c.loop-position.invariant k (omega arith))
    (λ lt. absurd (omega arith)))
