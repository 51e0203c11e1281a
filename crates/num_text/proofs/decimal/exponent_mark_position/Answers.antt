use Rattle.std.proofs.Common.{arith, sym, ◌∙◌}
use Rattle.std.proofs.lemmas.List.Sums.{position_or_len_is}
use Rattle.num_text.specs.Decimals.{is_exponent_mark}
use Rattle.num_text.proofs.decimal.exponent_mark_position.Goals as goal

pub returns-then-is_exponent_mark_byte : goal.returns-then-is_exponent_mark_byte
returns-then-is_exponent_mark_byte c =
    sym (position_or_len_is is_exponent_mark c.args.text.now c.loop-position.position 0 (omega arith) c.loop-position.invariant
    (λ lt. sym c.is_exponent_mark_byte.ensures ∙ c.if-is_exponent_mark_byte.true))

pub returns : goal.returns
returns c =
    sym (position_or_len_is is_exponent_mark c.args.text.now _ 0 (omega arith)
    (λ k lt. c.loop-position.invariant k (omega arith)) (λ lt. absurd (omega arith)))
