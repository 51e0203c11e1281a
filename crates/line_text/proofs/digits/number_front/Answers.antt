use Rattle.std.proofs.Common.{◌-◌, drop, length, length-drop, take_all, arith, List, ℕ}
use Rattle.line_text.proofs.Numerals.{number_is, number_plain}
use Rattle.line_text.proofs.digits.number_front.Goals as goal

pub returns-then-is_plain-clause-some : goal.returns-then-is_plain-clause-some
returns-then-is_plain-clause-some c =
    let read = c.in_ok-n.ensures.some in
    let text = c.args.text.now in
    let behind : List ℕ = drop c.in_ok-n.count text in
    number_is text _ c.in_ok-n.count c.in_ok-n.n (omega arith) (record { digits = read.1; value = read.2 }) read.3
    c.if-is_plain.ensures.yes (take_all (length text - c.in_ok-n.count) behind (omega (arith, length-drop c.in_ok-n.count text)))

pub returns-else-is_plain-clause-none : goal.returns-else-is_plain-clause-none
returns-else-is_plain-clause-none c = λ m rest fits stops e.
    let read = c.in_ok-n.ensures.some in
    c.if-is_plain.ensures.no
    (number_plain c.args.text.now rest c.in_ok-n.count c.in_ok-n.n m (record { digits = read.1; value = read.2 }) read.3 fits
    stops e)
