use Rattle.std.proofs.Common.{◌∙◌, sym, ap}
use Rattle.ply_head.proofs.LoopLemmas.{tail_of_tail, tail_fits, tail_is, whole_and}
use Rattle.ply_head.proofs.GrammarFound.{header_found}
use Rattle.ply_head.proofs.ReadableLemmas.{readable_has}
use Rattle.ply_head.proofs.read.read_head.Goals as goal

pub overflow_sub-position : goal.overflow_sub-position
overflow_sub-position c = tail_fits _ _ (tail_of_tail _ _ _ c.in_ok-head.ensures.tail c.in-Some.ensures.tail)

-- the header and the body that the position cuts off
read : goal.returns-clause-exact
read c =
    c.in-Some.ensures.some ∙ c.in_ok-head.ensures.head
    ∙ ap (whole_and c.in_ok-head.head) (sym (tail_is _ _ (tail_of_tail _ _ _ c.in_ok-head.ensures.tail c.in-Some.ensures.tail)))

pub returns-clause-exact : goal.returns-clause-exact
returns-clause-exact c = read c

pub returns-clause-grammar : goal.returns-clause-grammar
returns-clause-grammar c = header_found _ _ _ (read c)

pub returns-clause-readable : goal.returns-clause-readable
returns-clause-readable c = readable_has _ _ _ (header_found _ _ _ (read c))
