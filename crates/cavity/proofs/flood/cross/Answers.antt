use Rattle.cavity.proofs.Growing.{marked_more}
use Rattle.cavity.proofs.flood.cross.Goals as goal

pub returns-then-is_in_conflict-clause-marked : goal.returns-then-is_in_conflict-clause-marked
returns-then-is_in_conflict-clause-marked c =
    marked_more _ _ _ _ c.args.into.now.cells.items c.in-Some.y c.number-then-is_in_conflict.result c.push.new.self.items
    c.number-then-is_in_conflict.ensures c.requires.marked
    (λ x. c.in_ok-mark.ensures x) c.in_ok-push.ensures.ok
