use Rattle.curve_order.proofs.Orders.{permuted}
use Rattle.curve_order.proofs.rounds.in_rounds.Goals as goal

pub returns-clause-order : goal.returns-clause-order
returns-clause-order c = λ n h. permuted n c.args.order.items c.sort_by_key.new.self.items c.sort_by_key.ensures.permutation h
