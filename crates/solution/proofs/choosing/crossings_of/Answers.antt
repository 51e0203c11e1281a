use Rattle.solution.proofs.WalkCounts.{go_shorter}
use Rattle.solution.proofs.choosing.crossings_of.Goals as goal

pub loop-along-smaller : goal.loop-along-smaller
loop-along-smaller c = go_shorter c.loop-along.along c.go_on.new.self (c.go_on.ensures.on c.loop-along-test.true)
