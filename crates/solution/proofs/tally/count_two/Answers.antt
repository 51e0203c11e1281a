use Rattle.std.proofs.Common.{arith}
use Rattle.solution.proofs.WalkCounts.{line_adds_behind_at_most}
use Rattle.solution.proofs.tally.count_two.Goals as goal

pub count_behind-requires-2-clause-room : goal.count_behind-requires-2-clause-room
count_behind-requires-2-clause-room c id =
    let added = c.count_behind.ensures.added id in
    let most = line_adds_behind_at_most c.args.t.now c.args.one.now id in
    let room = c.requires.before_room id in
    omega (arith, added, most, room)
