use Rattle.std.proofs.Common.{◌<◌, length, arith, IsTrue, false}
use Rattle.mesh_check.proofs.Searched.{none_more}
use Rattle.mesh_check.proofs.search.near_between.Goals as goal

pub loop-k-preserved : goal.loop-k-preserved
loop-k-preserved c =
    let inside : c.loop-k.k < length c.args.homes.now = omega arith in
    none_more c.args.fine c.args.within c.args.homes.now c.args.p c.index-homes-k.result c.args.start c.loop-k.k
    c.loop-k.invariant c.index-homes-k.is inside
    (λ near.
    let no : IsTrue false = c.if-is_near.ensures.1 near in cc)
