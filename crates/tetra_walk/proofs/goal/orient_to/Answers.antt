use Rattle.std.proofs.Common.{inl, inr}
use Rattle.tetra_walk.proofs.NearSides.{own_sign}
use Rattle.tetra_walk.proofs.goal.orient_to.Goals as goal

pub returns-then-is_at : goal.returns-then-is_at
returns-then-is_at c =
    let a = c.args in own_sign a.a a.b a.c a.p (inl (c.is_at.ensures c.if-is_at.true))

pub returns-then-is_at-2 : goal.returns-then-is_at-2
returns-then-is_at-2 c =
    let a = c.args in own_sign a.a a.b a.c a.p (inr (inl (c.is_at-2.ensures c.if-is_at-2.true)))

pub returns-then-is_at-3 : goal.returns-then-is_at-3
returns-then-is_at-3 c =
    let a = c.args in own_sign a.a a.b a.c a.p (inr (inr (c.is_at-3.ensures c.if-is_at-3.true)))
