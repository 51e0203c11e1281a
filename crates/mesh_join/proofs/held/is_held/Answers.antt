use Rattle.std.proofs.Common.{◌≡◌, ◌<◌, arith, length, refl, below_more, true, Contains}
use Rattle.std.proofs.lemmas.Bool.{false≢true}
use Rattle.mesh_join.specs.Joins.{faces_of, lists_of, owns}
use Rattle.mesh_join.proofs.Tiles.{count}
use Rattle.mesh_join.proofs.held.is_held.Goals as goal

pub returns-then-is_held_by : goal.returns-then-is_held_by
returns-then-is_held_by c =
    let l : c.loop-i.i < length (lists_of c.args.tiles.now) = omega (arith, count c.args.tiles.now) in
    (λ _. (c.loop-i.i, l, c.is_held_by.ensures.0 (cc)), λ _. refl)

pub loop-i-preserved : goal.loop-i-preserved
loop-i-preserved c =
    below_more
    (λ j. owns c.args.owners.now j c.args.u c.args.v ≡ true → Contains (faces_of (lists_of c.args.tiles.now) j) c.args.face → ⊥)
    c.loop-i.i c.loop-i.invariant (λ o h. let t = c.is_held_by.ensures.1 (o, h) in absurd (cc))

pub returns : goal.returns
returns c = (
  λ t. absurd (false≢true t),
  λ h. absurd (c.loop-i.invariant h.0 (omega (arith, count c.args.tiles.now, h.1)) h.2.0 h.2.1),
)
