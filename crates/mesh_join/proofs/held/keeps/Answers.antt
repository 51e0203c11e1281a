use Rattle.std.proofs.Common.{◌<◌, arith, length}
use Rattle.mesh_join.specs.Joins.{lists_of}
use Rattle.mesh_join.proofs.Tiles.{count, joined_from, joined_parts, first_parts}
use Rattle.mesh_join.proofs.held.keeps.Goals as goal

pub returns-then-not-owns-clause-complete : goal.returns-then-not-owns-clause-complete
returns-then-not-owns-clause-complete c =
    λ j o. let h = first_parts c.args.owners.now c.args.i _ c.args.face c.requires.valid o in absurd (cc)

pub returns-then-not-is_held_too-clause-complete : goal.returns-then-not-is_held_too-clause-complete
returns-then-not-is_held_too-clause-complete c =
    λ j o.
    let h = c.is_held_too.ensures.1 (joined_parts c.args.owners.now (lists_of c.args.tiles.now) _ c.args.face c.requires.valid j).0 in
    absurd (cc)

pub returns-clause-sound : goal.returns-clause-sound
returns-clause-sound c =
    λ t.
    let l : c.args.i < length (lists_of c.args.tiles.now) = omega (arith, count c.args.tiles.now) in
    joined_from c.args.owners.now (lists_of c.args.tiles.now) _ c.args.face c.requires.valid
    (c.args.i, l, (cc, c.requires.has)) (c.is_held_too.ensures.0 (cc)) (c.is_held_too-2.ensures.0 t)

pub returns-clause-complete : goal.returns-clause-complete
returns-clause-complete c =
    λ j o. c.is_held_too-2.ensures.1 (joined_parts c.args.owners.now (lists_of c.args.tiles.now) _ c.args.face c.requires.valid j).1
