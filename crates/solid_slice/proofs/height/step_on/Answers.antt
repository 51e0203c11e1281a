-- The point of a step, in words of 64 bits: nothing wraps, so it is the fraction of the definition.
--
-- `Held m t z` says that the word t holds the whole number z, and that z is at most m in absolute value. Coordinates of the
-- box are held (held_x, held_y, held_z), and so is the height, since it lies between the heights of the edge's ends
-- (held_height). So the rise and the climb are held (held_rise, held_climb), which is what along_edge asks for, and what it
-- gives is `along` of the numbers that they hold (along_is).
use Rattle.std.proofs.Common.{◌≡◌, ◌∙◌, arith, to_z, of_z}
use Rattle.std.proofs.lemmas.Int.{ints}
use mir.Syntax.{w64}
use Rattle.geo_sign.proofs.Bounds.{held_kept, fits_held, within_held}
use Rattle.solid_slice.proofs.Steps.{held_x, held_y, held_z, held_height, point_within, held_rise, held_climb, along_is}
use Rattle.solid_slice.proofs.height.step_on.Goals as goal

pub overflow_sub-climb : goal.overflow_sub-climb
overflow_sub-climb c =
    fits_held w64
    (held_climb
    (held_height c.args.points.now c.args.edge.first c.args.edge.second
    (point_within c.args.points.now c.args.edge.first c.requires.lower c.index-points-edge.result c.index-points-edge.is
    c.facts.ensures)
    (point_within c.args.points.now c.args.edge.second c.requires.upper c.index-points-edge-2.result c.index-points-edge-2.is
    c.facts-2.ensures) c.args.height c.from-2.result c.requires.from_below c.requires.to_above c.from-2.ensures)
    (held_z c.args.points.now c.args.edge.first c.requires.lower c.index-points-edge.result
    c.index-points-edge.is c.facts.ensures c.from-low.result c.z.result c.from-low.ensures c.z.ensures)) tt

pub along_edge-x-requires-clause-from_within : goal.along_edge-x-requires-clause-from_within
along_edge-x-requires-clause-from_within c =
    within_held
    (held_x c.args.points.now c.args.edge.first c.requires.lower c.index-points-edge.result
    c.index-points-edge.is c.facts.ensures c.from-3.result c.x.result c.from-3.ensures c.x.ensures)

pub along_edge-x-requires-clause-to_within : goal.along_edge-x-requires-clause-to_within
along_edge-x-requires-clause-to_within c =
    within_held
    (held_x c.args.points.now c.args.edge.second c.requires.upper c.index-points-edge-2.result
    c.index-points-edge-2.is c.facts-2.ensures c.from-4.result c.x-2.result c.from-4.ensures c.x-2.ensures)

pub along_edge-x-requires-clause-d_within : goal.along_edge-x-requires-clause-d_within
along_edge-x-requires-clause-d_within c =
    within_held
    (held_rise
    (held_z c.args.points.now c.args.edge.second c.requires.upper c.index-points-edge-2.result
    c.index-points-edge-2.is c.facts-2.ensures c.from.result c.z-2.result c.from.ensures c.z-2.ensures)
    (held_z c.args.points.now c.args.edge.first c.requires.lower c.index-points-edge.result
    c.index-points-edge.is c.facts.ensures c.from-low.result c.z.result c.from-low.ensures c.z.ensures))

pub along_edge-x-requires-clause-climb_within : goal.along_edge-x-requires-clause-climb_within
along_edge-x-requires-clause-climb_within c =
    within_held
    (held_kept w64
    (held_climb
    (held_height c.args.points.now c.args.edge.first c.args.edge.second
    (point_within c.args.points.now c.args.edge.first c.requires.lower c.index-points-edge.result c.index-points-edge.is
    c.facts.ensures)
    (point_within c.args.points.now c.args.edge.second c.requires.upper c.index-points-edge-2.result c.index-points-edge-2.is
    c.facts-2.ensures) c.args.height c.from-2.result c.requires.from_below c.requires.to_above c.from-2.ensures)
    (held_z c.args.points.now c.args.edge.first c.requires.lower c.index-points-edge.result
    c.index-points-edge.is c.facts.ensures c.from-low.result c.z.result c.from-low.ensures c.z.ensures)) tt)

pub along_edge-y-requires-clause-from_within : goal.along_edge-y-requires-clause-from_within
along_edge-y-requires-clause-from_within c =
    within_held
    (held_y c.args.points.now c.args.edge.first c.requires.lower c.index-points-edge.result
    c.index-points-edge.is c.facts.ensures c.from-5.result c.y.result c.from-5.ensures c.y.ensures)

pub along_edge-y-requires-clause-to_within : goal.along_edge-y-requires-clause-to_within
along_edge-y-requires-clause-to_within c =
    within_held
    (held_y c.args.points.now c.args.edge.second c.requires.upper c.index-points-edge-2.result
    c.index-points-edge-2.is c.facts-2.ensures c.from-6.result c.y-2.result c.from-6.ensures c.y-2.ensures)

pub along_edge-y-requires-clause-d_within : goal.along_edge-y-requires-clause-d_within
along_edge-y-requires-clause-d_within c =
    within_held
    (held_rise
    (held_z c.args.points.now c.args.edge.second c.requires.upper c.index-points-edge-2.result
    c.index-points-edge-2.is c.facts-2.ensures c.from.result c.z-2.result c.from.ensures c.z-2.ensures)
    (held_z c.args.points.now c.args.edge.first c.requires.lower c.index-points-edge.result
    c.index-points-edge.is c.facts.ensures c.from-low.result c.z.result c.from-low.ensures c.z.ensures))

pub along_edge-y-requires-clause-climb_within : goal.along_edge-y-requires-clause-climb_within
along_edge-y-requires-clause-climb_within c =
    within_held
    (held_kept w64
    (held_climb
    (held_height c.args.points.now c.args.edge.first c.args.edge.second
    (point_within c.args.points.now c.args.edge.first c.requires.lower c.index-points-edge.result c.index-points-edge.is
    c.facts.ensures)
    (point_within c.args.points.now c.args.edge.second c.requires.upper c.index-points-edge-2.result c.index-points-edge-2.is
    c.facts-2.ensures) c.args.height c.from-2.result c.requires.from_below c.requires.to_above c.from-2.ensures)
    (held_z c.args.points.now c.args.edge.first c.requires.lower c.index-points-edge.result
    c.index-points-edge.is c.facts.ensures c.from-low.result c.z.result c.from-low.ensures c.z.ensures)) tt)

pub returns-clause-x : goal.returns-clause-x
returns-clause-x c =
    let stored : to_z w64 (of_z w64 c.along_edge-x.result) ≡ c.along_edge-x.result = omega (arith, ints) in
    stored ∙ along_is c.along_edge-x.ensures
    (held_x c.args.points.now c.args.edge.first c.requires.lower c.index-points-edge.result
    c.index-points-edge.is c.facts.ensures c.from-3.result c.x.result c.from-3.ensures c.x.ensures).is
    (held_x c.args.points.now c.args.edge.second c.requires.upper c.index-points-edge-2.result
    c.index-points-edge-2.is c.facts-2.ensures c.from-4.result c.x-2.result c.from-4.ensures c.x-2.ensures).is
    (held_rise
    (held_z c.args.points.now c.args.edge.second c.requires.upper c.index-points-edge-2.result
    c.index-points-edge-2.is c.facts-2.ensures c.from.result c.z-2.result c.from.ensures c.z-2.ensures)
    (held_z c.args.points.now c.args.edge.first c.requires.lower c.index-points-edge.result
    c.index-points-edge.is c.facts.ensures c.from-low.result c.z.result c.from-low.ensures c.z.ensures)).is
    (held_kept w64
    (held_climb
    (held_height c.args.points.now c.args.edge.first c.args.edge.second
    (point_within c.args.points.now c.args.edge.first c.requires.lower c.index-points-edge.result c.index-points-edge.is
    c.facts.ensures)
    (point_within c.args.points.now c.args.edge.second c.requires.upper c.index-points-edge-2.result c.index-points-edge-2.is
    c.facts-2.ensures) c.args.height c.from-2.result c.requires.from_below c.requires.to_above c.from-2.ensures)
    (held_z c.args.points.now c.args.edge.first c.requires.lower c.index-points-edge.result
    c.index-points-edge.is c.facts.ensures c.from-low.result c.z.result c.from-low.ensures c.z.ensures)) tt).is

pub returns-clause-y : goal.returns-clause-y
returns-clause-y c =
    let stored : to_z w64 (of_z w64 c.along_edge-y.result) ≡ c.along_edge-y.result = omega (arith, ints) in
    stored ∙ along_is c.along_edge-y.ensures
    (held_y c.args.points.now c.args.edge.first c.requires.lower c.index-points-edge.result
    c.index-points-edge.is c.facts.ensures c.from-5.result c.y.result c.from-5.ensures c.y.ensures).is
    (held_y c.args.points.now c.args.edge.second c.requires.upper c.index-points-edge-2.result
    c.index-points-edge-2.is c.facts-2.ensures c.from-6.result c.y-2.result c.from-6.ensures c.y-2.ensures).is
    (held_rise
    (held_z c.args.points.now c.args.edge.second c.requires.upper c.index-points-edge-2.result
    c.index-points-edge-2.is c.facts-2.ensures c.from.result c.z-2.result c.from.ensures c.z-2.ensures)
    (held_z c.args.points.now c.args.edge.first c.requires.lower c.index-points-edge.result
    c.index-points-edge.is c.facts.ensures c.from-low.result c.z.result c.from-low.ensures c.z.ensures)).is
    (held_kept w64
    (held_climb
    (held_height c.args.points.now c.args.edge.first c.args.edge.second
    (point_within c.args.points.now c.args.edge.first c.requires.lower c.index-points-edge.result c.index-points-edge.is
    c.facts.ensures)
    (point_within c.args.points.now c.args.edge.second c.requires.upper c.index-points-edge-2.result c.index-points-edge-2.is
    c.facts-2.ensures) c.args.height c.from-2.result c.requires.from_below c.requires.to_above c.from-2.ensures)
    (held_z c.args.points.now c.args.edge.first c.requires.lower c.index-points-edge.result
    c.index-points-edge.is c.facts.ensures c.from-low.result c.z.result c.from-low.ensures c.z.ensures)) tt).is

pub returns-clause-d : goal.returns-clause-d
returns-clause-d c =
    (held_rise
    (held_z c.args.points.now c.args.edge.second c.requires.upper c.index-points-edge-2.result
    c.index-points-edge-2.is c.facts-2.ensures c.from.result c.z-2.result c.from.ensures c.z-2.ensures)
    (held_z c.args.points.now c.args.edge.first c.requires.lower c.index-points-edge.result
    c.index-points-edge.is c.facts.ensures c.from-low.result c.z.result c.from-low.ensures c.z.ensures)).is
