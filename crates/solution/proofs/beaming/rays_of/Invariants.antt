use Rattle.std.proofs.Common.{◌≡◌, take, map}
use Rattle.solution.specs.LongSights.{ray_of}
use Rattle.solution.proofs.beaming.rays_of.Given as goal

abbrev pub invariant-loop-sight : goal.invariant-loop-sight
invariant-loop-sight l = l.rays.items ≡ map (ray_of l.located.t.now) (take l.sight-index l.sights)
