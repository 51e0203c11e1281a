use Rattle.std.proofs.Common.{ℕ, ◌<◌, ◌≤ℤ◌, pos}
use Rattle.geo_sign.specs.Vertices.{power_of}
use Rattle.geo_tie.specs.Rising.{all_at}
use Rattle.geo_tie.proofs.cells.is_clear.Given as goal

abbrev pub invariant-loop-u : goal.invariant-loop-u
invariant-loop-u l = (k : ℕ) → k < l.u → pos 0 ≤ℤ power_of (all_at l.vertices) l.a l.b l.c l.d k
