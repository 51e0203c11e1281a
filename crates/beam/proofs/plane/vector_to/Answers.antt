use Rattle.std.proofs.Common.{arith}
use Rattle.std.proofs.lemmas.Int.{ints}
use Rattle.geo_sign.proofs.Bounds.{same_place}
use Rattle.beam.proofs.plane.vector_to.Goals as goal

pub returns-clause-value : goal.returns-clause-value
returns-clause-value c =
    let i = c.requires.p_within in let j = c.requires.x_within in
    same_place _ _ _ _ _ _ (omega (arith, ints, c.x.ensures, c.x-2.ensures, c.from.ensures, c.from-2.ensures))
    (omega (arith, ints, c.y.ensures, c.y-2.ensures, c.from-3.ensures, c.from-4.ensures)) (omega (arith, ints, c.z.ensures, c.z-2.ensures, c.from-5.ensures, c.from-6.ensures))

pub returns-clause-bound : goal.returns-clause-bound
returns-clause-bound c =
    let i = c.requires.p_within in let j = c.requires.x_within in
    record {
      x_within = omega (arith, ints, c.x.ensures, c.x-2.ensures, c.from.ensures, c.from-2.ensures);
      y_within = omega (arith, ints, c.y.ensures, c.y-2.ensures, c.from-3.ensures, c.from-4.ensures);
      z_within = omega (arith, ints, c.z.ensures, c.z-2.ensures, c.from-5.ensures, c.from-6.ensures);
    }
