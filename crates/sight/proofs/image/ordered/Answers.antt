use Rattle.std.proofs.Common.{neg_ℤ, arith}
use Rattle.std.proofs.lemmas.Int.{ints}
use Rattle.sight.specs.Images.{along}
use Rattle.sight.proofs.Images.{exchanged}
use Rattle.sight.proofs.image.ordered.Goals as goal

pub returns-then-stretch-lt0 : goal.returns-then-stretch-lt0
returns-then-stretch-lt0 c =
    let a = c.args in
    record {
      right_within = c.requires.b_within;
      up_within = c.requires.a_within;
      stretch = neg_ℤ a.stretch;
      not_negative = omega (arith, ints, c.if-stretch-lt0.true);
      product = exchanged (along a.a) (along a.b) (along a.u) a.stretch c.requires.product;
    }
