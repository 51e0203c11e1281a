use Rattle.std.proofs.Common.{refl}
use Rattle.geo_tie.specs.Rising.{all_at}
use Rattle.geo_sign.proofs.Own.{own_first, own_second, own_third, own_fourth}
use Rattle.geo_tie.proofs.cells.is_outside.Goals as goal
use Rattle.geo_tie.proofs.cells.is_outside.Goals.{then-u-a-via-then-u-a, then-u-a-via-else-u-a+then-u-b}
use Rattle.geo_tie.proofs.cells.is_outside.Goals.{then-u-a-via-else-u-a+else-u-b+then-u-c}
use Rattle.geo_tie.proofs.cells.is_outside.Goals.{then-u-a-via-else-u-a+else-u-b+else-u-c+then-u-d}

pub returns-then-u-a : goal.returns-then-u-a
returns-then-u-a c =
    let v = all_at c.args.vertices.now in
    elim c.then-u-a.branch [
      | then-u-a-via-then-u-a w ↦ (λ _. own_first v c.args.a c.args.b c.args.c c.args.d c.args.u w.if-u-a.true, λ _. refl)
      | then-u-a-via-else-u-a+then-u-b w ↦
          (λ _. own_second v c.args.a c.args.b c.args.c c.args.d c.args.u w.if-u-b.true, λ _. refl)
      | then-u-a-via-else-u-a+else-u-b+then-u-c w ↦
          (λ _. own_third v c.args.a c.args.b c.args.c c.args.d c.args.u w.if-u-c.true, λ _. refl)
      | then-u-a-via-else-u-a+else-u-b+else-u-c+then-u-d w ↦
          (λ _. own_fourth v c.args.a c.args.b c.args.c c.args.d c.args.u w.if-u-d.true, λ _. refl)
    ]
