use Rattle.triangles.proofs.Growth.{point_in}
use Rattle.mesh_flips.proofs.clear.hulls_of.Goals as goal

pub returns : goal.returns
returns c =
    let one = c.hull_around-first.ensures in
    let two = c.hull_around-second.ensures in
    let joined = c.joined-both.ensures in
    record {
      first = one;
      second = two;
      both =
          record {
            a = point_in _ _ _ joined.first one.0;
            b = point_in _ _ _ joined.second two.1;
            c = point_in _ _ _ joined.first one.2;
            d = point_in _ _ _ joined.first one.1;
          };
    }
