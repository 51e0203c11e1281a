use Rattle.std.proofs.Common.{◌≡◌, ◌*◌, All, drop, map}
use Rattle.geo_sign.specs.Point.{IsWithin}
use Rattle.geo_sign.specs.declared.point.TheConstants.{DATA_LIMIT}
use Rattle.solid_query.specs.Queries.{points_from}
use Rattle.solid_query.proofs.Reading.{onto}
use Rattle.solid_query.proofs.queries.points_of.Given as goal

abbrev pub invariant-loop-k : goal.invariant-loop-k
invariant-loop-k l =
    record {
      read : points_from l.unit 0 (map (λ token. token.now) l.tokens)
          ≡ onto l.points.items (points_from l.unit (3 * l.k) (drop (3 * l.k) (map (λ token. token.now) l.tokens)));
      within : All (IsWithin DATA_LIMIT) l.points.items;
    }
