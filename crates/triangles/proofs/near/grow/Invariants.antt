use Rattle.std.proofs.Common.{ℕ, ◌<◌, ◌≤◌}
use Rattle.triangles.specs.Hulls.{HoldsHull}
use Rattle.triangles.specs.Trees.{IsNodeAbove, HasGrown, hull_in}
use Rattle.triangles.proofs.near.grow.Given as goal

abbrev pub invariant-loop : goal.invariant-loop
invariant-loop l =
    record {
      over : IsNodeAbove l.node l.counter l.place;
      within : l.node ≤ l.place;
      insert : (s node : ℕ) → s < l.counter → IsNodeAbove node s l.place → HoldsHull (hull_in l.hulls node) l.hull;
      kept : HasGrown l.initial.hulls l.hulls;
    }
