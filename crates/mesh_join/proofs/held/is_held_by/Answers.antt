use Rattle.std.proofs.Common.{◌<◌, List, ℕ, [], arith, length, subst, sym}
use Rattle.std.specs.Cmp.Lexicographic.{slice_cmp}
use Rattle.std.specs.List.Sorted.{IsSorted}
use Rattle.std.specs.Ordering.{nat_cmp}
use Rattle.mesh_join.specs.Joins.{lists_of}
use Rattle.mesh_join.proofs.Tiles.{count}
use Rattle.mesh_join.proofs.held.is_held_by.Goals as goal

pub has-requires : goal.has-requires
has-requires c =
    let l : c.args.i < length (lists_of c.args.tiles.now) = omega (arith, count c.args.tiles.now) in
    subst (λ (xs : List (List ℕ)). IsSorted (slice_cmp nat_cmp) xs) (sym c.list_of.ensures) (c.requires.tiles.sorted c.args.i [] l)
