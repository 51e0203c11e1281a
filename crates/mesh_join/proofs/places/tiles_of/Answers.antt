use Rattle.std.proofs.Common.{ℕ, ◌≡◌, ◌<◌, ◌+◌, ◌∙◌, ◌⊎◌, ◌++◌, ◌∷◌, [], arith, List, length, length-append, subst, sym}
use Rattle.std.specs.Cmp.Lexicographic.{slice_cmp}
use Rattle.std.specs.List.{All}
use Rattle.std.specs.List.Sorted.{IsSorted}
use Rattle.std.specs.Ordering.{nat_cmp}
use Rattle.std.proofs.lemmas.List.{get_or_default}
use Rattle.mesh.specs.Meshes.{IsFace}
use Rattle.mesh.specs.declared.mesh.Mesh.{Mesh}
use Rattle.mesh_join.specs.Joins.{lists_of, IsNumbered}
use Rattle.mesh_join.specs.Refusals.{IsFlatMesh, LacksPlace}
use Rattle.mesh_join.specs.declared.held.Tile.{Tile}
use Rattle.mesh_join.proofs.Tiles.{all_more, numbered_more, NumberedAt}
use Rattle.mesh_join.proofs.places.tiles_of.Goals as goal

pub returns-in-None-clause-none : goal.returns-in-None-clause-none
returns-in-None-clause-none c =
    λ m. subst (λ (x : Mesh). LacksPlace c.args.places.now x.points.items ⊎ IsFlatMesh x)
    (c.index-meshes-i.is ∙ get_or_default c.args.meshes.now c.loop-i.i _ m c.loop-i-test.true)
    (rw c.in-None.is at c.in_ok-tile.ensures.none)

pub loop-i-preserved : goal.loop-i-preserved
loop-i-preserved c =
    let places = c.args.places.now in
    let meshes : List Mesh = c.args.meshes.now in
    let old : List Tile = c.loop-i.tiles.items in
    let t : Tile = c.in-Some.tile in
    let i : ℕ = c.loop-i.i in
    let is : c.push.new.self.items ≡ old ++ t ∷ [] = c.in_ok-push-in-Some.ensures.items in
    record {
      count = subst (λ (ts : List Tile). length ts ≡ i + 1) (sym is)
          (omega (arith, length-append old (t ∷ []), c.loop-i.invariant.count));
      numbered = subst (λ (ts : List Tile). (j : ℕ) → j < i + 1 → NumberedAt places meshes ts j) (sym is)
          (numbered_more places meshes old t i c.loop-i.invariant.count c.loop-i.invariant.numbered
          (λ m. subst (λ (x : Mesh). IsNumbered places x.points.items x.faces.items t.faces.items)
          (c.index-meshes-i.is ∙ get_or_default meshes i _ m c.loop-i-test.true) (rw c.in-Some.is at c.in_ok-tile.ensures.numbered)));
      sorted = subst (λ (ts : List Tile). All (IsSorted (slice_cmp nat_cmp)) (lists_of ts)) (sym is)
          (all_more (IsSorted (slice_cmp nat_cmp)) old t c.loop-i.invariant.sorted (rw c.in-Some.is at c.in_ok-tile.ensures.sorted));
      valid = subst (λ (ts : List Tile). All (All (IsFace (length places))) (lists_of ts)) (sym is)
          (all_more (All (IsFace (length places))) old t c.loop-i.invariant.valid (rw c.in-Some.is at c.in_ok-tile.ensures.valid));
    }
