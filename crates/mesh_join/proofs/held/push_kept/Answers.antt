use Rattle.std.proofs.Common.{◌<◌, List, ℕ, [], arith, length, get_or, subst, sym, below_more, Contains}
use Rattle.std.specs.List.{All}
use Rattle.mesh.specs.Meshes.{IsFace}
use Rattle.mesh_join.specs.Joins.{lists_of, IsJoined, OwnsFirst}
use Rattle.mesh_join.proofs.Tiles.{count, each}
use Rattle.mesh_join.proofs.held.push_kept.Goals as goal

pub push_if_kept-requires-clause-valid : goal.push_if_kept-requires-clause-valid
push_if_kept-requires-clause-valid c =
    let l : c.args.i < length (lists_of c.args.tiles.now) = omega (arith, count c.args.tiles.now) in
    let valid =
    subst (λ (xs : List (List ℕ)). All (IsFace (length c.args.owners.now.places.items)) xs) (sym c.list_of-faces.ensures)
    (c.requires.tiles.valid c.args.i [] l) in
    valid c.loop-face.face-index [] c.loop-face-test.true

pub loop-face-preserved : goal.loop-face-preserved
loop-face-preserved c =
    record {
      sound = λ h. c.in_ok-push_if_kept.ensures.sound (c.loop-face.invariant.sound h);
      kept = λ f h. c.in_ok-push_if_kept.ensures.kept f (c.loop-face.invariant.kept f h);
      complete =
          below_more
          (λ k. IsJoined c.args.owners.now (lists_of c.args.tiles.now) (get_or c.list_of-faces.result.now k [])
          → OwnsFirst c.args.owners.now c.args.i (get_or c.list_of-faces.result.now k [])
          → Contains c.push_if_kept.new.list.items (get_or c.list_of-faces.result.now k []))
          c.loop-face.face-index
          (λ k m j o. c.in_ok-push_if_kept.ensures.kept _ (c.loop-face.invariant.complete k m j o))
          c.in_ok-push_if_kept.ensures.complete;
    }

pub returns-clause-complete : goal.returns-clause-complete
returns-clause-complete c =
    λ f h. each
    (λ g. IsJoined c.args.owners.now (lists_of c.args.tiles.now) g → OwnsFirst c.args.owners.now c.args.i g
    → Contains c.loop-face.list.items g)
    c.list_of-faces.result.now (λ k m. c.loop-face.invariant.complete k (omega arith)) f
    (subst (λ (xs : List (List ℕ)). Contains xs f) (sym c.list_of-faces.ensures) h)
