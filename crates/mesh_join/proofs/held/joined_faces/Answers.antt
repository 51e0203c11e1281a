use Rattle.std.proofs.Common.{List, ℕ, arith, below_more, Contains}
use Rattle.mesh_join.specs.Joins.{faces_of, lists_of, IsJoined, OwnsFirst}
use Rattle.mesh_join.proofs.Tiles.{count, first_owner}
use Rattle.mesh_join.proofs.held.joined_faces.Goals as goal

pub loop-i-preserved : goal.loop-i-preserved
loop-i-preserved c =
    record {
      sound = c.in_ok-push_kept.ensures.sound c.loop-i.invariant.sound;
      complete =
          below_more
          (λ j. (f : List ℕ) → Contains (faces_of (lists_of c.args.tiles.now) j) f
          → IsJoined c.args.owners.now (lists_of c.args.tiles.now) f → OwnsFirst c.args.owners.now j f
          → Contains c.push_kept.new.list.items f)
          c.loop-i.i
          (λ j m f h joined o. c.in_ok-push_kept.ensures.kept f (c.loop-i.invariant.complete j m f h joined o))
          c.in_ok-push_kept.ensures.complete;
    }

pub returns-clause-complete : goal.returns-clause-complete
returns-clause-complete c =
    λ f joined.
    let h = first_owner c.args.owners.now (lists_of c.args.tiles.now) f joined in
    c.loop-i.invariant.complete h.0 (omega (arith, count c.args.tiles.now, h.1)) f h.3 joined h.2
