use Rattle.std.proofs.Common.{ℕ, ◌<◌, List, [], length, get_or, arith, subst, sym, below_more, Option, IfNone}
use Rattle.std.proofs.lemmas.List.{get_or_default}
use Rattle.mesh_reach.specs.Reached.{AreCornersReached}
use Rattle.mesh_reach.proofs.reached.first_of_faces.Goals as goal

pub loop-face-preserved : goal.loop-face-preserved
loop-face-preserved c =
    let mesh = c.args.mesh.now in
    let faces = c.args.home_faces.now in
    let Near : List ℕ → Type 0 =
    AreCornersReached c.args.reach.fine c.args.reach.within c.args.homes.now mesh.points.items mesh.faces.items in
    record {
      marks = c.in_ok-v.ensures.marks;
      marked = c.in_ok-v.ensures.marked;
      before =
          below_more (λ (k : ℕ). Near (get_or faces k [])) c.loop-face.face-index c.loop-face.invariant.before
          (subst (λ (o : Option ℕ). IfNone o (Near (get_or faces c.loop-face.face-index []))) c.in_default.is c.in_ok-v.ensures.none);
    }

pub returns : goal.returns
returns c = λ k d l.
    let mesh = c.args.mesh.now in
    let faces = c.args.home_faces.now in
    let Near : List ℕ → Type 0 =
    AreCornersReached c.args.reach.fine c.args.reach.within c.args.homes.now mesh.points.items mesh.faces.items in
    subst (λ (f : List ℕ). Near f) (get_or_default faces k [] d l)
    (c.loop-face.invariant.before k (omega (arith, c.loop-face-test.false)))
