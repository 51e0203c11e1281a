-- All tests said yes. The lists are read through borrowed slices.
use Rattle.std.proofs.Common.{ℕ, List, Option, IfNone, subst}
use Rattle.std.proofs.lemmas.Bool.{OnTrue_from, OnTrue_at}
use Rattle.mesh_edges.specs.Edges.{IsBalanced}
use Rattle.mesh_edges.specs.declared.balance.UnbalancedEdge.{UnbalancedEdge}
use Rattle.mesh_reach.specs.Reached.{AreReached}
use Rattle.mesh_simplify.specs.Simplified.{AreDistinct, IsSimplified}
use Rattle.mesh_simplify.proofs.Gathered.{single_read}
use Rattle.mesh_simplify.proofs.tests.is_simplified.Goals as goal

pub returns : goal.returns
returns c =
    let old = c.args.old.now in
    let mesh = c.args.mesh.now in
    let from = c.args.hints.now.from.now in
    OnTrue_from c.in_ok-kept.kept (IsSimplified c.args.request.moves c.args.request.within old.points.items old.faces.items mesh.points.items mesh.faces.items)
    (λ yes.
    record {
      from = from;
      vertices =
          record {
            within = c.requires.from;
            rising = OnTrue_at c.if-not-are_rising.false c.are_rising.ensures;
            count = OnTrue_at c.if-not-are_as_many.false c.are_as_many.ensures;
            places = c.requires.points;
          };
      closed =
          subst (λ (o : Option UnbalancedEdge). IfNone o (IsBalanced mesh.faces.items)) c.in_default.is
          c.in_ok-first_unbalanced.ensures.balanced;
      single =
          single_read old.faces.items c.deref.result.now mesh.faces.items c.deref-2.result.now c.deref.ensures.value
          c.deref-2.ensures.value (OnTrue_at c.if-not-branch.false c.in_ok-stays_single.ensures);
      distinct = λ was.
          subst (λ (fs : List (List ℕ)). AreDistinct fs) c.deref-3.ensures.value
          (OnTrue_at c.if-not-branch-2.false c.in_ok-are_distinct.ensures);
      reached =
          subst
          (λ (o : Option ℕ). IfNone o (AreReached 1 c.args.request.within old.points.items old.faces.items mesh.points.items mesh.faces.items))
          c.in_default-2.is c.in_ok-first_unreached.ensures;
      apart = OnTrue_at yes c.in_ok-kept.ensures;
    })
