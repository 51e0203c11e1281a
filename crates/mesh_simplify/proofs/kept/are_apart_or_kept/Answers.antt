use Rattle.std.proofs.lemmas.Bool.{OnTrue_from, OnTrue_at}
use Rattle.mesh_simplify.proofs.Listed.{apart_or_kept, kept_read}
use Rattle.mesh_simplify.proofs.kept.are_apart_or_kept.Goals as goal

pub returns : goal.returns
returns c =
    let old = c.args.old.now in
    let mesh = c.args.mesh.now in
    let from = c.args.from.now in
    OnTrue_from c.are_kept-2.result _
    (λ yes.
    apart_or_kept old.points.items mesh.points.items mesh.faces.items from old.faces.items c.in_ok-lists.lists.crossing.items
    c.in_ok-lists.lists.undecided.items c.in_ok-lists.ensures
    (kept_read old.points.items mesh.points.items from old.faces.items mesh.faces.items _ _ c.deref.ensures.value c.if-not-are_kept.ensures)
    (kept_read old.points.items mesh.points.items from old.faces.items mesh.faces.items _ _ c.deref-2.ensures.value
    (OnTrue_at yes c.are_kept-2.ensures)))
