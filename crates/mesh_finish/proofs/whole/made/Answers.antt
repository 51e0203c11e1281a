-- The twins state that the mesh is closed, before the flips and, by what these keep, after them.
use Rattle.std.proofs.Common.{rules, length, sym, subst, refl, List}
use Rattle.std.specs.List.{All}
use Rattle.geo_sign.specs.Point.{Point, IsWithin}
use Rattle.geo_sign.specs.declared.point.TheConstants.{BOX_LIMIT}
use Rattle.mesh_edges.proofs.Paired.{paired_closed}
use Rattle.mesh_finish.proofs.Composed.{composed}
use Rattle.mesh_finish.proofs.Rewritten.{faces_triangles}
use Rattle.mesh_finish.proofs.whole.made.Goals as goal

pub returns-clause-made : goal.returns-clause-made
returns-clause-made c =
    let kept = c.in_ok-kept in
    let split = c.in_ok-split in
    let flipped = c.in_ok-flipped in
    let new = c.in_ok-new in
    composed c.args.options c.args.mesh.points.items c.args.mesh.faces.items kept.kept.mesh.points.items kept.kept.mesh.faces.items
    split.split.points.items split.split.faces.items flipped.flipped.points.items flipped.flipped.faces.items
    new.new.mesh.points.items new.new.mesh.faces.items new.new.fine kept.ensures.pieces split.ensures.split flipped.ensures.points
    flipped.ensures.flips new.ensures.smoothed new.ensures.still
    (faces_triangles (length flipped.flipped.points.items) flipped.flipped.faces.items flipped.ensures.valid.each)
    (paired_closed (length c.args.mesh.points.items) c.args.mesh.faces.items c.in_ok-twins.twins.items c.requires.each
    c.in_ok-twins.ensures.paired)
    (flipped.ensures.closed split.ensures.closed) flipped.ensures.single

pub returns-clause-boxed : goal.returns-clause-boxed
returns-clause-boxed c = λ boxed.
    c.in_ok-new.ensures.boxed
    (subst (λ (ps : List Point). All (IsWithin BOX_LIMIT) ps) (sym c.in_ok-flipped.ensures.points)
    (c.in_ok-split.ensures.boxed (c.in_ok-kept.ensures.boxed boxed)))

pub returns-in_err-twins-clause-why : goal.returns-in_err-twins-clause-why
returns-in_err-twins-clause-why c = search (rules, c.in_err-twins.ensures.why c.args.options c.args.mesh.points.items)

pub returns-in_err-kept-clause-why : goal.returns-in_err-kept-clause-why
returns-in_err-kept-clause-why c =
    search (
      rules,
      c.in_err-kept.ensures.why c.args.options c.args.mesh.points.items c.args.mesh.faces.items
          (paired_closed (length c.args.mesh.points.items) c.args.mesh.faces.items c.in_ok-twins.twins.items c.requires.each
          c.in_ok-twins.ensures.paired)
          refl,
    )
