use Rattle.std.proofs.Common.{ℕ, ◌∙◌, arith, length, sym, subst}
use Rattle.std.specs.List.{All}
use Rattle.mesh.specs.Meshes.{IsFace}
use Rattle.mesh_edges.proofs.EdgeCounts.{each_among}
use Rattle.mesh_measures.specs.Marks.{HasCorner, IsEndOfOdd}
use Rattle.mesh_measures.proofs.Marked.{none_marked}
use Rattle.mesh_measures.proofs.Suspects.{vertices_counted}
use Rattle.mesh_measures.proofs.manifolds.count_marked.Goals as goal

pub mark_all_ends-requires-clause-marked : goal.mark_all_ends-requires-clause-marked
mark_all_ends-requires-clause-marked c =
    none_marked (IsEndOfOdd c.args.faces.now c.args.sides.now 0) c.args.flags.now c.requires.clear
    (λ v e. omega (arith, e.below))

pub mark_all_seconds-requires-clause-each : goal.mark_all_seconds-requires-clause-each
mark_all_seconds-requires-clause-each c =
    subst (λ (n : ℕ). All (IsFace n) c.args.faces.now) (sym c.mark_all_ends.ensures.count) c.requires.each

pub mark_all_seconds-requires-clause-seen : goal.mark_all_seconds-requires-clause-seen
mark_all_seconds-requires-clause-seen c =
    none_marked (HasCorner c.args.faces.now 0) c.args.seen.now c.requires.clear_seen (λ v h. omega (arith, h.1))

pub returns : goal.returns
returns c =
    vertices_counted c.args.faces.now c.args.sides.now c.requires.sides
    (each_among (length c.args.flags.now) c.args.faces.now c.requires.small c.requires.each) c.args.sets.now.parents.items
    c.requires.sets c.args.sets.now.forest c.count_flags.result (length c.args.flags.now) c.mark_all_seconds.new.flags
    (c.mark_all_seconds.ensures.flags ∙ c.mark_all_ends.ensures.count) c.mark_all_seconds.ensures.marked c.count_flags.ensures
