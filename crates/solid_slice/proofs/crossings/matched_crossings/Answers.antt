use Rattle.std.proofs.Common.{◌≡◌, ◌∙◌, arith, subst, length, ℤ, to_z, of_z}
use mir.Syntax.{w32}
use Rattle.std.proofs.lemmas.Int.{ints}
use Rattle.mesh_edges.specs.Pairs.{key_of}
use Rattle.solid_slice.specs.Crossings.{AreCrossings}
use Rattle.solid_slice.proofs.Matching.{matched}
use Rattle.solid_slice.proofs.crossings.matched_crossings.Goals as goal

pub returns-clause-crossings : goal.returns-clause-crossings
returns-clause-crossings c =
    let e : to_z w32 (of_z w32 c.args.height) ≡ c.args.height = omega (arith, ints) in
    subst (λ (h : ℤ). AreCrossings c.args.mesh.now.points.items c.args.mesh.now.faces.items h
    (length c.args.mesh.now.faces.items) c.sort_crossings.new.list.items c.sort_crossings-2.new.list.items) e
    record {
      upward = λ u v l. c.in_ok-sort_crossings.ensures.stable (key_of u v) ∙ c.in_ok-crossings.ensures.upward u v l;
      downward = λ u v l. c.in_ok-sort_crossings-2.ensures.stable (key_of u v) ∙ c.in_ok-crossings.ensures.downward u v l;
    }

pub returns-clause-matched : goal.returns-clause-matched
returns-clause-matched c =
    matched c.args.mesh.now.points.items c.args.mesh.now.faces.items (to_z w32 (of_z w32 c.args.height))
    c.sort_crossings.new.list.items c.sort_crossings-2.new.list.items
    record {
      upward = λ u v l. c.in_ok-sort_crossings.ensures.stable (key_of u v) ∙ c.in_ok-crossings.ensures.upward u v l;
      downward = λ u v l. c.in_ok-sort_crossings-2.ensures.stable (key_of u v) ∙ c.in_ok-crossings.ensures.downward u v l;
    }
    c.requires.balanced c.in_ok-sort_crossings.ensures.sorted c.in_ok-sort_crossings-2.ensures.sorted
