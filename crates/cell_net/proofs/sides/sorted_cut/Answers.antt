use Rattle.std.proofs.Common.{◌∙◌, sym, subst, arith, Bool, List, Option}
use Rattle.std.specs.List.Sorted.{IsNonDecreasingBy, IsPermutation}
use Rattle.std.proofs.lemmas.Grind.{common_steps}
use Rattle.tetra_store.specs.declared.link.Cell.{Cell}
use Rattle.cell_net.specs.declared.sides.Side.{Side}
use Rattle.cell_net.specs.CutSides.{AreCutSides}
use Rattle.cell_net.specs.Gathered.{key_of_side}
use Rattle.cell_net.proofs.CutOrder.{cut_sides}
use Rattle.cell_net.proofs.sides.sorted_cut.Goals as goal

pub returns-clause-sorted : goal.returns-clause-sorted
returns-clause-sorted c =
    subst (λ (x : List Side). IsNonDecreasingBy key_of_side x) (sym (grind (arith, common_steps))) c.sort_sides.ensures.sorted

pub returns-clause-sides : goal.returns-clause-sides
returns-clause-sides c =
    let slots : List (Option Cell) = c.args.t.now.slots in
    let outside : List Bool = c.args.outside.now in
    subst (λ (x : List Side). AreCutSides slots outside x) (sym (grind (arith, common_steps)))
    (cut_sides slots outside c.sort_sides.new.sides
    (subst (λ (x : List Side). IsPermutation x c.sort_sides.new.sides) (c.deref_mut.ensures.value ∙ c.in_ok-sides.ensures)
    c.sort_sides.ensures.moved))
