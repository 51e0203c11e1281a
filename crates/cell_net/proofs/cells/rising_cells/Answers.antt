use Rattle.std.proofs.Common.{◌+◌, ◌≡◌, ap, sym, subst, ◌∙◌, arith, map, List, [], length}
use Rattle.std.proofs.lemmas.List.{length-append}
use Rattle.geo_sign.specs.Point.{Point}
use Rattle.geo_sign.specs.Vertices.{corners, boxed_vertices}
use Rattle.geo_sign.specs.Cells.{IsCellList}
use Rattle.visibility.specs.Scenes.{scene_of}
use Rattle.cell_net.specs.Parts.{cell_of_row}
use Rattle.cell_net.proofs.Nodes.{cell_list}
use Rattle.cell_net.proofs.Stored.{whole}
use Rattle.cell_net.proofs.cells.rising_cells.Goals as goal

pub returns : goal.returns
returns c points e =
    let k = c.facts.ensures in
    let all = whole c.args.t.now points k e c.requires.delaunay c.requires.inserted in
    let n : length c.args.t.now.points ≡ 8 + length points =
    ap (λ (ps : List Point). length ps) e ∙ length-append corners points in
    let few = k.vertices.few in
    let rows = c.in_ok-rows.rows.items in
    subst (IsCellList (boxed_vertices points)) (sym (c.in_ok-cells.ensures ∙ ap (map cell_of_row) c.deref.ensures.value))
    (cell_list
    (scene_of points [] []
    (record { vote = 1; smooth = 0; vote_at_least = omega arith; vote_at_most = omega arith; smooth_at_most = omega arith }))
    c.args.t.now.slots [] all (omega (arith, n, few)) rows c.in_ok-rows.ensures.moved c.in_ok-rows.ensures.sorted)
