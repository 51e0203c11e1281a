use Rattle.std.proofs.Common.{arith, ◌≡◌, ap, sym, subst, ◌∙◌, length, ℕ, List, [], ◌∷◌}
use Rattle.geo_sign.specs.Vertices.{Vertices, boxed_vertices}
use Rattle.geo_sign.specs.Cells.{IsCellList}
use Rattle.geo_tie.specs.Rising.{all_at, IsCellListBefore}
use Rattle.geo_tie.proofs.Forms.{all_with_corners}
use Rattle.geo_tie.proofs.Rows.{none_before, all_before}
use Rattle.geo_tie.proofs.cells.plain_cells.Goals as goal

pub loop-a-init : goal.loop-a-init
loop-a-init c =
    let v = all_at c.in_ok-vertices.vertices.items in
    subst (λ (rows : List (List ℕ)). IsCellListBefore v (0 ∷ []) rows) (sym c.new-cells.ensures.items) (none_before v)

pub returns : goal.returns
returns c =
    let v = all_at c.in_ok-vertices.vertices.items in
    let e : c.loop-a.a ≡ length c.in_ok-vertices.vertices.items = omega arith in
    let same : v ≡ boxed_vertices c.args.points.now = ap all_at c.in_ok-vertices.ensures ∙ all_with_corners c.args.points.now in
    subst (λ (w : Vertices). IsCellList w c.loop-a.cells.items) same
    (all_before v c.loop-a.cells.items (subst (λ n. IsCellListBefore v (n ∷ []) c.loop-a.cells.items) e c.loop-a.invariant))
