use Rattle.std.proofs.Common.{arith, ◌≡◌, ◌+◌, subst, length, [], ◌∷◌}
use Rattle.geo_tie.specs.Rising.{all_at, IsCellListBefore}
use Rattle.geo_tie.proofs.Rows.{moved, enter_one, leave_one}
use Rattle.geo_tie.proofs.cells.push_cells_of_one.Goals as goal

pub loop-b-init : goal.loop-b-init
loop-b-init c =
    let v = all_at c.args.vertices.now in
    moved v (c.args.a ∷ []) (c.args.a ∷ (c.args.a + 1) ∷ []) c.args.cells.now.items (enter_one v c.args.a) c.requires.listed

pub returns : goal.returns
returns c =
    let v = all_at c.args.vertices.now in
    let e : c.loop-b.b ≡ length c.args.vertices.now = omega arith in
    moved v (c.args.a ∷ v.count ∷ []) ((c.args.a + 1) ∷ []) c.loop-b.cells.items (leave_one v c.args.a)
    (subst (λ n. IsCellListBefore v (c.args.a ∷ n ∷ []) c.loop-b.cells.items) e c.loop-b.invariant)
