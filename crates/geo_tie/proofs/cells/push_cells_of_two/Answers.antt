use Rattle.std.proofs.Common.{arith, ◌≡◌, ◌+◌, subst, length, [], ◌∷◌}
use Rattle.geo_tie.specs.Rising.{all_at, IsCellListBefore}
use Rattle.geo_tie.proofs.Rows.{moved, enter_two, leave_two}
use Rattle.geo_tie.proofs.cells.push_cells_of_two.Goals as goal

pub loop-c-init : goal.loop-c-init
loop-c-init c =
    let v = all_at c.args.vertices.now in
    moved v (c.args.a ∷ c.args.b ∷ []) (c.args.a ∷ c.args.b ∷ (c.args.b + 1) ∷ []) c.args.cells.now.items
    (enter_two v c.args.a c.args.b) c.requires.listed

pub returns : goal.returns
returns c =
    let v = all_at c.args.vertices.now in
    let e : c.loop-c.c ≡ length c.args.vertices.now = omega arith in
    moved v (c.args.a ∷ c.args.b ∷ v.count ∷ []) (c.args.a ∷ (c.args.b + 1) ∷ []) c.loop-c.cells.items
    (leave_two v c.args.a c.args.b)
    (subst (λ n. IsCellListBefore v (c.args.a ∷ c.args.b ∷ n ∷ []) c.loop-c.cells.items) e c.loop-c.invariant)
