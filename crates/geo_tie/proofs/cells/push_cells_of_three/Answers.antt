use Rattle.std.proofs.Common.{arith, ◌≡◌, ◌+◌, sym, ap, subst, ◌∙◌, true≢false, refl, length, ℕ, List, [], ◌∷◌}
use Rattle.geo_sign.specs.Cells.{IsRisingCell}
use Rattle.geo_tie.specs.Rising.{all_at, IsCellListBefore}
use Rattle.geo_tie.proofs.Rows.{moved, enter_three, leave_three, pushed, passed}
use Rattle.geo_tie.proofs.cells.push_cells_of_three.Goals.{then-are_cell+in_ok-push, else-are_cell}
use Rattle.geo_tie.proofs.cells.push_cells_of_three.Goals as goal

pub loop-d-init : goal.loop-d-init
loop-d-init c =
    let v = all_at c.args.vertices.now in
    moved v (c.args.a ∷ c.args.b ∷ c.args.c ∷ []) (c.args.a ∷ c.args.b ∷ c.args.c ∷ (c.args.c + 1) ∷ []) c.args.cells.now.items
    (enter_three v c.args.a c.args.b c.args.c) c.requires.listed

pub loop-d-preserved : goal.loop-d-preserved
loop-d-preserved c =
    let v = all_at c.args.vertices.now in
    let rows : List (List ℕ) → Type 0 =
    λ rows. IsCellListBefore v (c.args.a ∷ c.args.b ∷ c.args.c ∷ (c.loop-d.d + 1) ∷ []) rows in
    elim c.if-are_cell.branch [
      | then-are_cell+in_ok-push w ↦ (
          let cell : IsRisingCell v (c.args.a ∷ c.args.b ∷ c.args.c ∷ c.loop-d.d ∷ []) =
          (omega arith, omega arith, omega arith, w.if-are_cell.ensures.0 refl) in
          subst rows (sym (ap (λ cells. cells.items) w.cells-is ∙ w.in_ok-push.ensures.items))
          (pushed v c.args.a c.args.b c.args.c c.loop-d.d c.loop-d.cells.items cell c.loop-d.invariant)
          )
      | else-are_cell w ↦ (
          subst rows (sym (ap (λ cells. cells.items) w.cells-is))
          (passed v c.args.a c.args.b c.args.c c.loop-d.d c.loop-d.cells.items
          (λ k. absurd (true≢false (sym (w.if-are_cell.ensures.1 k.3)))) c.loop-d.invariant)
          )
    ]

pub returns : goal.returns
returns c =
    let v = all_at c.args.vertices.now in
    let e : c.loop-d.d ≡ length c.args.vertices.now = omega arith in
    moved v (c.args.a ∷ c.args.b ∷ c.args.c ∷ v.count ∷ []) (c.args.a ∷ c.args.b ∷ (c.args.c + 1) ∷ []) c.loop-d.cells.items
    (leave_three v c.args.a c.args.b c.args.c)
    (subst (λ n. IsCellListBefore v (c.args.a ∷ c.args.b ∷ c.args.c ∷ n ∷ []) c.loop-d.cells.items) e c.loop-d.invariant)
