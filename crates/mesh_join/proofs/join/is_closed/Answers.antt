use Rattle.std.proofs.Common.{◌≡◌, ◌↔◌, ◌∙◌, refl, sym, ℕ, List, IsTrue, Bool, true, false, true≢false, not, Option, Some, None}
use Rattle.std.specs.Option.{is_some, IfNone, IfSome}
use Rattle.mesh_edges.specs.Edges.{IsBalanced, IsFirstUnbalanced}
use Rattle.mesh_edges.specs.declared.balance.UnbalancedEdge.{UnbalancedEdge}
use Rattle.mesh_join.proofs.join.is_closed.Goals as goal

-- a mesh is closed exactly if no unbalanced edge is found
none_is_closed : (faces : List (List ℕ)) (edge : Option UnbalancedEdge) (none : Bool) → is_some edge ≡ not none
    → IfNone edge (IsBalanced faces) → IfSome edge (λ e. IsFirstUnbalanced faces e.from e.to e.there e.back)
    → IsTrue none ↔ IsBalanced faces
none_is_closed faces None true same balanced first = (λ _. balanced, λ _. refl)
none_is_closed faces None false same balanced first = absurd (true≢false (sym same))
none_is_closed faces (Some e) true same balanced first = absurd (true≢false same)
none_is_closed faces (Some e) false same balanced first =
    (λ no. absurd (true≢false (sym no)), λ all. absurd (first.differ (first.there ∙ (all e.from e.to ∙ sym first.back))))

pub returns : goal.returns
returns c =
    none_is_closed c.args.mesh.now.faces.items c.in_ok-edge.edge c.is_none.result c.is_none.ensures c.in_ok-edge.ensures.balanced
    c.in_ok-edge.ensures.unbalanced
