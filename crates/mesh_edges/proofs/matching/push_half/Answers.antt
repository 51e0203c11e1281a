use Rattle.std.proofs.Common.{ℕ, ◌≡◌, ◌+◌, ◌*◌, ◌<◌, ◌≤◌, ◌++◌, ◌∷◌, [], ◌∙◌, List, length, sym, subst, ap, arith}
use Rattle.mesh_edges.specs.HalfEdges.{start, behind}
use Rattle.mesh_edges.specs.Matching.{AreHalves, rises, falls}
use Rattle.mesh_edges.specs.declared.matching.Ranked.{Ranked}
use Rattle.mesh_edges.proofs.Sides.{halves_more, halves_same, rises_yes, rises_no, falls_yes, falls_no, number_up, number_down}
use Rattle.mesh_edges.proofs.matching.push_half.Goals as goal

pub returns-in_ok-push-clause-there : goal.returns-in_ok-push-clause-there
returns-in_ok-push-clause-there c =
    let faces = c.args.faces.now in
    let h = c.args.h in
    let to : c.start-to.result ≡ start faces (behind h) = c.start-to.ensures ∙ ap (start faces) c.behind.ensures in
    let rise : start faces h < start faces (behind h) = omega (arith, c.start-from.ensures, to, c.if-from-to.true) in
    subst (AreHalves faces (rises faces) (h + 1)) (sym c.in_ok-push.ensures.items)
    (halves_more faces (rises faces) h c.args.sides.now.there.items _ (rises_yes faces h rise) (omega arith)
    (omega (arith, c.edge_of-edge.ensures, c.start-from.ensures, to, number_up faces h rise)) (omega (arith, c.rank_of-rank.type_inv))
    c.requires.there)

pub returns-in_ok-push-clause-back : goal.returns-in_ok-push-clause-back
returns-in_ok-push-clause-back c =
    let faces = c.args.faces.now in
    let h = c.args.h in
    let to : c.start-to.result ≡ start faces (behind h) = c.start-to.ensures ∙ ap (start faces) c.behind.ensures in
    halves_same faces (falls faces) h c.args.sides.now.back.items
    (falls_no faces h (omega (arith, c.start-from.ensures, to, c.if-from-to.true))) c.requires.back

pub returns-in_ok-push-2-clause-there : goal.returns-in_ok-push-2-clause-there
returns-in_ok-push-2-clause-there c =
    let faces = c.args.faces.now in
    let h = c.args.h in
    let to : c.start-to.result ≡ start faces (behind h) = c.start-to.ensures ∙ ap (start faces) c.behind.ensures in
    halves_same faces (rises faces) h c.args.sides.now.there.items
    (rises_no faces h (omega (arith, c.start-from.ensures, to, c.if-from-to.false))) c.requires.there

pub returns-in_ok-push-2-clause-back : goal.returns-in_ok-push-2-clause-back
returns-in_ok-push-2-clause-back c =
    let faces = c.args.faces.now in
    let h = c.args.h in
    let to : c.start-to.result ≡ start faces (behind h) = c.start-to.ensures ∙ ap (start faces) c.behind.ensures in
    let fall : start faces (behind h) ≤ start faces h = omega (arith, c.start-from.ensures, to, c.if-from-to.false) in
    subst (AreHalves faces (falls faces) (h + 1)) (sym c.in_ok-push-2.ensures.items)
    (halves_more faces (falls faces) h c.args.sides.now.back.items _ (falls_yes faces h fall) (omega arith)
    (omega (arith, c.edge_of-edge-else-from-to.ensures, c.start-from.ensures, to, number_down faces h fall))
    (omega (arith, c.rank_of-rank.type_inv)) c.requires.back)
