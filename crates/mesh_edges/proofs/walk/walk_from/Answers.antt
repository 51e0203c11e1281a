use Rattle.std.proofs.Common.{ℕ, ◌≡◌, ◌++◌, ◌∷◌, [], refl, length, get_or, sym, subst, ap, ◌∙◌, List, arith}
use Rattle.std.proofs.lemmas.List.{get_or_push, length_push}
use Rattle.mesh_edges.specs.Walks.{IsOn}
use Rattle.mesh_edges.proofs.walk.walk_from.Goals as goal

pub returns-clause-settled : goal.returns-clause-settled
returns-clause-settled c =
    let t = c.args.walk.now.trail.items in
    c.in_ok-walk_on.ensures.settled c.args.h
    (subst (λ (xs : List ℕ). IsOn xs 0 (length xs) c.args.h) (sym c.in_ok-push.ensures.trail)
    (length t, omega arith, omega (arith, length_push t c.args.h), get_or_push t c.args.h 0 (length t) refl))
