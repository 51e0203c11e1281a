use Rattle.std.proofs.Common.{ℕ, List, subst, sym}
use Rattle.std.specs.List.{Contains}
use Rattle.mesh_crossings.proofs.Known.{near_known}
use Rattle.mesh_crossings.proofs.gather.test_rank.Goals as goal

pub returns-clause-known : goal.returns-clause-known
returns-clause-known c =
    near_known c.args.points.now c.args.faces.now c.args.ranks.now.numbers.now c.args.ranks.now.faces.now c.requires.ranks.by_number
    c.args.ranks.now.tree.now c.args.r
    c.hull_of-hull.result _ c.test_found.new.pairs.items c.requires.ranks.ready.boxes
    c.requires.within c.hull_of-hull.ensures c.in_ok-near.ensures.found
    (λ s has.
    c.in_ok-test_found.ensures.known s (subst (λ (xs : List ℕ). Contains xs s) (sym c.deref.ensures.value) has))
