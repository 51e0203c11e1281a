use Rattle.std.proofs.Common.{ℕ, ◌≡◌, ◌<◌, ◌+◌, ◌^◌, List, [], ◌∷◌, ◌++◌, Option, Some, None, length, sym, ◌∙◌, subst, arith}
use Rattle.std.proofs.Common.{slice_index_or, ap}
use Rattle.std.proofs.Math.ListN.{set}
use Rattle.tetra_store.specs.Links.{links_of}
use Rattle.tetra_store.specs.Renumbered.{AreAssigned}
use Rattle.tetra_store.proofs.Moves.{placed_or, one_more}
use Rattle.tetra_store.proofs.renumbering.assign.Goals as goal

pub returns-then-not-is_free-clause-placed : goal.returns-then-not-is_free-clause-placed
returns-then-not-is_free-clause-placed c =
    λ l live.
    placed_or c.args.places.now.of.items c.args.number
    (subst (λ (xs : List (Option ℕ)). c.args.number < length xs → ¬ (slice_index_or xs c.args.number None ≡ None))
    c.deref.ensures.value (c.is_free.ensures.no c.if-not-is_free.true) l)

pub returns-clause-assigned : goal.returns-clause-assigned
returns-clause-assigned c =
    let links = links_of c.args.cells.now.slots in
    let of = c.args.places.now.of.items in
    let from = c.args.places.now.from.items in
    let at = c.args.number in
    let free =
    subst (λ (xs : List (Option ℕ)). (at < length xs) × (slice_index_or xs at None ≡ None)) c.deref.ensures.value
    (c.is_free.ensures.yes c.if-not-is_free.false) in
    let count : c.len-next.result ≡ length from = omega (arith, c.len-next.ensures, c.args.places.now.from.ok.0) in
    let small : length from + 1 < 2 ^ 32 = omega (arith, c.if-next-gt-MOST_CELLS.false, count) in
    let place : c.to.result ≡ Some (length from) =
    c.to.ensures ∙ ap (λ (n : ℕ). Some n) (c.new.ensures ∙ count) in
    subst (λ (xs : List ℕ). AreAssigned links (set of at c.to.result) xs) (sym c.in_ok-push.ensures.items)
    (subst (λ (o : Option ℕ). AreAssigned links (set of at o) (from ++ at ∷ [])) (sym place)
    (one_more links of from at c.requires free.0 free.1 (c.contains.ensures.0 c.if-not-contains.false) small))
