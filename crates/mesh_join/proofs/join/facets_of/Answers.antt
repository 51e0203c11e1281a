use Rattle.std.proofs.Common.{◌≡◌, List, ℕ, length, subst, sym}
use Rattle.std.specs.List.{All}
use Rattle.std.proofs.lemmas.List.Elements.{All-append, All-weaker}
use Rattle.mesh.specs.Meshes.{IsFace}
use Rattle.mesh_join.specs.Joins.{lists_of, IsJoined}
use Rattle.mesh_join.proofs.Rising.{three}
use Rattle.mesh_join.proofs.Tiles.{join_is, join_valid, joined_valid}
use Rattle.mesh_join.proofs.join.facets_of.Goals as goal

pub ascending-requires : goal.ascending-requires
ascending-requires c =
    let n : ℕ = length c.args.owners.now.places.items in
    let lists : List (List (List ℕ)) = lists_of c.args.tiles.now in
    let kept : List (List ℕ) = c.in_ok-faces.faces.items in
    subst (λ (xs : List (List ℕ)). All (λ (f : List ℕ). length f ≡ 3) xs) (sym c.in_ok-extend_from_slice.ensures.items)
    (All-append (λ (f : List ℕ). length f ≡ 3) kept c.args.filling.now
    (All-weaker (IsJoined c.args.owners.now lists) (λ (f : List ℕ). length f ≡ 3)
    (λ f j. three n f (joined_valid c.args.owners.now lists c.requires.tiles f j)) kept c.in_ok-faces.ensures.sound)
    (All-weaker (IsFace n) (λ (f : List ℕ). length f ≡ 3) (three n) c.args.filling.now c.requires.filling))

pub returns-clause-join : goal.returns-clause-join
returns-clause-join c =
    join_is c.args.owners.now (lists_of c.args.tiles.now) c.args.filling.now c.in_ok-faces.faces.items
    c.extend_from_slice.new.self.items c.in_ok-facets.facets.items c.in_ok-extend_from_slice.ensures.items
    c.in_ok-facets.ensures.same c.in_ok-faces.ensures.sound c.in_ok-faces.ensures.complete c.in_ok-facets.ensures.rising

pub returns-clause-valid : goal.returns-clause-valid
returns-clause-valid c =
    join_valid c.args.owners.now (lists_of c.args.tiles.now) c.args.filling.now c.in_ok-facets.facets.items c.requires.tiles
    c.requires.filling (returns-clause-join c)
