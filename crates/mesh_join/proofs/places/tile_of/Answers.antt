use Rattle.std.proofs.Common.{◌≡◌, ℕ, List, ap, sym, ◌∙◌, subst, inr, length, map, Contains}
use Rattle.std.proofs.lemmas.List.Sorted.{All-permutation, Contains-permutation, IsPermutation-sym}
use Rattle.std.specs.List.Sorted.{IsPermutation}
use Rattle.mesh.specs.Meshes.{IsFace}
use Rattle.mesh_join.specs.Joins.{face_at_places}
use Rattle.mesh_join.proofs.Flat.{flat_mesh}
use Rattle.mesh_join.proofs.places.tile_of.Goals as goal

pub returns-clause-numbered : goal.returns-clause-numbered
returns-clause-numbered c =
    let numbers : List ℕ = c.in-Some.numbers.items in
    let list : List (List ℕ) = c.in-Some-2.faces.items in
    let sorted : List (List ℕ) = c.in_ok-list.list.items in
    let moved : IsPermutation list sorted = c.in_ok-list.ensures.permutation in
    let faces : list ≡ map (face_at_places numbers) c.args.mesh.now.faces.items =
    (rw c.in-Some-2.is at c.in_ok-faces.ensures.same)
    ∙ (ap (λ (ns : List ℕ). map (face_at_places ns) c.deref-3.result.now) c.deref-2.ensures.value
    ∙ ap (map (face_at_places numbers)) c.deref-3.ensures.value) in
    record {
      numbers = numbers;
      within = rw c.in-Some.is at c.in_ok-numbers.ensures.within;
      at = sym c.deref.ensures.value ∙ (rw c.in-Some.is at c.in_ok-numbers.ensures.at);
      same = λ f. (
        (λ h. subst (λ (xs : List (List ℕ)). Contains xs f) faces
            (Contains-permutation sorted list f (IsPermutation-sym list sorted moved) h)),
        (λ h. Contains-permutation list sorted f moved (subst (λ (xs : List (List ℕ)). Contains xs f) (sym faces) h)),
      );
    }

pub returns-clause-valid : goal.returns-clause-valid
returns-clause-valid c =
    All-permutation (λ (f : List ℕ). IsFace (length c.args.places.now) f) c.in-Some-2.faces.items c.in_ok-list.list.items
    c.in_ok-list.ensures.permutation (rw c.in-Some-2.is at c.in_ok-faces.ensures.valid)

pub returns-in_default-2-clause-none : goal.returns-in_default-2-clause-none
returns-in_default-2-clause-none c =
    inr (flat_mesh c.args.places.now c.args.mesh.now c.in-Some.numbers.items c.deref-2.result.now c.deref-3.result.now
    c.requires.mesh.each c.deref-3.ensures.value c.deref-2.ensures.value
    (sym c.deref.ensures.value ∙ (rw c.in-Some.is at c.in_ok-numbers.ensures.at)) (rw c.in-Some.is at c.in_ok-numbers.ensures.within)
    (rw c.in_default-2.is at c.in_ok-faces.ensures.none))
