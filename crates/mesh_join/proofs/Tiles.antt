-- The lists of tiles, and what is joined of them.
use Rattle.std.proofs.Common.{ℕ, ◌≡◌, ◌<◌, ◌++◌, ◌↔◌, sym, ◌∙◌, ap, subst, inl, inr, List, [], ◌∷◌, length, get_or}
use Rattle.std.proofs.Common.{Contains, AllPairs, ◌+◌, arith, true, below_more}
use Rattle.std.specs.List.{All}
use Rattle.std.proofs.Math.ListN.{length-map}
use Rattle.std.proofs.lemmas.List.{get_or-map, map-append, get_or_append_left}
use Rattle.std.proofs.Math.Seq.{get_or-append_seam}
use Rattle.geo_sign.specs.Point.{Point}
use Rattle.mesh.specs.declared.mesh.Mesh.{Mesh}
use Rattle.std.proofs.lemmas.List.Elements.{All-contains, All-from_get_or, Contains-get_or, Contains-append_left}
use Rattle.std.proofs.lemmas.List.Elements.{Contains-append_right, Contains-append_cases, All-push}
use Rattle.geo_sign.specs.Rising.{IsBefore}
use Rattle.mesh.specs.Meshes.{IsFace}
use Rattle.mesh_join.specs.Joins.{faces_of, lists_of, owns, AreTiles, HasOwnerWith, IsJoin, IsJoined, IsNumbered, OwnsFirst}
use Rattle.mesh_join.specs.declared.held.Tile.{Tile}
use Rattle.mesh_join.specs.declared.owners.Owners.{Owners}

-- as many lists as tiles
pub count : (tiles : List Tile) → length (lists_of tiles) ≡ length tiles
count tiles = length-map tiles (λ (t : Tile). t.faces.items)

-- the list of tile i
pub list_at : (tiles : List Tile) (i : ℕ) (t : Tile) → i < length tiles
    → faces_of (lists_of tiles) i ≡ (get_or tiles i t).faces.items
list_at tiles i t l = get_or-map (λ (u : Tile). u.faces.items) tiles i t [] l

-- what holds at each index holds of each element
pub each : (P : List ℕ → Type 0) (xs : List (List ℕ)) → ((k : ℕ) → k < length xs → P (get_or xs k [])) → (f : List ℕ)
    → Contains xs f → P f
each P xs h f c = All-contains P xs f (All-from_get_or P xs [] h) c

-- what holds of each element holds at each index
pub all_of : (P : List ℕ → Type 0) (xs : List (List ℕ)) → ((f : List ℕ) → Contains xs f → P f) → All P xs
all_of P xs h k d l = h (get_or xs k d) (Contains-get_or xs k d l)

-- what a face of three vertices is, by its parts
pub joined_from : (o : Owners) (lists : List (List (List ℕ))) (n : ℕ) (f : List ℕ) → IsFace n f
    → HasOwnerWith o lists f (get_or f 0 0) (get_or f 1 0) → HasOwnerWith o lists f (get_or f 1 0) (get_or f 2 0)
    → HasOwnerWith o lists f (get_or f 2 0) (get_or f 0 0) → IsJoined o lists f
joined_from o lists n [] v p q r = absurd v
joined_from o lists n (a ∷ []) v p q r = absurd v
joined_from o lists n (a ∷ b ∷ []) v p q r = absurd v
joined_from o lists n (a ∷ b ∷ c ∷ d ∷ x) v p q r = absurd v
joined_from o lists n (a ∷ b ∷ c ∷ []) v p q r = (p, q, r)

pub joined_parts : (o : Owners) (lists : List (List (List ℕ))) (n : ℕ) (f : List ℕ) → IsFace n f → IsJoined o lists f
    → HasOwnerWith o lists f (get_or f 1 0) (get_or f 2 0) × HasOwnerWith o lists f (get_or f 2 0) (get_or f 0 0)
joined_parts o lists n [] v j = absurd v
joined_parts o lists n (a ∷ []) v j = absurd v
joined_parts o lists n (a ∷ b ∷ []) v j = absurd v
joined_parts o lists n (a ∷ b ∷ c ∷ d ∷ x) v j = absurd v
joined_parts o lists n (a ∷ b ∷ c ∷ []) v j = (j.1, j.2)

pub first_parts : (o : Owners) (i n : ℕ) (f : List ℕ) → IsFace n f → OwnsFirst o i f
    → owns o i (get_or f 0 0) (get_or f 1 0) ≡ true
first_parts o i n [] v h = absurd v
first_parts o i n (a ∷ []) v h = absurd v
first_parts o i n (a ∷ b ∷ []) v h = absurd v
first_parts o i n (a ∷ b ∷ c ∷ d ∷ x) v h = absurd v
first_parts o i n (a ∷ b ∷ c ∷ []) v h = h

-- a tile that owns the first edge of a joined face and has it
pub first_owner : (o : Owners) (lists : List (List (List ℕ))) (f : List ℕ) → IsJoined o lists f
    → (i : ℕ) × (i < length lists) × OwnsFirst o i f × Contains (faces_of lists i) f
first_owner o lists [] j = absurd j
first_owner o lists (a ∷ []) j = absurd j
first_owner o lists (a ∷ b ∷ []) j = absurd j
first_owner o lists (a ∷ b ∷ c ∷ d ∷ x) j = absurd j
first_owner o lists (a ∷ b ∷ c ∷ []) j = (j.0.0, j.0.1, j.0.2.0, j.0.2.1)

pub joined_valid : (o : Owners) (lists : List (List (List ℕ))) → AreTiles o lists → (f : List ℕ) → IsJoined o lists f
    → IsFace (length o.places.items) f
joined_valid o lists tiles f j =
    let h = first_owner o lists f j in
    All-contains (IsFace (length o.places.items)) (faces_of lists h.0) f (tiles.valid h.0 [] h.1) h.3

module _ (o : Owners) (lists : List (List (List ℕ))) (filling kept all facets : List (List ℕ)) (is : all ≡ kept ++ filling)
    (same : (f : List ℕ) → Contains facets f ↔ Contains all f) where
  -- the joined faces and those of the list, sorted, are a join
  pub join_is : All (IsJoined o lists) kept → ((f : List ℕ) → IsJoined o lists f → Contains kept f) → AllPairs IsBefore facets
      → IsJoin o lists filling facets
  join_is sound complete rising =
      record {
        rising = rising;
        has_joined = λ f j. (same f).1
            (subst (λ (xs : List (List ℕ)). Contains xs f) (sym is) (Contains-append_left kept filling f (complete f j)));
        has_filled = λ f h. (same f).1
            (subst (λ (xs : List (List ℕ)). Contains xs f) (sym is) (Contains-append_right kept filling f h));
        only = λ f h. elim (Contains-append_cases kept filling f (subst (λ (xs : List (List ℕ)). Contains xs f) is ((same f).0 h))) [
          | inl p ↦ inl (All-contains (IsJoined o lists) kept f sound p)
          | inr p ↦ inr p
        ];
      }

-- the faces of a join are valid
pub join_valid : (o : Owners) (lists : List (List (List ℕ))) (filling facets : List (List ℕ)) → AreTiles o lists
    → All (IsFace (length o.places.items)) filling → IsJoin o lists filling facets → All (IsFace (length o.places.items)) facets
join_valid o lists filling facets tiles fits join =
    all_of (IsFace (length o.places.items)) facets (λ f h. elim (join.only f h) [
      | inl j ↦ joined_valid o lists tiles f j
      | inr p ↦ All-contains (IsFace (length o.places.items)) filling f fits p
    ])

-- one tile more
pub lists_more : (tiles : List Tile) (t : Tile) → lists_of (tiles ++ t ∷ []) ≡ lists_of tiles ++ t.faces.items ∷ []
lists_more tiles t = map-append (λ (u : Tile). u.faces.items) tiles (t ∷ [])

-- mesh j in numbers of places
abbrev pub NumberedAt : List Point → List Mesh → List Tile → ℕ → Type 0
NumberedAt places meshes tiles j =
    (m : Mesh) → IsNumbered places (get_or meshes j m).points.items (get_or meshes j m).faces.items (faces_of (lists_of tiles) j)

pub numbered_more : (places : List Point) (meshes : List Mesh) (tiles : List Tile) (t : Tile) (i : ℕ) → length tiles ≡ i
    → ((j : ℕ) → j < i → NumberedAt places meshes tiles j)
    → ((m : Mesh) → IsNumbered places (get_or meshes i m).points.items (get_or meshes i m).faces.items t.faces.items)
    → (j : ℕ) → j < i + 1 → NumberedAt places meshes (tiles ++ t ∷ []) j
numbered_more places meshes tiles t i n before here =
    below_more (NumberedAt places meshes (tiles ++ t ∷ [])) i
    (λ j l m. let k : j < length (lists_of tiles) = omega (arith, count tiles) in
    subst
    (λ (fs : List (List ℕ)). IsNumbered places (get_or meshes j m).points.items (get_or meshes j m).faces.items fs)
    (sym (ap (λ (xs : List (List (List ℕ))). get_or xs j []) (lists_more tiles t)
    ∙ get_or_append_left (lists_of tiles) (t.faces.items ∷ []) [] j k))
    (before j l m))
    (λ m. subst
    (λ (fs : List (List ℕ)). IsNumbered places (get_or meshes i m).points.items (get_or meshes i m).faces.items fs)
    (sym (ap (λ (xs : List (List (List ℕ))). get_or xs i []) (lists_more tiles t)
    ∙ (ap (λ (k : ℕ). get_or (lists_of tiles ++ t.faces.items ∷ []) k []) (sym n ∙ sym (count tiles))
    ∙ get_or-append_seam (lists_of tiles) t.faces.items [] [])))
    (here m))

-- what holds of each list holds of one more
pub all_more : (P : List (List ℕ) → Type 0) (tiles : List Tile) (t : Tile) → All P (lists_of tiles) → P t.faces.items
    → All P (lists_of (tiles ++ t ∷ []))
all_more P tiles t all here =
    subst (λ (ls : List (List (List ℕ))). All P ls) (sym (lists_more tiles t)) (All-push P (lists_of tiles) t.faces.items all here)
