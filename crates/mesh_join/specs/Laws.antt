-- Theorems of joins.
--
--   OwnsAll o i f           tile i owns all edges of the face
--   FacesAtHomeAreKept      a face of a tile that owns all its edges is in the join
--   JoinsAreUnique          owners, the lists of tiles and the filled faces decide the join
use Rattle.std.specs.Prelude.{ℕ, ◌≡◌, ◌<◌, true, List, [], ◌∷◌, length, Contains}
use Rattle.mesh_join.specs.Joins.{faces_of, owns, IsJoin}
use Rattle.mesh_join.specs.declared.owners.Owners.{Owners}

-- tile i owns all edges of the face
abbrev pub OwnsAll : Owners → ℕ → List ℕ → Type 0
OwnsAll o i (a ∷ b ∷ c ∷ []) = (owns o i a b ≡ true) × (owns o i b c ≡ true) × (owns o i c a ≡ true)
OwnsAll o i _ = ⊥

-- a face of a tile that owns all its edges is in the join
abbrev pub FacesAtHomeAreKept : Type 0
FacesAtHomeAreKept =
    (o : Owners) (lists : List (List (List ℕ))) (filling faces : List (List ℕ)) (i : ℕ) (f : List ℕ)
    → IsJoin o lists filling faces → i < length lists → Contains (faces_of lists i) f → OwnsAll o i f → Contains faces f

-- owners, the lists of tiles and the filled faces decide the join
abbrev pub JoinsAreUnique : Type 0
JoinsAreUnique =
    (o : Owners) (lists : List (List (List ℕ))) (filling faces others : List (List ℕ)) → IsJoin o lists filling faces
    → IsJoin o lists filling others → faces ≡ others
