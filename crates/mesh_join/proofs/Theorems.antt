-- Faces at home are kept, and a join is unique.
use Rattle.std.proofs.Common.{ℕ, inl, inr, List, [], ◌∷◌, Contains}
use Rattle.geo_sign.proofs.Rising.{rising_law}
use Rattle.mesh_join.specs.Joins.{IsJoin}
use Rattle.mesh_join.specs.Laws.{FacesAtHomeAreKept, JoinsAreUnique}
use Rattle.mesh_join.specs.declared.owners.Owners.{Owners}

pub kept_law : FacesAtHomeAreKept
kept_law o lists filling faces i [] join l h own = absurd own
kept_law o lists filling faces i (a ∷ []) join l h own = absurd own
kept_law o lists filling faces i (a ∷ b ∷ []) join l h own = absurd own
kept_law o lists filling faces i (a ∷ b ∷ c ∷ d ∷ x) join l h own = absurd own
kept_law o lists filling faces i (a ∷ b ∷ c ∷ []) join l h own =
    join.has_joined (a ∷ b ∷ c ∷ []) ((i, l, (own.0, h)), (i, l, (own.1, h)), (i, l, (own.2, h)))

-- what one join has, another has too
has_too : (o : Owners) (lists : List (List (List ℕ))) (filling faces others : List (List ℕ)) → IsJoin o lists filling faces
    → IsJoin o lists filling others → (f : List ℕ) → Contains faces f → Contains others f
has_too o lists filling faces others one other f h =
    elim (one.only f h) [ inl j ↦ other.has_joined f j | inr p ↦ other.has_filled f p ]

pub unique_law : JoinsAreUnique
unique_law o lists filling faces others one other =
    rising_law faces others one.rising other.rising
    (λ f. (has_too o lists filling faces others one other f, has_too o lists filling others faces other one f))
