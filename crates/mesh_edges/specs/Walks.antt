-- A walk around vertices, in which umbrellas are divided until no two half edges have the same umbrellas at both ends.
--
-- Labels below the number of half edges are those of vertices that were not walked around yet. A greater one is the number of half edges
-- plus a half edge of the umbrella.
--
--   IsExchanged one other old new    two half edges have exchanged their twins
--   IsRelabelled from to trail label old new   those of the trail from one index up to another have a label, all others their old one
--   HasName labels h                 the label of h is that of an umbrella, by one of its half edges
--   AreFinal labels                umbrellas are named, and no two half edges of one have the same labels at both ends
--   IsTrail twins labels seen trail  half edges of one label, whose labels at the other end are distinct
--   FollowsAround twins trail               each follows the one before it around their vertex
--   AreVisited labels trail visited  a half edge that was visited has a settled label, or is on the trail
--   IsWalkState faces twins labels seen trail visited      all of this
--   IsClosing faces twins labels seen trail visited from   the same, and the trail from an index on is a circle
--   MayFollow twins labels trail next   a half edge that may be put on the trail
--   StaySettled old new              settled labels stay so
--   IsWalkStep faces ..                  one step of a walk: what was on the trail is on it, or settled, and less is left to do
--   unvisited visited                how many half edges were not visited
use Rattle.std.specs.Prelude.{ℕ, ◌≡◌, ◌≢◌, ◌+◌, ◌*◌, ◌<◌, ◌≤◌, ◌⊎◌, Bool, true, false, List, length, slice_index, slice_index_or, count_by, if◌then◌else◌}
use Rattle.mesh_edges.specs.HalfEdges.{behind, around, ArePaired}
use Rattle.mesh_edges.specs.Umbrellas.{AreFanLabels}

-- two half edges have exchanged their twins
pub record IsExchanged (one other : ℕ) (old new : List ℕ) : Type 0 where
  pub count : length new ≡ length old
  pub first : slice_index new one ≡ slice_index old other
  pub second : slice_index new other ≡ slice_index old one
  pub here : slice_index new (slice_index old one) ≡ other
  pub there : slice_index new (slice_index old other) ≡ one
  pub same :
      (h : ℕ) → h ≢ one → h ≢ other → h ≢ slice_index old one → h ≢ slice_index old other
      → slice_index new h ≡ slice_index old h

-- h is on the trail, from an index up to another
abbrev pub IsOn : List ℕ → (from to h : ℕ) → Type 0
IsOn trail from to h = (i : ℕ) × (from ≤ i) × (i < to) × (slice_index trail i ≡ h)

-- it is not
abbrev pub IsOff : List ℕ → (from to h : ℕ) → Type 0
IsOff trail from to h = (i : ℕ) → from ≤ i → i < to → slice_index trail i ≢ h

-- those of the trail from one index up to another have the label, all others their old one
pub record IsRelabelled (from to : ℕ) (trail : List ℕ) (label : ℕ) (old new : List ℕ) : Type 0 where
  pub count : length new ≡ length old
  pub each :
      (h : ℕ)
      → (IsOn trail from to h × (slice_index new h ≡ label)) ⊎ (IsOff trail from to h × (slice_index new h ≡ slice_index old h))

-- its label is that of an umbrella, by one of its half edges
pub record HasName (labels : List ℕ) (h : ℕ) : Type 0 where
  pub name : ℕ
  pub within : name < length labels
  pub label : slice_index labels h ≡ length labels + name
  pub own : slice_index labels name ≡ length labels + name

-- Each label that is not below the number of half edges is that of an umbrella. Two half edges of one umbrella with one label at the
-- other end are one.
pub record AreFinal (labels : List ℕ) : Type 0 where
  pub named : (h : ℕ) → h < length labels → length labels ≤ slice_index labels h → HasName labels h
  pub apart :
      (g h : ℕ) → g < length labels → h < length labels → length labels ≤ slice_index labels g
      → slice_index labels g ≡ slice_index labels h → slice_index labels (behind g) ≡ slice_index labels (behind h) → g ≡ h

-- The half edges of a trail have one label, which is not settled. The label at the other end tells the index in the trail.
pub record IsTrail (twins labels seen trail : List ℕ) : Type 0 where
  pub within : (i : ℕ) → i < length trail → slice_index trail i < length twins
  pub loose : (i : ℕ) → i < length trail → slice_index labels (slice_index trail i) < length twins
  pub class :
      (i j : ℕ) → i < length trail → j < length trail
      → slice_index labels (slice_index trail i) ≡ slice_index labels (slice_index trail j)
  pub found : (i : ℕ) → i < length trail → slice_index seen (slice_index labels (behind (slice_index trail i))) ≡ i

-- each follows the one before it around their vertex
abbrev pub FollowsAround : (twins trail : List ℕ) → Type 0
FollowsAround twins trail = (i : ℕ) → i + 1 < length trail → slice_index trail (i + 1) ≡ around twins (slice_index trail i)

-- a half edge that was visited has a settled label, or is on the trail
pub record AreVisited (labels trail : List ℕ) (visited : List Bool) : Type 0 where
  pub count : length visited ≡ length labels
  pub each :
      (h : ℕ) → h < length labels → slice_index_or visited h false ≡ true
      → (length labels ≤ slice_index labels h) ⊎ IsOn trail 0 (length trail) h

-- how many half edges were not visited
abbrev pub unvisited : List Bool → ℕ
unvisited visited = count_by (λ v. if v then false else true) visited

-- a walk, between two steps
pub record IsWalkState (faces : List (List ℕ)) (twins labels seen trail : List ℕ) (visited : List Bool) : Type 0 where
  pub paired : ArePaired faces twins
  pub labelled : AreFanLabels faces twins labels
  pub settled : AreFinal labels
  pub places : length seen ≡ length twins + length twins
  pub distinct : IsTrail twins labels seen trail
  pub path : FollowsAround twins trail
  pub passed : AreVisited labels trail visited
  pub room : length trail + unvisited visited ≤ length twins

-- the trail from an index on is a circle
pub record IsClosing (faces : List (List ℕ)) (twins labels seen trail : List ℕ) (visited : List Bool) (from : ℕ)
    : Type 0 where
  pub paired : ArePaired faces twins
  pub labelled : AreFanLabels faces twins labels
  pub settled : AreFinal labels
  pub places : length seen ≡ length twins + length twins
  pub distinct : IsTrail twins labels seen trail
  pub passed : AreVisited labels trail visited
  pub room : length trail + unvisited visited ≤ length twins
  pub below : from < length trail
  pub next :
      (i : ℕ) → i + 1 < length trail → i + 1 ≢ from
      → slice_index trail (i + 1) ≡ around twins (slice_index trail i)
  pub closed : (i : ℕ) → i + 1 ≡ length trail → around twins (slice_index trail i) ≡ slice_index trail from

-- It follows the last half edge of the trail, and its label at the other end is that of none on the trail.
pub record MayFollow (twins labels trail : List ℕ) (next : ℕ) : Type 0 where
  pub within : next < length twins
  pub loose : slice_index labels next < length twins
  pub path : (i : ℕ) → i + 1 ≡ length trail → next ≡ around twins (slice_index trail i)
  pub fresh : (i : ℕ) → i < length trail → slice_index labels (behind (slice_index trail i)) ≢ slice_index labels (behind next)

-- settled labels stay so
abbrev pub StaySettled : (old new : List ℕ) → Type 0
StaySettled old new = (h : ℕ) → h < length old → length old ≤ slice_index old h → length new ≤ slice_index new h

-- One step. What was on the trail is on it, or settled, and less is left to do.
pub record IsWalkStep (faces : List (List ℕ)) (old_trail old_labels : List ℕ) (old_visited : List Bool) (twins labels seen trail : List ℕ)
    (visited : List Bool) : Type 0 where
  pub walk : IsWalkState faces twins labels seen trail visited
  pub count : length labels ≡ length old_labels
  pub stay : StaySettled old_labels labels
  pub kept :
      (h : ℕ) → IsOn old_trail 0 (length old_trail) h → (length labels ≤ slice_index labels h) ⊎ IsOn trail 0 (length trail) h
  pub less : length trail + 2 * unvisited visited < length old_trail + 2 * unvisited old_visited
