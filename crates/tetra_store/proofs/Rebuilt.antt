-- Links are kept where cells are taken out and cells over their rim are put in.
use Rattle.std.proofs.Common.{ℕ, zero, suc, ◌≡◌, ◌≢◌, ◌<◌, ◌≤◌, ◌<ℤ◌, pos, Bool, List, [], ◌∷◌, length, Some, sym, ◌⊎◌, inl}
use Rattle.std.proofs.Common.{inr, subst, arith, slice_index}
use Rattle.std.specs.List.{Contains}
use Rattle.std.proofs.lemmas.Bool.{cases_eq}
use Rattle.geo_sign.specs.declared.point.TheConstants.{CORNERS}
use Rattle.geo_sign.specs.Point.{Point}
use Rattle.geo_sign.specs.Tetrahedron as geo
use Rattle.geo_sign.specs.Tetrahedron.{facet, IsRotated, IsTurned}
use Rattle.geo_sign.specs.Vertices.{Vertices, Has, IsWall, orientation_of}
use Rattle.tetra_store.specs.declared.fan.Facet.{Facet}
use Rattle.tetra_store.specs.Links.{Links, IsLive, IsLinked}
use Rattle.tetra_store.specs.Store.{vertices_at}
use Rattle.geo_sign.specs.Edges.{over, HasVertex}
use Rattle.geo_sign.proofs.Rotations.{turned_turned, turned_back}
use Rattle.tetra_store.specs.Fan.{fan_facet, fan_outer, IsFan, HasPairedEdges}
use Rattle.tetra_store.specs.Steps.{IsMated, IsNamed, IsRenamed}

pub record IsRebuilt (a b : Links) (old : List ℕ) (fan : List Facet) (p : ℕ) (ids : List ℕ) : Type 0 where
  pub stays : (x : ℕ) → IsLive a x → ¬ Contains old x → IsLive b x
  pub same : (x : ℕ) → IsLive a x → ¬ Contains old x → b.at x ≡ a.at x
  pub made : (i : ℕ) → i < length fan → IsLive b (slice_index ids i)
  pub made_at : (i : ℕ) → i < length fan → b.at (slice_index ids i) ≡ over (fan_facet fan i) p
  pub only : (x : ℕ) → IsLive b x → (IsLive a x × (¬ Contains old x)) ⊎ ((i : ℕ) × (i < length fan) × (slice_index ids i ≡ x))
  pub outer : (i : ℕ) → i < length fan → b.next (slice_index ids i) 3 ≡ fan_outer fan i
  pub named : (i y : ℕ) → i < length fan → fan_outer fan i ≡ Some y → IsNamed a b fan ids i y
  pub kept : (x k : ℕ) → IsLive a x → ¬ Contains old x → k < 4 → (b.next x k ≡ a.next x k) ⊎ IsRenamed a b fan ids x k
  pub inner : (i e : ℕ) → i < length fan → e < 3 → IsMated b fan ids i e

pub record IsRebuilding (points : List Point) (flags flags' : List Bool) (a b : Links) (old : List ℕ) (fan : List Facet) (p : ℕ)
    (ids : List ℕ) : Type 0 where
  pub linked : IsLinked (vertices_at points flags) a
  pub rim : IsFan a old fan
  pub edges : HasPairedEdges fan
  pub before : (i : ℕ) → i < length fan
      → pos 0 <ℤ orientation_of (vertices_at points flags) (fan_facet fan i).a (fan_facet fan i).b (fan_facet fan i).c p
  pub above : CORNERS ≤ p
  pub new : ¬ Has (vertices_at points flags) p
  pub in_now : Has (vertices_at points flags') p
  pub more : (u : ℕ) → Has (vertices_at points flags) u → Has (vertices_at points flags') u
  pub live : (x : ℕ) → Contains old x → IsLive a x
  pub rebuilt : IsRebuilt a b old fan p ids

-- ---- walls

pub wall_rotated : (v : Vertices) (f g : geo.DirectedFacet) → IsRotated f g → IsWall v f → IsWall v g
wall_rotated v f g (inl e) w = subst (λ (t : geo.DirectedFacet). IsWall v t) (sym e) w
wall_rotated v f g (inr (inl e)) w = grind arith
wall_rotated v f g (inr (inr e)) w = grind arith

pub wall_back : (v : Vertices) (f : geo.DirectedFacet) → IsWall v f → IsWall v (facet f.a f.c f.b)
wall_back v f w = grind arith

pub wall_turned : (v : Vertices) (f g : geo.DirectedFacet) → IsTurned f g → IsWall v f → IsWall v g
wall_turned v f g t w = grind (arith, wall_rotated, turned_turned, turned_back, wall_back)

pub wall_below : (v : Vertices) (f : geo.DirectedFacet) (u : ℕ) → IsWall v f → HasVertex f u → u < CORNERS
wall_below v f u w (inl e) = let h = w.first in omega arith
wall_below v f u w (inr (inl e)) = let h = w.second in omega arith
wall_below v f u w (inr (inr e)) = let h = w.third in omega arith

-- which are inserted does not matter to a wall
pub wall_same : (points : List Point) (f f' : List Bool) (g : geo.DirectedFacet) → IsWall (vertices_at points f) g
    → IsWall (vertices_at points f') g
wall_same points f f' g w = record { first = w.first; second = w.second; third = w.third; agree = w.agree }

-- ---- membership
pub listed_or_not : (xs : List ℕ) (x : ℕ) → Contains xs x ⊎ (¬ Contains xs x)
listed_or_not [] x = inr (λ h. let l = h.1 in omega arith)
listed_or_not (y ∷ ys) x = elim (cases_eq y x) [
  | inl e ↦ inl (0, omega arith, e)
  | inr n ↦ elim (listed_or_not ys x) [
    | inl h ↦ inl (suc h.0, (let l = h.1 in omega arith), h.2)
    | inr m ↦ inr (none y ys x n m)
  ]
]
  where
    none : (y : ℕ) (ys : List ℕ) (x : ℕ) → y ≢ x → (¬ Contains ys x) → ¬ Contains (y ∷ ys) x
    none y ys x n m (zero, l, e) = n e
    none y ys x n m (suc k, l, e) = m (k, omega arith, e)
