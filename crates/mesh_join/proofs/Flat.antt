-- A face that is not valid by numbers of places is flat.
use Rattle.std.proofs.Common.{ℕ, ◌≡◌, ◌<◌, ◌⊎◌, inl, inr, ap, sym, subst, ◌∙◌, arith}
use Rattle.std.proofs.Common.{List, [], ◌∷◌, length, map, get_or, Contains}
use Rattle.std.specs.List.{All}
use Rattle.std.specs.Prelude.{slice_index}
use Rattle.std.proofs.lemmas.Bool.{cases_eq}
use Rattle.std.proofs.lemmas.List.{get_or-map}
use Rattle.std.proofs.lemmas.List.Elements.{All-contains}
use Rattle.std.proofs.Math.ListN.{length-map}
use Rattle.geo_sign.specs.Point.{Point, origin}
use Rattle.mesh.specs.Meshes.{point_at, IsFace}
use Rattle.mesh.specs.declared.mesh.Mesh.{Mesh}
use Rattle.mesh_join.specs.Joins.{face_at_places, turned_face}
use Rattle.mesh_join.specs.Refusals.{IsFlatFace, IsFlatMesh}

-- three distinct numbers make a face
distinct : (n a b c : ℕ) → a < n → b < n → c < n → (¬ (a ≡ b)) → (¬ (b ≡ c)) → (¬ (c ≡ a)) → IsFace n (turned_face a b c)
distinct n a b c la lb lc ab bc ca = grind arith

-- the number of a vertex says where it stands
stands : (places points : List Point) (numbers : List ℕ) (v : ℕ) → points ≡ map (point_at places) numbers → v < length numbers
    → point_at points v ≡ point_at places (slice_index numbers v)
stands places points numbers v is l =
    ap (λ (ps : List Point). point_at ps v) is ∙ get_or-map (point_at places) numbers v 0 origin l

pub flat : (places points : List Point) (numbers f : List ℕ) → points ≡ map (point_at places) numbers
    → All (λ n. n < length places) numbers → IsFace (length points) f
    → (¬ IsFace (length places) (face_at_places numbers f)) → IsFlatFace points f
flat places points numbers [] is within v bad = absurd v
flat places points numbers (a ∷ []) is within v bad = absurd v
flat places points numbers (a ∷ b ∷ []) is within v bad = absurd v
flat places points numbers (a ∷ b ∷ c ∷ d ∷ x) is within v bad = absurd v
flat places points numbers (a ∷ b ∷ c ∷ []) is within v bad = by (cases_eq p q) (cases_eq q r) (cases_eq r p)
  where
    p : ℕ
    p = slice_index numbers a

    q : ℕ
    q = slice_index numbers b

    r : ℕ
    r = slice_index numbers c

    size : length points ≡ length numbers
    size = ap (λ (ps : List Point). length ps) is ∙ length-map numbers (point_at places)

    la : a < length numbers
    la = omega (arith, v.0, v.3, size)

    lb : b < length numbers
    lb = omega (arith, v.3, size)

    lc : c < length numbers
    lc = omega (arith, v.4, size)

    same : (u w : ℕ) → u < length numbers → w < length numbers → slice_index numbers u ≡ slice_index numbers w
        → point_at points u ≡ point_at points w
    same u w l m e =
        stands places points numbers u is l ∙ (ap (point_at places) e ∙ sym (stands places points numbers w is m))

    by : (p ≡ q) ⊎ (p ≡ q → ⊥) → (q ≡ r) ⊎ (q ≡ r → ⊥) → (r ≡ p) ⊎ (r ≡ p → ⊥) → IsFlatFace points (a ∷ b ∷ c ∷ [])
    by (inl e) y z = inl (same a b la lb e)
    by (inr x) (inl e) z = inr (inl (same b c lb lc e))
    by (inr x) (inr y) (inl e) = inr (inr (same c a lc la e))
    by (inr x) (inr y) (inr z) =
        absurd (bad (distinct (length places) p q r (within a 0 la) (within b 0 lb) (within c 0 lc) x y z))

-- A mesh with a face whose numbers are no face of the places has a flat face.
pub flat_mesh : (places : List Point) (mesh : Mesh) (numbers shown : List ℕ) (faces : List (List ℕ))
    → All (IsFace (length mesh.points.items)) mesh.faces.items → faces ≡ mesh.faces.items → shown ≡ numbers
    → mesh.points.items ≡ map (point_at places) numbers → All (λ n. n < length places) numbers
    → (f : List ℕ) × Contains faces f × (¬ IsFace (length places) (face_at_places shown f)) → IsFlatMesh mesh
flat_mesh places mesh numbers shown faces valid same is at within bad =
    let f : List ℕ = bad.0 in
    let has : Contains mesh.faces.items f = subst (λ (fs : List (List ℕ)). Contains fs f) same bad.1 in (
      f,
      has,
      flat places mesh.points.items numbers f at within (All-contains (IsFace (length mesh.points.items)) mesh.faces.items f valid has)
          (subst (λ (ns : List ℕ). ¬ IsFace (length places) (face_at_places ns f)) is bad.2),
    )
