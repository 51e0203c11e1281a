-- A closed mesh as it is, is simplified: each vertex comes from itself, each face is kept, and each corner is at a corner of a face.
use Rattle.std.proofs.Common.{ℕ, zero, suc, ◌≡◌, ◌<◌, inr, ap, sym, subst, ◌∙◌, arith, Bool, List, [], ◌∷◌, length, get_or, map}
use Rattle.std.proofs.Common.{ℤ, pos, ◌+ℤ◌, ◌-ℤ◌, ◌*ℤ◌, ◌≤ℤ◌}
use Rattle.std.specs.List.{All}
use Rattle.std.proofs.lemmas.Int.{ints}
use Rattle.std.proofs.lemmas.List.{get_or-map, get_or_default, length-map, ext_get_or}
use Rattle.geo_sign.specs.Point.{Point, origin}
use Rattle.mesh.specs.Meshes.{IsFace, IsMesh, below, point_at}
use Rattle.mesh.proofs.Vertices.{get_or-below, length_below}
use Rattle.mesh_edges.specs.Edges.{face_at, IsBalanced}
use Rattle.face_near.specs.Near.{IsNearAt, IsNearFace}
use Rattle.mesh_reach.specs.Reached.{AreReached}
use Rattle.mesh_simplify.specs.Simplified.{IsVertexMap, IsAtOldPlace, IsOldFace}
use Rattle.mesh_simplify.specs.Tested.{IsGood}
use Rattle.mesh_simplify.proofs.Covered.{covers_itself}

-- a difference that is 0, as weights of one corner give it
off_first : (x y z : ℤ) → pos 1 *ℤ x +ℤ pos 0 *ℤ y +ℤ pos 0 *ℤ z -ℤ pos 1 *ℤ x ≡ pos 0
off_first x y z = omega (arith, ints)

off_second : (x y z : ℤ) → pos 0 *ℤ x +ℤ pos 1 *ℤ y +ℤ pos 0 *ℤ z -ℤ pos 1 *ℤ y ≡ pos 0
off_second x y z = omega (arith, ints)

off_third : (x y z : ℤ) → pos 0 *ℤ x +ℤ pos 0 *ℤ y +ℤ pos 1 *ℤ z -ℤ pos 1 *ℤ z ≡ pos 0
off_third x y z = omega (arith, ints)

-- a sum of three such squares is at most any square
no_distance : (d e f : ℤ) (n : ℕ) → d ≡ pos 0 → e ≡ pos 0 → f ≡ pos 0 → (d *ℤ d +ℤ e *ℤ e +ℤ f *ℤ f) ≤ℤ pos n
no_distance d e f n p q r =
    subst (λ (t : ℤ). t ≤ℤ pos n)
    (sym (ap (λ (t : ℤ). t *ℤ t +ℤ e *ℤ e +ℤ f *ℤ f) p
    ∙ (ap (λ (t : ℤ). pos 0 *ℤ pos 0 +ℤ t *ℤ t +ℤ f *ℤ f) q ∙ ap (λ (t : ℤ). pos 0 *ℤ pos 0 +ℤ pos 0 *ℤ pos 0 +ℤ t *ℤ t) r)))
    (zero_le n)
  where
    zero_le : (m : ℕ) → (pos 0 *ℤ pos 0 +ℤ pos 0 *ℤ pos 0 +ℤ pos 0 *ℤ pos 0) ≤ℤ pos m
    zero_le m = omega (arith, ints)

-- each corner of a triangle is near it
near_first : (within : ℕ) (a b c : Point) → IsNearAt 1 within a a b c 1 0 0
near_first within a b c = (
  omega arith,
  no_distance _ _ _ _ (off_first a.x b.x c.x) (off_first a.y b.y c.y) (off_first a.z b.z c.z),
)

near_second : (within : ℕ) (a b c : Point) → IsNearAt 1 within b a b c 0 1 0
near_second within a b c = (
  omega arith,
  no_distance _ _ _ _ (off_second a.x b.x c.x) (off_second a.y b.y c.y) (off_second a.z b.z c.z),
)

near_third : (within : ℕ) (a b c : Point) → IsNearAt 1 within c a b c 0 0 1
near_third within a b c = (
  omega arith,
  no_distance _ _ _ _ (off_third a.x b.x c.x) (off_third a.y b.y c.y) (off_third a.z b.z c.z),
)

-- so each corner of a face is near that face
corner_near : (n within : ℕ) (points : List Point) (f : List ℕ) (k d : ℕ) → IsFace n f → k < length f
    → IsNearFace 1 within (point_at points (get_or f k d)) points f
corner_near n within points [] k d i l = absurd i
corner_near n within points (a ∷ []) k d i l = absurd i
corner_near n within points (a ∷ b ∷ []) k d i l = absurd i
corner_near n within points (a ∷ b ∷ c ∷ e ∷ x) k d i l = absurd i
corner_near n within points (a ∷ b ∷ c ∷ []) zero d i l =
    (1, 0, 0, near_first within (point_at points a) (point_at points b) (point_at points c))
corner_near n within points (a ∷ b ∷ c ∷ []) (suc zero) d i l =
    (0, 1, 0, near_second within (point_at points a) (point_at points b) (point_at points c))
corner_near n within points (a ∷ b ∷ c ∷ []) (suc (suc zero)) d i l =
    (0, 0, 1, near_third within (point_at points a) (point_at points b) (point_at points c))
corner_near n within points (a ∷ b ∷ c ∷ []) (suc (suc (suc k))) d i l = absurd (omega arith)

-- so a mesh is near itself
reaches_itself : (n within : ℕ) (points : List Point) (faces : List (List ℕ)) → All (IsFace n) faces
    → AreReached 1 within points faces points faces
reaches_itself n within points faces each i e l k d m =
    let same : get_or faces i e ≡ face_at faces i = get_or_default faces i e [] l in (
      i,
      l,
      subst (λ (f : List ℕ). IsNearFace 1 within (point_at points (get_or (get_or faces i e) k d)) points f) same
          (corner_near n within points (get_or faces i e) k d (each i e l) m),
    )

-- each vertex comes from itself
own_vertices : (moves : Bool) (points : List Point) → IsVertexMap moves (below (length points)) points points
own_vertices moves points =
    let n : ℕ = length points in
    record {
      within = λ k d l. omega (arith, l, length_below n, get_or-below n k d (omega (arith, l, length_below n)));
      rising = λ i j d l m.
          omega (
            arith,
            length_below n,
            get_or-below n i d (omega (arith, length_below n)),
            get_or-below n j d (omega (arith, length_below n)),
          );
      count = sym (length_below n);
      places = λ stay.
          ext_get_or origin points (map (point_at points) (below n)) (sym (length-map (below n) (point_at points) ∙ length_below n))
          (λ i l.
          sym (get_or-map (point_at points) (below n) i 0 origin (omega (arith, length_below n)) ∙ ap (λ (v : ℕ). point_at points v) (get_or-below n i 0 l)));
    }

-- each face is kept
own_face : (n : ℕ) (f : List ℕ) → IsFace n f → map (λ v. get_or (below n) v 0) f ≡ f
own_face n [] i = absurd i
own_face n (a ∷ []) i = absurd i
own_face n (a ∷ b ∷ []) i = absurd i
own_face n (a ∷ b ∷ c ∷ d ∷ x) i = absurd i
own_face n (a ∷ b ∷ c ∷ []) i =
    let p : get_or (below n) a 0 ≡ a = get_or-below n a 0 (omega (arith, i.0, i.3)) in
    let q : get_or (below n) b 0 ≡ b = get_or-below n b 0 i.3 in
    let r : get_or (below n) c 0 ≡ c = get_or-below n c 0 i.4 in
    cc

-- where it is
own_places : (points : List Point) (f : List ℕ) → IsFace (length points) f → All (IsAtOldPlace points points (below (length points))) f
own_places points [] i = absurd i
own_places points (a ∷ []) i = absurd i
own_places points (a ∷ b ∷ []) i = absurd i
own_places points (a ∷ b ∷ c ∷ e ∷ x) i = absurd i
own_places points (a ∷ b ∷ c ∷ []) i = λ k d l. by k d l
  where
    own : (v : ℕ) → v < length points → IsAtOldPlace points points (below (length points)) v
    own v l = ap (λ (u : ℕ). point_at points u) (sym (get_or-below (length points) v 0 l))

    by : (k d : ℕ) → k < 3 → IsAtOldPlace points points (below (length points)) (get_or (a ∷ b ∷ c ∷ []) k d)
    by zero d l = own a (omega (arith, i.0, i.3))
    by (suc zero) d l = own b i.3
    by (suc (suc zero)) d l = own c i.4
    by (suc (suc (suc k))) d l = absurd (omega arith)

own_kept : (points : List Point) (faces : List (List ℕ)) (i : ℕ) → All (IsFace (length points)) faces → i < length faces
    → IsOldFace points points (below (length points)) faces (face_at faces i)
own_kept points faces i each l =
    let n : ℕ = length points in (
      (i, l, get_or_default faces i _ [] l ∙ sym (own_face n (face_at faces i) (each i [] l))),
      own_places points (face_at faces i) (each i [] l),
    )

pub unchanged : (asked moves : Bool) (within : ℕ) (points : List Point) (faces : List (List ℕ)) → IsMesh points faces → IsBalanced faces
    → IsGood asked moves within points faces points faces
unchanged asked moves within points faces valid closed =
    record {
      valid = valid;
      simplified =
          record {
            from = below (length points);
            vertices = own_vertices moves points;
            closed = closed;
            single = λ h. h;
            distinct = λ h. h;
            reached = reaches_itself (length points) within points faces valid.each;
            apart = λ i j l m.
                inr (
                  own_kept points faces i valid.each (omega arith),
                  own_kept points faces j valid.each m,
                );
          };
      near = λ yes.
          let own = covers_itself (length points) within points faces valid.each in
          record { there = own; back = own };
    }
