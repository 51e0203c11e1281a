-- Crossings in face order, and that their lists have the faces of each edge.
--
-- A face that is cut goes up on one of its edges, and no other edge of it goes up (same_edge), so it stands in the list of
-- an edge exactly where it goes up on that edge (up_key), and so of down edges (down_key). So one face more adds itself to
-- the list of its edge and to no other: up_more and down_more, by whether the face is cut, for each edge; crossings_more is
-- both, over the mesh as the code has it.
use Rattle.std.proofs.Common.{ℕ, ◌≡◌, ◌+◌, ◌<◌, ◌^◌, ◌==◌, ◌&&◌, refl, ap, sym, ◌∙◌, subst, Bool, true, false, not, cond, List}
use Rattle.std.proofs.Common.{[], ◌∷◌, ◌++◌, length, get_or, map, filter, Option, Some, None, ℤ, inl, inr}
use Rattle.std.specs.Prelude.{IfSome, IfNone}
use Rattle.std.specs.List.{list_any}
use Rattle.std.proofs.lemmas.Bool.{false≢true, eqb-true, cases_lt, and_parts, not-true, eq-eqb, false_from_ne_true}
use Rattle.std.proofs.lemmas.List.{map-append, append-nil, get_or_past, get_or_default}
use Rattle.std.proofs.lemmas.List.Elements.{filter-append}
use Rattle.geo_sign.specs.Point.{Point}
use Rattle.mesh.specs.Meshes.{IsFace, below}
use Rattle.mesh.proofs.Vertices.{filter_below_more}
use Rattle.mesh_edges.specs.Edges.{has_edge, face_at}
use Rattle.solid_slice.specs.Cuts.{is_above, is_cut_face, is_cut_at, IsUpEdge, IsDownEdge}
use Rattle.mesh_edges.specs.Pairs.{key_of, key_of_pair}
use Rattle.solid_slice.specs.Crossings.{goes_up, key_of_crossing, the_crossed, crossings_at, faces_of_pair, is_upward, is_downward}
use Rattle.solid_slice.specs.Crossings.{AreCrossings}
use Rattle.mesh_edges.specs.declared.pairs.Pair.{Pair}
use Rattle.solid_slice.specs.declared.crossings.Crossing.{Crossing}
use Rattle.geo_sign.proofs.Booleans.{same_bools}
use Rattle.mesh_edges.proofs.FaceEdges.{same_edge, ends_in, edge_within}
use Rattle.mesh_edges.proofs.FaceEdges.{key_parts}

-- A face with an edge between a vertex above and one below is cut.
pub cut_by_edge : (points : List Point) (h : ℤ) (face : List ℕ) (u v : ℕ) → has_edge u v face ≡ true
    → is_above points h u ≡ false → is_above points h v ≡ true → is_cut_face points h face ≡ true
cut_by_edge points h face u v e low high =
    let above = is_above points h in
    let some = (ends_in above face u v e).1 high in
    let others = (ends_in (λ w. not (is_above points h w)) face u v e).0 (ap not low) in
    ap (λ (p : Bool). p && list_any (λ w. not (is_above points h w)) face) some ∙ others

pub cut_by_down_edge : (points : List Point) (h : ℤ) (face : List ℕ) (u v : ℕ) → has_edge v u face ≡ true
    → is_above points h u ≡ false → is_above points h v ≡ true → is_cut_face points h face ≡ true
cut_by_down_edge points h face u v e low high =
    let above = is_above points h in
    let some = (ends_in above face v u e).0 high in
    let others = (ends_in (λ w. not (is_above points h w)) face v u e).1 (ap not low) in
    ap (λ (p : Bool). p && list_any (λ w. not (is_above points h w)) face) some ∙ others

-- a cut face is one of the faces
pub cut_within : (points : List Point) (faces : List (List ℕ)) (h : ℤ) (f : ℕ) → is_cut_at points faces h f ≡ true
    → f < length faces
cut_within points faces h f cut =
    elim (cases_lt f (length faces)) [
      | inl l ↦ l
      | inr l ↦ absurd (false≢true (sym (ap (is_cut_face points h) (get_or_past faces f [] l)) ∙ cut))
    ]

pub goes_parts : (points : List Point) (h : ℤ) (u v : ℕ) (b : Bool) → (goes_up points h u v && b) ≡ true
    → (is_above points h u ≡ false) × (is_above points h v ≡ true) × (b ≡ true)
goes_parts points h u v b e =
    let p = and_parts (goes_up points h u v) b e in
    let q = and_parts (not (is_above points h u)) (is_above points h v) p.0 in
    (not-true (is_above points h u) q.0, q.1, p.1)

pub goes_so : (points : List Point) (h : ℤ) (u v : ℕ) (b : Bool) → is_above points h u ≡ false → is_above points h v ≡ true
    → b ≡ true → (goes_up points h u v && b) ≡ true
goes_so points h u v b low high e = cc (ap not low)

-- A cut face's up edge is the one whose key it is listed by.
up_key : (points : List Point) (h : ℤ) (face : List ℕ) (s t u v : ℕ) → t < 2 ^ 32 → v < 2 ^ 32 → IsUpEdge points h face s t
    → (key_of s t == key_of u v) ≡ (goes_up points h u v && has_edge u v face)
up_key points h face s t u v l m up =
    same_bools (key_of s t == key_of u v) (goes_up points h u v && has_edge u v face)
    (λ e.
    let p = key_parts s t u v l m (eqb-true (key_of s t) (key_of u v) e) in
    goes_so points h u v (has_edge u v face) (ap (is_above points h) (sym p.0) ∙ up.from_below)
    (ap (is_above points h) (sym p.1) ∙ up.to_above)
    (ap (λ (w : ℕ). has_edge w v face) (sym p.0) ∙ (ap (λ (w : ℕ). has_edge s w face) (sym p.1) ∙ up.edge)))
    (λ e.
    let p = goes_parts points h u v (has_edge u v face) e in
    let q = same_edge (is_above points h) face s t u v up.edge p.2 up.from_below up.to_above p.0 p.1 in
    ap (λ (w : ℕ). key_of w t == key_of u v) q.0
    ∙ (ap (λ (w : ℕ). key_of u w == key_of u v) q.1 ∙ eq-eqb (key_of u v) (key_of u v) refl))

down_key : (points : List Point) (h : ℤ) (face : List ℕ) (s t u v : ℕ) → t < 2 ^ 32 → v < 2 ^ 32 → IsDownEdge points h face t s
    → (key_of s t == key_of u v) ≡ (goes_up points h u v && has_edge v u face)
down_key points h face s t u v l m down =
    same_bools (key_of s t == key_of u v) (goes_up points h u v && has_edge v u face)
    (λ e.
    let p = key_parts s t u v l m (eqb-true (key_of s t) (key_of u v) e) in
    goes_so points h u v (has_edge v u face) (ap (is_above points h) (sym p.0) ∙ down.to_below)
    (ap (is_above points h) (sym p.1) ∙ down.from_above)
    (ap (λ (w : ℕ). has_edge w u face) (sym p.1) ∙ (ap (λ (w : ℕ). has_edge t w face) (sym p.0) ∙ down.edge)))
    (λ e.
    let p = goes_parts points h u v (has_edge v u face) e in
    let test = λ (w : ℕ). not (is_above points h w) in
    let q =
    same_edge test face t s v u down.edge p.2 (ap not down.from_above) (ap not down.to_below) (ap not p.1) (ap not p.0) in
    ap (λ (w : ℕ). key_of w t == key_of u v) q.1
    ∙ (ap (λ (w : ℕ). key_of u w == key_of u v) q.0 ∙ eq-eqb (key_of u v) (key_of u v) refl))

-- one crossing more
listed_more : (k : ℕ) (xs : List Crossing) (p : Pair) (f : ℕ) (b : Bool) → (key_of_pair p == k) ≡ b
    → faces_of_pair k (xs ++ crossings_at (Some p) f) ≡ faces_of_pair k xs ++ cond b (f ∷ []) []
listed_more k xs p f b e =
    let test = λ (c : Crossing). key_of_crossing c == k in
    let one : Crossing = record { edge = p; face = f } in
    ap (map the_crossed) (filter-append test xs (one ∷ []))
    ∙ (map-append the_crossed (filter test xs) (filter test (one ∷ []))
    ∙ (ap (λ (q : Bool). faces_of_pair k xs ++ map the_crossed (cond q (one ∷ []) [])) e
    ∙ ap (λ (t : List ℕ). faces_of_pair k xs ++ t) (last b)))
  where
    last : (b : Bool) → map the_crossed (cond b (record { edge = p; face = f } ∷ []) []) ≡ cond b (f ∷ []) []
    last true = refl
    last false = refl

none_more : (k : ℕ) (xs : List Crossing) (f : ℕ) (b : Bool) → b ≡ false
    → faces_of_pair k (xs ++ []) ≡ faces_of_pair k xs ++ cond b (f ∷ []) []
none_more k xs f b e =
    ap (faces_of_pair k) (append-nil xs)
    ∙ (sym (append-nil (faces_of_pair k xs)) ∙ ap (λ (q : Bool). faces_of_pair k xs ++ cond q (f ∷ []) []) (sym e))

module _ (points : List Point) (faces : List (List ℕ)) (h : ℤ) (i : ℕ) (o : IsFace (2 ^ 32) (face_at faces i)) (u v : ℕ)
    (small : v < 2 ^ 32) (xs : List Crossing) where
  pub up_more : (e : Option Pair) → IfSome e (λ p. IsUpEdge points h (face_at faces i) p.first p.second)
      → IfNone e (is_cut_face points h (face_at faces i) ≡ false)
      → faces_of_pair (key_of u v) xs ≡ filter (is_upward points faces h u v) (below i)
      → faces_of_pair (key_of u v) (xs ++ crossings_at e i) ≡ filter (is_upward points faces h u v) (below (i + 1))
  up_more (Some p) up uncut e =
      listed_more (key_of u v) xs p i (is_upward points faces h u v i)
      (up_key points h (face_at faces i) p.first p.second u v
      (edge_within (2 ^ 32) p.first p.second (face_at faces i) o up.edge).1 small up)
      ∙ (ap (λ (t : List ℕ). t ++ cond (is_upward points faces h u v i) (i ∷ []) []) e
      ∙ sym (filter_below_more (is_upward points faces h u v) i))
  up_more None up uncut e =
      let false_here : is_upward points faces h u v i ≡ false = false_from_ne_true (is_upward points faces h u v i)
      (λ t. let p = goes_parts points h u v (has_edge u v (face_at faces i)) t in
      false≢true (sym uncut ∙ cut_by_edge points h (face_at faces i) u v p.2 p.0 p.1)) in
      none_more (key_of u v) xs i (is_upward points faces h u v i) false_here
      ∙ (ap (λ (t : List ℕ). t ++ cond (is_upward points faces h u v i) (i ∷ []) []) e
      ∙ sym (filter_below_more (is_upward points faces h u v) i))

  pub down_more : (e : Option Pair) → IfSome e (λ p. IsDownEdge points h (face_at faces i) p.second p.first)
      → IfNone e (is_cut_face points h (face_at faces i) ≡ false)
      → faces_of_pair (key_of u v) xs ≡ filter (is_downward points faces h u v) (below i)
      → faces_of_pair (key_of u v) (xs ++ crossings_at e i) ≡ filter (is_downward points faces h u v) (below (i + 1))
  down_more (Some p) down uncut e =
      listed_more (key_of u v) xs p i (is_downward points faces h u v i)
      (down_key points h (face_at faces i) p.first p.second u v
      (edge_within (2 ^ 32) p.second p.first (face_at faces i) o down.edge).0 small down)
      ∙ (ap (λ (t : List ℕ). t ++ cond (is_downward points faces h u v i) (i ∷ []) []) e
      ∙ sym (filter_below_more (is_downward points faces h u v) i))
  down_more None down uncut e =
      let false_here : is_downward points faces h u v i ≡ false = false_from_ne_true (is_downward points faces h u v i)
      (λ t. let p = goes_parts points h u v (has_edge v u (face_at faces i)) t in
      false≢true (sym uncut ∙ cut_by_down_edge points h (face_at faces i) u v p.2 p.0 p.1)) in
      none_more (key_of u v) xs i (is_downward points faces h u v i) false_here
      ∙ (ap (λ (t : List ℕ). t ++ cond (is_downward points faces h u v i) (i ∷ []) []) e
      ∙ sym (filter_below_more (is_downward points faces h u v) i))

-- the crossings of one face more
pub crossings_more : (points points1 points2 : List Point) (faces items : List (List ℕ)) (h : ℤ) (i : ℕ)
    (ups downs ups' downs' : List Crossing) (up down : Option Pair) → points1 ≡ points → points2 ≡ points → items ≡ faces
    → IsFace (2 ^ 32) (face_at faces i)
    → IfSome up (λ p. IsUpEdge points1 h (get_or items i []) p.first p.second)
    → IfNone up (is_cut_face points1 h (get_or items i []) ≡ false)
    → IfSome down (λ p. IsDownEdge points2 h (get_or items i []) p.second p.first)
    → IfNone down (is_cut_face points2 h (get_or items i []) ≡ false)
    → ups' ≡ ups ++ crossings_at up i → downs' ≡ downs ++ crossings_at down i → AreCrossings points faces h i ups downs
    → AreCrossings points faces h (i + 1) ups' downs'
crossings_more points points1 points2 faces items h i ups downs ups' downs' up down e1 e2 ef o up_some up_none down_some
    down_none eu ed c =
    let up_some' =
    subst (λ (ps : List Point). IfSome up (λ p. IsUpEdge ps h (face_at faces i) p.first p.second)) e1
    (subst (λ (fs : List (List ℕ)). IfSome up (λ p. IsUpEdge points1 h (get_or fs i []) p.first p.second)) ef up_some) in
    let up_none' =
    subst (λ (ps : List Point). IfNone up (is_cut_face ps h (face_at faces i) ≡ false)) e1
    (subst (λ (fs : List (List ℕ)). IfNone up (is_cut_face points1 h (get_or fs i []) ≡ false)) ef up_none) in
    let down_some' =
    subst (λ (ps : List Point). IfSome down (λ p. IsDownEdge ps h (face_at faces i) p.second p.first)) e2
    (subst (λ (fs : List (List ℕ)). IfSome down (λ p. IsDownEdge points2 h (get_or fs i []) p.second p.first)) ef down_some) in
    let down_none' =
    subst (λ (ps : List Point). IfNone down (is_cut_face ps h (face_at faces i) ≡ false)) e2
    (subst (λ (fs : List (List ℕ)). IfNone down (is_cut_face points2 h (get_or fs i []) ≡ false)) ef down_none) in
    record {
      upward =
          λ u v l. ap (faces_of_pair (key_of u v)) eu ∙ up_more points faces h i o u v l ups up up_some' up_none' (c.upward u v l);
      downward =
          λ u v l. ap (faces_of_pair (key_of u v)) ed
          ∙ down_more points faces h i o u v l downs down down_some' down_none' (c.downward u v l);
    }

-- the edge that a cut face's number leads to, in the mesh itself
pub up_edge_at : (points points' : List Point) (faces : List (List ℕ)) (h h' : ℤ) (f : ℕ) (face : List ℕ) (e : Option Pair)
    (p : Pair) → is_cut_at points faces h f ≡ true → points' ≡ points → h' ≡ h → face ≡ get_or faces f face → e ≡ Some p
    → IfSome e (λ p. IsUpEdge points' h' face p.first p.second) → IsUpEdge points h (face_at faces f) p.first p.second
up_edge_at points points' faces h h' f face e p cut ep eh ef is some =
    let here = subst (λ (o : Option Pair). IfSome o (λ q. IsUpEdge points' h' face q.first q.second)) is some in
    let l = cut_within points faces h f cut in
    subst (λ (ps : List Point). IsUpEdge ps h (face_at faces f) p.first p.second) ep
    (subst (λ (z : ℤ). IsUpEdge points' z (face_at faces f) p.first p.second) eh
    (subst (λ (g : List ℕ). IsUpEdge points' h' g p.first p.second) (ef ∙ get_or_default faces f face [] l) here))
