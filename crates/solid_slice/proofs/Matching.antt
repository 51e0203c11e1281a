-- The next face of a face, read off the two lists of crossings.
--
-- In a balanced mesh each edge is gone up as often as down, so both lists, sorted by edge, have the same edges in the same
-- places (matched). The crossing at a place is that of the face with as many faces of its edge before it as there are
-- crossings of the edge before the place (at_place). So the faces at one place have the same rank on their edge, one in
-- going down and one in going up: the one is the other's next (next_at). A cut face has an edge on which it goes down, so it
-- stands in that list (cut_is_listed).
use Rattle.std.proofs.Common.{ℕ, ◌≡◌, ◌+◌, ◌/◌, ◌%◌, ◌<◌, ◌≤◌, ◌^◌, ◌==◌, ◌&&◌, refl, ap, sym, ◌∙◌, subst, arith, Bool, true}
use Rattle.std.proofs.Common.{false, not, List, [], length, get_or, set, take, map, filter, ℤ, inl, inr}
use Rattle.std.specs.List.{All, count_by}
use Rattle.std.specs.List.Sorted.{IsNonDecreasingBy}
use Rattle.std.proofs.lemmas.Bool.{false≢true, cases_lt, cases_eq, eq-eqb}
use Rattle.std.proofs.lemmas.List.{length-map, get_or-map, take-map, get_or_past, take_all, get_or-set_same, get_or-set_other}
use Rattle.std.proofs.lemmas.List.Sums.{length-filter}
use Rattle.geo_sign.specs.Point.{Point}
use Rattle.mesh.specs.Meshes.{IsFace, below}
use Rattle.mesh.proofs.Vertices.{length_below, get_or-below}
use Rattle.mesh_edges.specs.Edges.{has_edge, faces_with_edge, IsBalanced, face_at}
use Rattle.solid_slice.specs.Cuts.{is_above, is_cut_at}
use Rattle.solid_slice.specs.Loops.{IsNext}
use Rattle.mesh_edges.specs.Pairs.{key_of}
use Rattle.solid_slice.specs.Crossings.{goes_up, key_of_crossing, the_crossed, faces_of_pair, is_upward, is_downward, AreCrossings}
use Rattle.solid_slice.specs.declared.crossings.Crossing.{Crossing}
use Rattle.mesh_edges.proofs.Counts.{hits, hits_same, same_keys}
use Rattle.mesh_edges.proofs.FaceEdges.{down_edge_of, edge_within}
use Rattle.solid_slice.proofs.Crossed.{goes_parts, goes_so, cut_within}
use Rattle.solid_slice.proofs.Ranks.{in_filter, from_filter, rank_below, count_taken}

abbrev pub no_crossing : Crossing
no_crossing = record { edge = record { first = 0; second = 0 }; face = 0 }

-- The crossing at place i of a list that has, for its key, the faces that pass the test, in order.
at_place : (q : ℕ → Bool) (n k i : ℕ) (xs : List Crossing) → faces_of_pair k xs ≡ filter q (below n) → i < length xs
    → key_of_crossing (get_or xs i no_crossing) ≡ k
    → ((get_or xs i no_crossing).face < n) × (q (get_or xs i no_crossing).face ≡ true)
    × (count_by q (below (get_or xs i no_crossing).face) ≡ hits key_of_crossing k (take i xs))
at_place q n k i xs e l same =
    let test = λ (c : Crossing). key_of_crossing c == k in
    let j = count_by test (take i xs) in
    let inside = in_filter test xs i no_crossing l (ap (λ (m : ℕ). m == k) same ∙ eq-eqb k k refl) in
    let here : get_or (filter q (below n)) j 0 ≡ (get_or xs i no_crossing).face =
    ap (λ (t : List ℕ). get_or t j 0) (sym e)
    ∙ (get_or-map the_crossed (filter test xs) j no_crossing 0 inside.0 ∙ ap the_crossed inside.1) in
    let within : j < length (filter q (below n)) =
    omega (arith, inside.0, length-map (filter test xs) the_crossed, ap (λ (t : List ℕ). length t) e) in
    let r = rank_below q n j within in
    (subst (λ (f : ℕ). f < n) here r.0, ap q (sym here) ∙ r.1, ap (λ (f : ℕ). count_by q (below f)) (sym here) ∙ r.2)

module _ (points : List Point) (faces : List (List ℕ)) (h : ℤ) (ups downs : List Crossing)
    (crossings : AreCrossings points faces h (length faces) ups downs) where
  -- where the two lists have the same keys, the face that goes up is the next of the one that goes down
  pub next_at : map key_of_crossing ups ≡ map key_of_crossing downs → (i : ℕ) → i < length downs
      → IsNext points faces h (get_or downs i no_crossing).face (get_or ups i no_crossing).face
  next_at same i l =
      let l' : i < length ups =
      omega (arith, ap (λ (t : List ℕ). length t) same, length-map ups key_of_crossing, length-map downs key_of_crossing) in
      let k = key_of_crossing (get_or downs i no_crossing) in
      let u = k / 4294967296 in
      let v = k % 4294967296 in
      let small : v < 2 ^ 32 = omega arith in
      let parts : k ≡ key_of u v = omega arith in
      let key_here : key_of_crossing (get_or ups i no_crossing) ≡ key_of u v =
      sym (get_or-map key_of_crossing ups i no_crossing 0 l')
      ∙ (ap (λ (t : List ℕ). get_or t i 0) same ∙ (get_or-map key_of_crossing downs i no_crossing 0 l ∙ parts)) in
      let down =
      at_place (is_downward points faces h u v) (length faces) (key_of u v) i downs (crossings.downward u v small) l parts in
      let up =
      at_place (is_upward points faces h u v) (length faces) (key_of u v) i ups (crossings.upward u v small) l' key_here in
      let f = (get_or downs i no_crossing).face in
      let g = (get_or ups i no_crossing).face in
      let a = goes_parts points h u v (has_edge v u (face_at faces f)) down.1 in
      let b = goes_parts points h u v (has_edge u v (face_at faces g)) up.1 in
      let goes : goes_up points h u v ≡ true = cc (ap not a.0) in
      let before : hits key_of_crossing (key_of u v) (take i downs) ≡ hits key_of_crossing (key_of u v) (take i ups) =
      hits_same key_of_crossing (key_of u v) (take i downs) (take i ups)
      (sym (take-map key_of_crossing i downs) ∙ (ap (take i) (sym same) ∙ take-map key_of_crossing i ups)) in
      let f_rank : count_by (is_downward points faces h u v) (below f) ≡ faces_with_edge v u (take f faces) =
      ap (λ (t : Bool). count_by (λ m. t && has_edge v u (face_at faces m)) (below f)) goes
      ∙ count_taken (has_edge v u) faces f (omega (arith, down.0)) in
      let g_rank : count_by (is_upward points faces h u v) (below g) ≡ faces_with_edge u v (take g faces) =
      ap (λ (t : Bool). count_by (λ m. t && has_edge u v (face_at faces m)) (below g)) goes
      ∙ count_taken (has_edge u v) faces g (omega (arith, up.0)) in
      record {
        upper = v;
        lower = u;
        down = record { edge = a.2; from_above = a.1; to_below = a.0 };
        up = record { edge = b.2; from_below = b.0; to_above = b.1 };
        rank = sym f_rank ∙ (down.2 ∙ (before ∙ (sym up.2 ∙ g_rank)));
      }

  -- each cut face stands in the list of those that go down
  pub cut_is_listed : All (IsFace (2 ^ 32)) faces → (f : ℕ) → is_cut_at points faces h f ≡ true
      → (i : ℕ) × (i < length downs) × ((get_or downs i no_crossing).face ≡ f)
  cut_is_listed each f cut = listed_so (cut_within points faces h f cut)
    where
      listed_so : f < length faces → (i : ℕ) × (i < length downs) × ((get_or downs i no_crossing).face ≡ f)
      listed_so l =
          let o = each f [] l in
          let d = down_edge_of (is_above points h) (face_at faces f) (2 ^ 32) o cut in
          let v = d.0 in
          let u = d.1 in
          let small = (edge_within (2 ^ 32) v u (face_at faces f) o d.2).0 in
          let q = is_downward points faces h u v in
          let inside =
          in_filter q (below (length faces)) f 0 (omega (arith, length_below (length faces)))
          (ap q (get_or-below (length faces) f 0 l) ∙ goes_so points h u v (has_edge v u (face_at faces f)) d.4 d.3 d.2) in
          let j = count_by q (take f (below (length faces))) in
          let k = key_of u v in
          let test = λ (c : Crossing). key_of_crossing c == k in
          let e = crossings.downward u v small in
          let within : j < length (filter test downs) =
          omega (arith, inside.0, length-map (filter test downs) the_crossed, ap (λ (t : List ℕ). length t) e) in
          let found = from_filter test downs j no_crossing within in
          let face : the_crossed (get_or (filter test downs) j no_crossing) ≡ f =
          sym (get_or-map the_crossed (filter test downs) j no_crossing 0 within)
          ∙ (ap (λ (t : List ℕ). get_or t j 0) e ∙ (inside.1 ∙ get_or-below (length faces) f 0 l)) in
          (found.0, found.1, ap the_crossed found.2 ∙ face)

  -- in a balanced mesh the two lists have each key equally often
  pub matched : IsBalanced faces → IsNonDecreasingBy key_of_crossing ups → IsNonDecreasingBy key_of_crossing downs
      → map key_of_crossing ups ≡ map key_of_crossing downs
  matched balanced s t =
      same_keys key_of_crossing ups downs s t (λ k. same_count k (goes_up points h (k / 4294967296) (k % 4294967296)) refl)
    where
      same_count : (k : ℕ) (b : Bool) → goes_up points h (k / 4294967296) (k % 4294967296) ≡ b
          → hits key_of_crossing k ups ≡ hits key_of_crossing k downs
      same_count k b goes =
          let u = k / 4294967296 in
          let v = k % 4294967296 in
          let small : v < 2 ^ 32 = omega arith in
          let parts : k ≡ key_of u v = omega arith in
          let n = length faces in
          let all_taken : take n faces ≡ faces = take_all n faces (omega arith) in
          let up : hits key_of_crossing (key_of u v) ups ≡ count_by (is_upward points faces h u v) (below n) =
          sized (key_of u v) ups (is_upward points faces h u v) n (crossings.upward u v small) in
          let down : hits key_of_crossing (key_of u v) downs ≡ count_by (is_downward points faces h u v) (below n) =
          sized (key_of u v) downs (is_downward points faces h u v) n (crossings.downward u v small) in
          let test = λ (t : Bool) (a b : ℕ) (m : ℕ). t && has_edge a b (face_at faces m) in
          let up' = ap (λ (t : Bool). count_by (test t u v) (below n)) goes in
          let down' = ap (λ (t : Bool). count_by (test t v u) (below n)) goes in
          ap (λ (m : ℕ). hits key_of_crossing m ups) parts
          ∙ (up ∙ (up' ∙ (both b u v n (omega arith) all_taken
          ∙ (sym down' ∙ (sym down ∙ ap (λ (m : ℕ). hits key_of_crossing m downs) (sym parts))))))
        where
          sized : (k : ℕ) (xs : List Crossing) (q : ℕ → Bool) (n : ℕ) → faces_of_pair k xs ≡ filter q (below n)
              → hits key_of_crossing k xs ≡ count_by q (below n)
          sized k xs q n e =
              let test = λ (c : Crossing). key_of_crossing c == k in
              omega (
                arith,
                length-filter test xs,
                length-map (filter test xs) the_crossed,
                ap (λ (t : List ℕ). length t) e,
                length-filter q (below n),
              )

          both : (b : Bool) (u v n : ℕ) → n ≤ length faces → take n faces ≡ faces
              → count_by (λ m. b && has_edge u v (face_at faces m)) (below n)
              ≡ count_by (λ m. b && has_edge v u (face_at faces m)) (below n)
          both false u v n l e = refl
          both true u v n l e =
              count_taken (has_edge u v) faces n l
              ∙ (ap (faces_with_edge u v) e
              ∙ (balanced u v ∙ (ap (faces_with_edge v u) (sym e) ∙ sym (count_taken (has_edge v u) faces n l))))

-- a face that has an edge is one of the faces
pub edge_of_face : (u v : ℕ) (faces : List (List ℕ)) (f : ℕ) → has_edge u v (face_at faces f) ≡ true → f < length faces
edge_of_face u v faces f e =
    elim (cases_lt f (length faces)) [
      | inl l ↦ l
      | inr l ↦ absurd (false≢true (sym (ap (has_edge u v) (get_or_past faces f [] l)) ∙ e))
    ]

pub next_within : (points : List Point) (faces : List (List ℕ)) (h : ℤ) (f g : ℕ) → IsNext points faces h f g
    → (f < length faces) × (g < length faces)
next_within points faces h f g n =
    (edge_of_face n.upper n.lower faces f n.down.edge, edge_of_face n.lower n.upper faces g n.up.edge)

-- a write for one face
pub written : (R : ℕ → ℕ → Type 0) (next : List ℕ) (face : ℕ → ℕ) (at f g : ℕ) → f < length next → R f g → face at ≡ f
    → ((j : ℕ) → j < at → R (face j) (get_or next (face j) 0)) → (j : ℕ) → j < at + 1
    → R (face j) (get_or (set next f g) (face j) 0)
written R next face at f g l here same before j m =
    elim (cases_eq (face j) f) [
      | inl e ↦
          subst (λ (k : ℕ). R k (get_or (set next f g) k 0)) (sym e)
          (subst (λ (k : ℕ). R f k) (sym (get_or-set_same next f g 0 l)) here)
      | inr ne ↦
          elim (cases_lt j at) [
            | inl k ↦ subst (λ (k : ℕ). R (face j) k) (sym (get_or-set_other next f (face j) g 0 ne)) (before j k)
            | inr k ↦ let last : j ≡ at = omega arith in absurd (ne (ap face last ∙ same))
          ]
    ]
