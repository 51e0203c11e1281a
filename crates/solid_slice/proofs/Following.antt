-- Following next faces round a loop.
--
-- No two faces have one next face, so a walk that begins at a face that was not visited meets no visited face before it is
-- back at its first: the face before that one would have been visited too.
use Rattle.std.proofs.Common.{ℕ, ◌≡◌, ◌+◌, ◌-◌, ◌<◌, ◌≤◌, ◌==◌, refl, ap, sym, ◌∙◌, subst, arith, Bool, true, false, not, List}
use Rattle.std.proofs.Common.{[], ◌∷◌, ◌++◌, length, get_or, set, take, ℤ, inl, inr}
use Rattle.std.specs.List.{All, count_by}
use Rattle.std.proofs.lemmas.Bool.{false≢true, cases_lt, cases_eq}
use Rattle.std.proofs.lemmas.List.{get_or_past, get_or-set_same, get_or-set_other, length-set, length_push, get_or_append_left}
use Rattle.std.proofs.lemmas.List.{get_or_push, take-take}
use Rattle.std.proofs.lemmas.List.Elements.{All-push}
use Rattle.std.proofs.lemmas.List.Sums.{sum_by_push, sum_by_more, sum_by-take-le, sum_by-set}
use Rattle.geo_sign.specs.Point.{Point}
use Rattle.mesh_edges.specs.Edges.{has_edge, faces_with_edge, face_at}
use Rattle.solid_slice.specs.Cuts.{is_above, is_cut_at}
use Rattle.solid_slice.specs.Loops.{IsNext, IsLoop}
use Rattle.solid_slice.specs.Walks.{IsSuccession, is_visited, visits, IsBetweenLoops}
use Rattle.mesh_edges.proofs.Counts.{one_if, hit_no, hit_yes}
use Rattle.mesh_edges.proofs.FaceEdges.{same_edge}
use Rattle.solid_slice.proofs.Crossed.{cut_by_edge}
use Rattle.solid_slice.proofs.Matching.{edge_of_face}

-- two elements that pass, with equally many before them that pass, are one
same_rank : (p : List ℕ → Bool) (faces : List (List ℕ)) (f g : ℕ) → f < length faces → g < length faces
    → p (face_at faces f) ≡ true → p (face_at faces g) ≡ true → count_by p (take f faces) ≡ count_by p (take g faces) → f ≡ g
same_rank p faces f g l m pf pg e =
    elim (cases_lt f g) [
      | inl n ↦ absurd (omega (arith, more f g n l pf, e))
      | inr n ↦ elim (cases_lt g f) [ inl k ↦ absurd (omega (arith, more g f k m pg, e)) | inr k ↦ omega arith ]
    ]
  where
    more : (a b : ℕ) → a < b → a < length faces → p (face_at faces a) ≡ true
        → count_by p (take a faces) < count_by p (take b faces)
    more a b n l pa =
        let front : count_by p (take (a + 1) faces) ≤ count_by p (take b faces) =
        subst (λ (t : List (List ℕ)). count_by p t ≤ count_by p (take b faces)) (take-take (a + 1) b faces (omega arith))
        (sum_by-take-le (λ x. one_if (p x)) (take b faces) (a + 1)) in
        omega (arith, front, sum_by_more (λ x. one_if (p x)) faces a [] l, ap one_if pa)

-- no two faces have one next face
pub one_before : (points : List Point) (faces : List (List ℕ)) (h : ℤ) (f g n : ℕ) → IsNext points faces h f n
    → IsNext points faces h g n → f ≡ g
one_before points faces h f g n a b =
    let e =
    same_edge (is_above points h) (face_at faces n) a.lower a.upper b.lower b.upper a.up.edge b.up.edge a.up.from_below
    a.up.to_above b.up.from_below b.up.to_above in
    let edge : has_edge a.upper a.lower (face_at faces g) ≡ true =
    ap (λ (u : ℕ). has_edge u a.lower (face_at faces g)) e.1
    ∙ (ap (λ (u : ℕ). has_edge b.upper u (face_at faces g)) e.0 ∙ b.down.edge) in
    let rank : faces_with_edge a.upper a.lower (take g faces) ≡ faces_with_edge a.lower a.upper (take n faces) =
    ap (λ (u : ℕ). faces_with_edge u a.lower (take g faces)) e.1 ∙ (ap (λ (u : ℕ). faces_with_edge b.upper u (take g faces)) e.0 ∙ (b.rank
    ∙ (ap (λ (u : ℕ). faces_with_edge u b.upper (take n faces)) (sym e.0)
    ∙ ap (λ (u : ℕ). faces_with_edge a.lower u (take n faces)) (sym e.1)))) in
    same_rank (has_edge a.upper a.lower) faces f g (edge_of_face a.upper a.lower faces f a.down.edge)
    (edge_of_face a.upper a.lower faces g edge) a.down.edge edge (a.rank ∙ sym rank)

-- no face has two next faces
pub one_after : (points : List Point) (faces : List (List ℕ)) (h : ℤ) (f g n : ℕ) → IsNext points faces h f g
    → IsNext points faces h f n → g ≡ n
one_after points faces h f g n a b =
    let below = λ (w : ℕ). not (is_above points h w) in
    let e = same_edge below (face_at faces f) a.upper a.lower b.upper b.lower a.down.edge b.down.edge
    (ap not a.down.from_above) (ap not a.down.to_below) (ap not b.down.from_above) (ap not b.down.to_below) in
    let edge : has_edge a.lower a.upper (face_at faces n) ≡ true =
    ap (λ (u : ℕ). has_edge u a.upper (face_at faces n)) e.1
    ∙ (ap (λ (u : ℕ). has_edge b.lower u (face_at faces n)) e.0 ∙ b.up.edge) in
    let rank : faces_with_edge a.lower a.upper (take n faces) ≡ faces_with_edge a.upper a.lower (take f faces) =
    ap (λ (u : ℕ). faces_with_edge u a.upper (take n faces)) e.1
    ∙ (ap (λ (u : ℕ). faces_with_edge b.lower u (take n faces)) e.0 ∙ (sym b.rank
    ∙ (ap (λ (u : ℕ). faces_with_edge u b.lower (take f faces)) (sym e.0)
    ∙ ap (λ (u : ℕ). faces_with_edge a.upper u (take f faces)) (sym e.1)))) in
    same_rank (has_edge a.lower a.upper) faces g n (edge_of_face a.lower a.upper faces g a.up.edge)
    (edge_of_face a.lower a.upper faces n edge)
    a.up.edge edge (sym a.rank ∙ sym rank)

-- the next face of a cut face is cut
pub next_is_cut : (points : List Point) (faces : List (List ℕ)) (h : ℤ) (f g : ℕ) → IsNext points faces h f g
    → is_cut_at points faces h g ≡ true
next_is_cut points faces h f g n =
    cut_by_edge points h (face_at faces g) n.lower n.upper n.up.edge n.up.from_below n.up.to_above

pub visited_inside : (visited : List Bool) (f : ℕ) → is_visited visited f ≡ false → f < length visited
visited_inside visited f fresh =
    elim (cases_lt f (length visited)) [ inl l ↦ l | inr l ↦ absurd (false≢true (sym fresh ∙ get_or_past visited f true l)) ]

-- a visit of one face
pub visited_same : (visited : List Bool) (f : ℕ) → is_visited visited f ≡ false → is_visited (set visited f true) f ≡ true
visited_same visited f fresh = get_or-set_same visited f true true (visited_inside visited f fresh)

pub visited_other : (visited : List Bool) (f g : ℕ) → (g ≡ f → ⊥) → is_visited (set visited f true) g ≡ is_visited visited g
visited_other visited f g ne = get_or-set_other visited f g true true ne

pub visited_still : (visited : List Bool) (f g : ℕ) → is_visited visited f ≡ false → is_visited visited g ≡ true
    → is_visited (set visited f true) g ≡ true
visited_still visited f g fresh seen = grind (arith, visited_same, visited_other)

-- fewer are left
pub fewer_left : (visited : List Bool) (f : ℕ) → is_visited visited f ≡ false
    → count_by not (set visited f true) < count_by not visited
fewer_left visited f fresh =
    omega (
      arith,
      sum_by-set (λ b. one_if (not b)) visited f true true (visited_inside visited f fresh),
      ap (λ (b : Bool). one_if (not b)) fresh,
    )

-- where a walk from the first face stands, before it takes a face that is not visited
pub record IsFollowed (points : List Point) (faces : List (List ℕ)) (h : ℤ) (next : List ℕ) (old : List Bool) (start : ℕ)
    (visited : List Bool) (ring : List ℕ) (face : ℕ) : Type 0 where
  pub size : length visited ≡ length faces
  pub uncut : (f : ℕ) → is_cut_at points faces h f ≡ false → is_visited visited f ≡ true
  pub whole : (f : ℕ) → is_visited visited (get_or next f 0) ≡ true → (get_or next f 0 ≡ start → ⊥)
      → is_visited visited f ≡ true
  pub fresh : is_visited visited face ≡ false
  pub count : (f : ℕ) → count_by (λ g. g == f) ring + visits old f ≡ visits visited f
  pub least : All (λ f. start ≤ f) ring
  pub chain : (k : ℕ) → k + 1 < length ring → IsNext points faces h (get_or ring k 0) (get_or ring (k + 1) 0)
  pub begun : length ring ≡ 0 → face ≡ start
  pub first : 0 < length ring → get_or ring 0 0 ≡ start
  pub come : 0 < length ring
      → IsNext points faces h (get_or ring (length ring - 1) 0) face
      × (is_visited visited (get_or ring (length ring - 1) 0) ≡ true)

module _ (points : List Point) (faces : List (List ℕ)) (h : ℤ) (next : List ℕ) (old : List Bool) (start : ℕ)
    (succession : IsSuccession points faces h next) (smaller : (f : ℕ) → f < start → is_visited old f ≡ true)
    (visited : List Bool) (ring : List ℕ) (face : ℕ) (w : IsFollowed points faces h next old start visited ring face) where
  -- the face is cut, since it is not visited
  pub face_is_cut : is_cut_at points faces h face ≡ true
  face_is_cut = by (is_cut_at points faces h face) refl
    where
      by : (b : Bool) → is_cut_at points faces h face ≡ b → is_cut_at points faces h face ≡ true
      by true e = e
      by false e = absurd (false≢true (sym w.fresh ∙ w.uncut face e))

  pub to_next : IsNext points faces h face (get_or next face 0)
  to_next = succession.each face face_is_cut

  -- a face whose next face is this one, and is not the first, was visited
  before_this : (f : ℕ) → is_cut_at points faces h f ≡ true → get_or next f 0 ≡ face → (face ≡ start → ⊥)
      → is_visited visited f ≡ true
  before_this f cut e ne =
      let some : 0 < length ring =
      elim (cases_lt 0 (length ring)) [ inl l ↦ l | inr l ↦ absurd (ne (w.begun (omega arith))) ] in
      let last = w.come some in
      let n = subst (λ (g : ℕ). IsNext points faces h f g) e (succession.each f cut) in
      ap (is_visited visited) (one_before points faces h f (get_or ring (length ring - 1) 0) face n last.0) ∙ last.1

  -- the walk once its face is taken, but for where it goes on
  pub taken_uncut : (f : ℕ) → is_cut_at points faces h f ≡ false → is_visited (set visited face true) f ≡ true
  taken_uncut f e = visited_still visited face f w.fresh (w.uncut f e)

  pub taken_whole : (f : ℕ) → is_visited (set visited face true) (get_or next f 0) ≡ true → (get_or next f 0 ≡ start → ⊥)
      → is_visited (set visited face true) f ≡ true
  taken_whole f seen ne = by (is_cut_at points faces h f) refl
    where
      by : (b : Bool) → is_cut_at points faces h f ≡ b → is_visited (set visited face true) f ≡ true
      by false e = taken_uncut f e
      by true e =
          visited_still visited face f w.fresh
          (elim (cases_eq (get_or next f 0) face) [
            | inl is ↦ before_this f e is (λ s. ne (is ∙ s))
            | inr other ↦ w.whole f (sym (visited_other visited face (get_or next f 0) other) ∙ seen) ne
          ])

  pub taken_count : (f : ℕ) → count_by (λ g. g == f) (ring ++ face ∷ []) + visits old f ≡ visits (set visited face true) f
  taken_count f =
      elim (cases_eq f face) [
        | inl e ↦
            let now : visits (set visited face true) f ≡ 1 =
            ap one_if (ap (is_visited (set visited face true)) e ∙ visited_same visited face w.fresh) in
            let before : visits visited f ≡ 0 = ap one_if (ap (is_visited visited) e ∙ w.fresh) in
            omega (arith, now, before, w.count f, sum_by_push (λ g. one_if (g == f)) ring face, hit_yes face f (sym e))
        | inr ne ↦
            let same : visits (set visited face true) f ≡ visits visited f = ap one_if (visited_other visited face f ne) in
            omega (arith, same, w.count f, sum_by_push (λ g. one_if (g == f)) ring face, hit_no face f (λ e. ne (sym e)))
      ]

  pub start_below : start ≤ face
  start_below =
      elim (cases_lt face start) [
        | inr l ↦ l
        | inl l ↦
            let was : visits old face ≡ 1 = ap one_if (smaller face l) in
            let now : visits visited face ≡ 0 = ap one_if w.fresh in
            absurd (omega (arith, was, now, w.count face))
      ]

  pub taken_least : All (λ f. start ≤ f) (ring ++ face ∷ [])
  taken_least = All-push (λ f. start ≤ f) ring face w.least start_below

  last_taken : get_or (ring ++ face ∷ []) (length ring) 0 ≡ face
  last_taken = get_or_push ring face 0 (length ring) refl

  pub taken_first : get_or (ring ++ face ∷ []) 0 0 ≡ start
  taken_first =
      elim (cases_lt 0 (length ring)) [
        | inl l ↦ get_or_append_left ring (face ∷ []) 0 0 l ∙ w.first l
        | inr l ↦
            let none : length ring ≡ 0 = omega arith in
            ap (λ (i : ℕ). get_or (ring ++ face ∷ []) i 0) (sym none) ∙ (last_taken ∙ w.begun none)
      ]

  pub taken_chain : (k : ℕ) → k + 1 < length (ring ++ face ∷ [])
      → IsNext points faces h (get_or (ring ++ face ∷ []) k 0) (get_or (ring ++ face ∷ []) (k + 1) 0)
  taken_chain k l =
      let size = length_push ring face in
      let R = λ (f g : ℕ). IsNext points faces h f g in
      let here = get_or_append_left ring (face ∷ []) 0 k (omega (arith, size)) in
      elim (cases_lt (k + 1) (length ring)) [
        | inl m ↦
            subst (λ (f : ℕ). R f (get_or (ring ++ face ∷ []) (k + 1) 0)) (sym here)
            (subst (λ (g : ℕ). R (get_or ring k 0) g) (sym (get_or_append_left ring (face ∷ []) 0 (k + 1) m)) (w.chain k m))
        | inr m ↦
            let at : length ring ≡ k + 1 = omega (arith, size) in
            let there : get_or (ring ++ face ∷ []) (k + 1) 0 ≡ face = get_or_push ring face 0 (k + 1) at in
            let last : length ring - 1 ≡ k = omega arith in
            subst (λ (f : ℕ). R f (get_or (ring ++ face ∷ []) (k + 1) 0)) (sym here)
            (subst (λ (g : ℕ). R (get_or ring k 0) g) (sym there)
            (subst (λ (i : ℕ). R (get_or ring i 0) face) last (w.come (omega arith)).0))
      ]

  taken_last : get_or (ring ++ face ∷ []) (length (ring ++ face ∷ []) - 1) 0 ≡ face
  taken_last =
      let at : length (ring ++ face ∷ []) - 1 ≡ length ring = omega (arith, length_push ring face) in
      ap (λ (i : ℕ). get_or (ring ++ face ∷ []) i 0) at ∙ last_taken

  -- The walk goes on to a face that is not visited.
  pub goes_on : (get_or next face 0 ≡ start → ⊥)
      → IsFollowed points faces h next old start (set visited face true) (ring ++ face ∷ []) (get_or next face 0)
  goes_on ne =
      record {
        size = length-set visited face true ∙ w.size;
        uncut = taken_uncut;
        whole = taken_whole;
        fresh = by (is_visited (set visited face true) (get_or next face 0)) refl;
        count = taken_count;
        least = taken_least;
        chain = taken_chain;
        begun = λ none. absurd (omega (arith, length_push ring face));
        first = λ _. taken_first;
        come = λ _. (
          subst (λ (f : ℕ). IsNext points faces h f (get_or next face 0)) (sym taken_last) to_next,
          ap (is_visited (set visited face true)) taken_last ∙ visited_same visited face w.fresh,
        );
      }
    where
      by : (b : Bool) → is_visited (set visited face true) (get_or next face 0) ≡ b
          → is_visited (set visited face true) (get_or next face 0) ≡ false
      by false e = e
      by true e =
          elim (cases_eq (get_or next face 0) face) [
            | inl is ↦ absurd (false≢true (sym w.fresh ∙ before_this face face_is_cut is (λ s. ne (is ∙ s))))
            | inr other ↦
                absurd (false≢true
                (sym w.fresh ∙ w.whole face (sym (visited_other visited face (get_or next face 0) other) ∙ e) ne))
          ]

  -- The walk is back at its first face.
  pub closes : get_or next face 0 ≡ start → IsLoop points faces h (ring ++ face ∷ [])
  closes e =
      record {
        some = omega (arith, length_push ring face);
        next = taken_chain;
        closed =
            subst (λ (f : ℕ). IsNext points faces h f (get_or (ring ++ face ∷ []) 0 0)) (sym taken_last)
            (subst (λ (g : ℕ). IsNext points faces h face g) (e ∙ sym taken_first) to_next);
        smallest = subst (λ (n : ℕ). All (λ f. n ≤ f) (ring ++ face ∷ [])) (sym taken_first) taken_least;
      }

  pub between : get_or next face 0 ≡ start → IsBetweenLoops points faces h next (set visited face true)
  between e =
      record {
        size = length-set visited face true ∙ w.size;
        uncut = taken_uncut;
        whole = λ f seen. by f seen (is_cut_at points faces h f) refl;
      }
    where
      by : (f : ℕ) → is_visited (set visited face true) (get_or next f 0) ≡ true → (b : Bool) → is_cut_at points faces h f ≡ b
          → is_visited (set visited face true) f ≡ true
      by f seen false cut = taken_uncut f cut
      by f seen true cut =
          elim (cases_eq (get_or next f 0) start) [
            | inl is ↦
                let n = subst (λ (g : ℕ). IsNext points faces h f g) (is ∙ sym e) (succession.each f cut) in
                ap (is_visited (set visited face true)) (one_before points faces h f face (get_or next face 0) n to_next)
                ∙ visited_same visited face w.fresh
            | inr ne ↦ taken_whole f seen ne
          ]

-- a walk begins
pub begins : (points : List Point) (faces : List (List ℕ)) (h : ℤ) (next : List ℕ) (old : List Bool) (start : ℕ)
    → IsBetweenLoops points faces h next old → is_visited old start ≡ false
    → IsFollowed points faces h next old start old [] start
begins points faces h next old start b fresh = grind arith
