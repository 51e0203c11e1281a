-- The mesh with a vertex for each umbrella is a copy in which no directed edge occurs twice.
--
-- A half edge of the new faces begins at the number of its umbrella. Numbers are in the order of the old vertices, so the smallest corner
-- of a face stays the first. Two half edges that begin and end at the same new vertices have the same umbrellas at both ends, so they are
-- one.
use Rattle.std.proofs.Common.{ℕ, zero, suc, ◌≡◌, ◌≢◌, ◌+◌, ◌-◌, ◌*◌, ◌/◌, ◌%◌, ◌<◌, ◌≤◌, ◌⊎◌, inl, inr, refl, ap, sym, ◌∙◌, subst, arith}
use Rattle.std.proofs.Common.{true, List, [], ◌∷◌, length, get_or, map}
use Rattle.std.specs.List.{All}
use Rattle.std.proofs.lemmas.Bool.{cases_lt, cases_eq}
use Rattle.std.proofs.lemmas.Bool.Decides.{nat_tests}
use Rattle.std.proofs.lemmas.List.{get_or-map, get_or_default, length-map, same_lists}
use Rattle.mesh.specs.Meshes.{IsFace, is_vertex_of}
use Rattle.mesh_edges.specs.Edges.{face_at}
use Rattle.mesh_edges.specs.HalfEdges.{start, behind, around, IsTwin, ArePaired}
use Rattle.mesh_edges.specs.Umbrellas.{AreDivided}
use Rattle.mesh_edges.proofs.Paired.{start_at}
use Rattle.mesh_edges.proofs.Corners.{parts, ahead_behind, behind_in}
use Rattle.mesh_pieces.specs.Copies.{IsNonDescending, IsCornerOf}
use Rattle.mesh_pieces.specs.Vertices.{AreVerticesOf, ArePlaced, AreRenumbered, fan_number}
use Rattle.mesh_pieces.specs.Splits.{AreSingle}
use Rattle.mesh_pieces.proofs.Edges.{single_by_halves}

-- numbers do not descend, also over several steps
descends_not : (xs : List ℕ) → IsNonDescending xs → (i d : ℕ) → i + d < length xs → get_or xs i 0 ≤ get_or xs (i + d) 0
descends_not xs order i zero l = omega (arith, ap (λ (k : ℕ). get_or xs k 0) (plus_none i))
  where
    plus_none : (i : ℕ) → i + 0 ≡ i
    plus_none i = omega arith
descends_not xs order i (suc d) l =
    omega (
      arith,
      descends_not xs order i d (omega arith),
      order (i + d) (omega arith),
      ap (λ (k : ℕ). get_or xs k 0) (one_more i d),
    )
  where
    one_more : (i d : ℕ) → i + suc d ≡ i + d + 1
    one_more i d = omega arith

module _ (n : ℕ) (faces : List (List ℕ)) (each : All (IsFace n) faces) (twins roots : List ℕ) (paired : ArePaired faces twins)
    (um : AreDivided faces twins roots) (numbers origin holders : List ℕ)
    (num : AreVerticesOf faces roots numbers origin holders) (new : List (List ℕ)) (re : AreRenumbered faces roots numbers new) where
  abbrev number : ℕ → ℕ
  number h = fan_number numbers roots h

  in_roots : (h : ℕ) → h < 3 * length faces → h < length roots
  in_roots h l = omega (arith, um.count, paired.count)

  in_twins : (h : ℕ) → h < 3 * length faces → h < length twins
  in_twins h l = omega (arith, paired.count)

  -- the root of a half edge holds its number
  number_in : (h : ℕ) → h < 3 * length faces → number h < length origin
  number_in h l =
      let p = num.all (get_or roots h 0) (in_roots' h l) (um.own h (in_twins h l)) in omega (arith, p.0, num.placed.same)
    where
      in_roots' : (h : ℕ) → h < 3 * length faces → get_or roots h 0 < length roots
      in_roots' h l = omega (arith, um.within h (in_twins h l), um.count)

  root_in : (h : ℕ) → h < 3 * length faces → get_or roots h 0 < length roots
  root_in h l = omega (arith, um.within h (in_twins h l), um.count)

  holder : (h : ℕ) → h < 3 * length faces → get_or holders (number h) 0 ≡ get_or roots h 0
  holder h l = (num.all (get_or roots h 0) (root_in h l) (um.own h (in_twins h l))).1

  -- its old vertex is that of the half edge
  origin_of : (h : ℕ) → h < 3 * length faces → get_or origin (number h) 0 ≡ start faces h
  origin_of h l =
      let at = num.placed.each (number h) (omega (arith, number_in h l, num.placed.same)) in
      at.vertex ∙ (ap (start faces) (holder h l) ∙ um.starts h (in_twins h l))

  one_root : (g h : ℕ) → g < 3 * length faces → h < 3 * length faces → number g ≡ number h → get_or roots g 0 ≡ get_or roots h 0
  one_root g h l m e = sym (holder g l) ∙ (ap (λ (w : ℕ). get_or holders w 0) e ∙ holder h m)

  -- the smaller old vertex has the smaller numbers
  number_less : (g h : ℕ) → g < 3 * length faces → h < 3 * length faces → start faces g < start faces h → number g < number h
  number_less g h l m less =
      elim (cases_lt (number g) (number h)) [
        | inl e ↦ e
        | inr e ↦
            let sum : number h + (number g - number h) ≡ number g = omega arith in
            absurd (omega (
              arith,
              descends_not origin num.placed.order (number h) (number g - number h) (omega (arith, number_in g l, sum)),
              ap (λ (k : ℕ). get_or origin k 0) sum,
              origin_of g l,
              origin_of h m,
            ))
      ]

  -- a half edge of the new faces begins at the number of its umbrella
  pub new_start : (h : ℕ) → h < 3 * length faces → start new h ≡ number h
  new_start h l =
      elim (parts h) [
        | inl e ↦ at 0 (omega arith) (omega arith) (h / 3) (omega arith) refl
        | inr (inl e) ↦ at 1 (omega arith) (omega arith) (h / 3) (omega arith) refl
        | inr (inr e) ↦ at 2 (omega arith) (omega arith) (h / 3) (omega arith) refl
      ]
    where
      corner : (f k : ℕ) → k < 3 → get_or (number (3 * f) ∷ number (3 * f + 1) ∷ number (3 * f + 2) ∷ []) k 0 ≡ number (3 * f + k)
      corner f zero m = let e : 3 * f ≡ 3 * f + 0 = omega arith in ap number e
      corner f (suc zero) m = refl
      corner f (suc (suc zero)) m = refl
      corner f (suc (suc (suc k))) m = absurd (omega arith)

      at : (k : ℕ) → k < 3 → h ≡ 3 * (h / 3) + k → (f : ℕ) → f < length faces → f ≡ h / 3 → start new h ≡ number h
      at k m e f b q =
          let here : h ≡ 3 * f + k = omega arith in
          ap (start new) here
          ∙ (start_at new f k m
          ∙ (ap (λ (g : List ℕ). get_or g k 0) (re.each f b) ∙ (corner f k m ∙ ap number (sym here))))

  behind_below : (h : ℕ) → h < 3 * length faces → behind h < 3 * length faces
  behind_below h l = omega (arith, behind_in n faces each twins paired h (in_twins h l), paired.count)

  -- no two half edges begin and end at the same new vertices
  pub halves_differ : (g h : ℕ) → g < 3 * length new → h < 3 * length new → start new g ≡ start new h
      → start new (behind g) ≡ start new (behind h) → g ≡ h
  halves_differ g h l m e far =
      let lg : g < 3 * length faces = omega (arith, re.count) in
      let lh : h < 3 * length faces = omega (arith, re.count) in
      um.apart g h (in_twins g lg) (in_twins h lh) (one_root g h lg lh (sym (new_start g lg) ∙ (e ∙ new_start h lh)))
      (one_root (behind g) (behind h) (behind_below g lg) (behind_below h lh)
      (sym (new_start (behind g) (behind_below g lg)) ∙ (far ∙ new_start (behind h) (behind_below h lh))))

  -- the half edges are paired as they were
  pub new_paired : ArePaired new twins
  new_paired =
      record {
        count = omega (arith, re.count, paired.count);
        each = λ h l.
            let was = paired.each h l in
            let here : h < 3 * length faces = omega (arith, paired.count) in
            let there : get_or twins h 0 < 3 * length faces = omega (arith, was.within, paired.count) in
            let next = behind_below h here in
            let goes : get_or roots (get_or twins h 0) 0 ≡ get_or roots (behind h) 0 =
            ap (λ (k : ℕ). get_or roots (get_or twins k 0) 0) (sym (ahead_behind h)) ∙ um.around (behind h) (in_twins (behind h) next) in
            record {
              within = was.within;
              other = was.other;
              back = was.back;
              edge =
                  new_start (get_or twins h 0) there
                  ∙ (ap (λ (r : ℕ). get_or numbers r 0) goes ∙ sym (new_start (behind h) next));
            };
      }

  -- each new vertex is a corner of a face
  pub new_used : (w : ℕ) → w < length origin → (f : ℕ) × IsCornerOf new w f
  new_used w l =
      let at = num.placed.each w (omega (arith, num.placed.same)) in
      let g : ℕ = get_or holders w 0 in
      let below : get_or holders w 0 < 3 * length faces = omega (arith, at.within, um.count, paired.count) in
      let starts : start new (get_or holders w 0) ≡ w =
      new_start (get_or holders w 0) below ∙ (ap (λ (r : ℕ). get_or numbers r 0) at.own ∙ at.number) in
      let f_in : get_or holders w 0 / 3 < length faces = omega arith in (
        get_or holders w 0 / 3,
        record {
          within = omega (arith, re.count, f_in);
          corner =
              corner (face_at new (get_or holders w 0 / 3)) _ _ _ (get_or holders w 0 % 3) w (omega arith) (re.each (get_or holders w 0 / 3) f_in)
              starts;
        },
      )
    where
      corner : (face : List ℕ) (a b c k w : ℕ) → k < 3 → face ≡ a ∷ b ∷ c ∷ [] → get_or face k 0 ≡ w → is_vertex_of w face ≡ true
      corner face a b c k w l e at =
          subst (λ (g : List ℕ). get_or g k 0 ≡ w → is_vertex_of w g ≡ true) (sym e) (has a b c k w l) at
        where
          has : (a b c k w : ℕ) → k < 3 → get_or (a ∷ b ∷ c ∷ []) k 0 ≡ w → is_vertex_of w (a ∷ b ∷ c ∷ []) ≡ true
          has a b c zero w l e = grind (arith, nat_tests, e)
          has a b c (suc zero) w l e = grind (arith, nat_tests, e)
          has a b c (suc (suc zero)) w l e = grind (arith, nat_tests, e)
          has a b c (suc (suc (suc k))) w l e = absurd (omega arith)

  -- a face of three old vertices
  copy_face : (f : ℕ) (g : List ℕ) → f < length faces → face_at faces f ≡ g → IsFace n g
      → (map (λ w. get_or origin w 0) (face_at new f) ≡ g) × IsFace (length origin) (face_at new f)
  copy_face f [] l e o = absurd o
  copy_face f (a ∷ []) l e o = absurd o
  copy_face f (a ∷ b ∷ []) l e o = absurd o
  copy_face f (a ∷ b ∷ c ∷ d ∷ x) l e o = absurd o
  copy_face f (a ∷ b ∷ c ∷ []) l e (ab, ac, bc, nb, nc) =
      let zero_is : 3 * f ≡ 3 * f + 0 = omega arith in
      let s : start faces (3 * f) ≡ a =
      ap (start faces) zero_is ∙ (start_at faces f 0 (omega arith) ∙ ap (λ (g : List ℕ). get_or g 0 0) e) in
      let t : start faces (3 * f + 1) ≡ b = start_at faces f 1 (omega arith) ∙ ap (λ (g : List ℕ). get_or g 1 0) e in
      let u : start faces (3 * f + 2) ≡ c = start_at faces f 2 (omega arith) ∙ ap (λ (g : List ℕ). get_or g 2 0) e in
      let l0 : 3 * f < 3 * length faces = omega arith in
      let l1 : 3 * f + 1 < 3 * length faces = omega arith in
      let l2 : 3 * f + 2 < 3 * length faces = omega arith in
      let oa : get_or origin (number (3 * f)) 0 ≡ a = origin_of (3 * f) l0 ∙ s in
      let ob : get_or origin (number (3 * f + 1)) 0 ≡ b = origin_of (3 * f + 1) l1 ∙ t in
      let oc : get_or origin (number (3 * f + 2)) 0 ≡ c = origin_of (3 * f + 2) l2 ∙ u in
      let three : List ℕ = number (3 * f) ∷ number (3 * f + 1) ∷ number (3 * f + 2) ∷ [] in (
        ap (map (λ w. get_or origin w 0)) (re.each f l) ∙ made oa ob oc,
        subst (λ (g : List ℕ). IsFace (length origin) g) (sym (re.each f l)) (
          number_less (3 * f) (3 * f + 1) l0 l1 (omega (arith, s, t)),
          number_less (3 * f) (3 * f + 2) l0 l2 (omega (arith, s, u)),
          (λ q. bc (sym ob ∙ (ap (λ (k : ℕ). get_or origin k 0) q ∙ oc))),
          number_in (3 * f + 1) l1,
          number_in (3 * f + 2) l2,
        ),
      )
    where
      made : {x y z p q r : ℕ} → x ≡ p → y ≡ q → z ≡ r → x ∷ y ∷ z ∷ [] ≡ p ∷ q ∷ r ∷ []
      made {x} {y} {z} {p} {q} {r} a b c =
          ap (λ (k : ℕ). k ∷ y ∷ z ∷ []) a ∙ (ap (λ (k : ℕ). p ∷ k ∷ z ∷ []) b ∙ ap (λ (k : ℕ). p ∷ q ∷ k ∷ []) c)

  pub new_corners : map (map (λ w. get_or origin w 0)) new ≡ faces
  new_corners =
      same_lists (map (map (λ w. get_or origin w 0)) new) faces (length-map new (map (λ w. get_or origin w 0)) ∙ re.count)
      (λ f d l.
      let inside : f < length faces = omega (arith, length-map new (map (λ w. get_or origin w 0)), re.count) in
      get_or-map (map (λ w. get_or origin w 0)) new f [] d (omega (arith, re.count))
      ∙ ((copy_face f (face_at faces f) inside refl (each f [] inside)).0 ∙ get_or_default faces f [] d inside))

  pub new_faces : All (IsFace (length origin)) new
  new_faces f d l =
      let inside : f < length faces = omega (arith, re.count) in
      subst (λ (g : List ℕ). IsFace (length origin) g) (get_or_default new f [] d l)
      (copy_face f (face_at faces f) inside refl (each f [] inside)).1

  pub new_single : AreSingle new
  new_single = single_by_halves (length origin) new new_faces halves_differ

  pub origin_in : All (λ v. v < n) origin
  origin_in w d l =
      let at = num.placed.each w (omega (arith, num.placed.same)) in
      let below : get_or holders w 0 < 3 * length faces = omega (arith, at.within, um.count, paired.count) in
      subst (λ (v : ℕ). v < n) (sym at.vertex ∙ get_or_default origin w 0 d l) (start_in (get_or holders w 0) below)
    where
      corner_in : (n : ℕ) (g : List ℕ) (k : ℕ) → IsFace n g → k < 3 → get_or g k 0 < n
      corner_in n [] k o l = absurd o
      corner_in n (a ∷ []) k o l = absurd o
      corner_in n (a ∷ b ∷ []) k o l = absurd o
      corner_in n (a ∷ b ∷ c ∷ d ∷ x) k o l = absurd o
      corner_in n (a ∷ b ∷ c ∷ []) zero (ab, ac, bc, nb, nc) l = omega arith
      corner_in n (a ∷ b ∷ c ∷ []) (suc zero) (ab, ac, bc, nb, nc) l = nb
      corner_in n (a ∷ b ∷ c ∷ []) (suc (suc zero)) (ab, ac, bc, nb, nc) l = nc
      corner_in n (a ∷ b ∷ c ∷ []) (suc (suc (suc k))) o l = absurd (omega arith)

      start_in : (h : ℕ) → h < 3 * length faces → start faces h < n
      start_in h m = corner_in n (face_at faces (h / 3)) (h % 3) (each (h / 3) [] (omega arith)) (omega arith)
