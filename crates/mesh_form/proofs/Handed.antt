-- What a form has received, from step to step of a mesh that is handed to it.
use Rattle.std.proofs.Common.{ℕ, ◌≡◌, ◌≢◌, ◌<◌, ◌≤◌, ◌+◌, refl, ap, sym, ◌∙◌, subst, arith, List, [], ◌∷◌, ◌++◌, length, take}
use Rattle.std.proofs.Common.{get_or}
use Rattle.std.proofs.lemmas.List.{take_all, take_more, length-take-le}
use Rattle.geo_sign.specs.Point.{Point}
use Rattle.mesh_form.specs.declared.stage.Stage.{Stage}
use Rattle.mesh_form.specs.declared.stage.Stage.TheVariants.{Fresh, Begun, Ended}
use Rattle.mesh_form.specs.Received.{Received, IsFresh, HasPoints, HasFaces, HasPrefix, HasAll, with_point, with_face}
use Rattle.mesh_form.specs.Received.{with_end}

begun_not_ended : (s : Stage) → s ≡ Begun → s ≢ Ended
begun_not_ended s b e = let f : Begun ≡ Ended = sym b ∙ e in cc

fresh_not_ended : (s : Stage) → s ≡ Fresh → s ≢ Ended
fresh_not_ended s b e = let f : Fresh ≡ Ended = sym b ∙ e in cc

-- a list that is the front of k others
front_of : {A : Type 0} (xs ys : List A) (k : ℕ) → k ≤ length ys → xs ≡ take k ys → xs ≡ take (length xs) ys
front_of xs ys k l e = let n : length xs ≡ k = ap length e ∙ length-take-le k ys l in e ∙ ap (λ (i : ℕ). take i ys) (sym n)

-- ---- one more
pub point_more : (k : ℕ) (r s : Received) (points : List Point) (p : Point) → HasPoints k r points → k < length points
    → p ≡ get_or points k p → s ≡ with_point p r → HasPoints (k + 1) s points
point_more k r s points p h l at e =
    let front : r.points ++ p ∷ [] ≡ take (k + 1) points =
    ap (λ (t : List Point). t ++ p ∷ []) h.front
    ∙ (ap (λ (q : Point). take k points ++ q ∷ []) at ∙ sym (take_more points k p l)) in
    subst (λ (x : Received). HasPoints (k + 1) x points) (sym e)
    (record { stage = h.stage; due = h.due; within = omega arith; front = front; no_faces = h.no_faces })

pub face_more : (k : ℕ) (r s : Received) (points : List Point) (faces : List (List ℕ)) → HasFaces k r points faces
    → k < length faces → s ≡ with_face (get_or faces k []) r → HasFaces (k + 1) s points faces
face_more k r s points faces h l e =
    let front : r.faces ++ get_or faces k [] ∷ [] ≡ take (k + 1) faces =
    ap (λ (t : List (List ℕ)). t ++ get_or faces k [] ∷ []) h.front ∙ sym (take_more faces k [] l) in
    subst (λ (x : Received). HasFaces (k + 1) x points faces) (sym e)
    (record {
      stage = h.stage;
      points_due = h.points_due;
      all_points = h.all_points;
      due = h.due;
      within = omega arith;
      front = front;
    })

-- ---- at the end
pub prefix_of_fresh : (r : Received) (points : List Point) (faces : List (List ℕ)) → IsFresh r → HasPrefix r points faces
prefix_of_fresh r points faces h =
    record {
      stage = fresh_not_ended r.stage h.stage;
      front_points = front_of r.points points 0 (omega arith) h.no_points;
      front_faces = front_of r.faces faces 0 (omega arith) h.no_faces;
      in_turn = λ l. absurd (omega (arith, ap length h.no_faces));
    }

pub prefix_of_faces : (r : Received) (points : List Point) (faces : List (List ℕ)) (k : ℕ) → HasFaces k r points faces
    → HasPrefix r points faces
prefix_of_faces r points faces k h =
    record {
      stage = begun_not_ended r.stage h.stage;
      front_points =
          front_of r.points points (length points) (omega arith)
          (h.all_points ∙ sym (take_all (length points) points (omega arith)));
      front_faces = front_of r.faces faces k h.within h.front;
      in_turn = λ l. h.all_points;
    }

-- an end that is refused leaves the prefix
pub prefix_of_refused : (r s : Received) (ps points : List Point) (fs faces : List (List ℕ)) → HasFaces (length fs) r ps fs
    → ps ≡ points → fs ≡ faces → s ≡ r → HasPrefix s points faces
prefix_of_refused r s ps points fs faces h e f same =
    subst (λ (x : Received). HasPrefix x points faces) (sym same)
    (subst (λ (qs : List Point). HasPrefix r qs faces) e
    (subst (λ (gs : List (List ℕ)). HasPrefix r ps gs) f (prefix_of_faces r ps fs (length fs) h)))

pub all_of_faces : (r s : Received) (ps points : List Point) (fs faces : List (List ℕ)) → HasFaces (length fs) r ps fs
    → ps ≡ points → fs ≡ faces → s ≡ with_end r → HasAll s points faces
all_of_faces r s ps points fs faces h e f same =
    let all_faces : r.faces ≡ fs = h.front ∙ take_all (length fs) fs (omega arith) in
    let full : HasAll (with_end r) ps fs = record {
      stage = refl;
      all_points = h.all_points;
      all_faces = all_faces;
      points_due = h.points_due;
      faces_due = h.due;
    } in
    subst (λ (x : Received). HasAll x points faces) (sym same)
    (subst (λ (qs : List Point). HasAll (with_end r) qs faces) e (subst (λ (gs : List (List ℕ)). HasAll (with_end r) ps gs) f full))
