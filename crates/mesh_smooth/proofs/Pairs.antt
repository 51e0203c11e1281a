-- One round keeps what was apart.
--
-- A pair of faces neither of which is asked next has the same points before and after the round. If neither was asked before, the pair
-- was known to be kept. Else it was tested: it is apart, or both faces were marked, and then they stand where they were before.
use Rattle.std.proofs.Common.{ℕ, ◌≡◌, ◌≢◌, ◌<◌, ◌≤◌, ◌*◌, ◌⊎◌, inl, inr, refl, sym, ◌∙◌, arith, Bool, true, false, List, length}
use Rattle.std.specs.Bool.{OnFalse}
use Rattle.std.proofs.lemmas.Bool.{cases_lt, false≢true}
use Rattle.geo_sign.specs.Point.{Point}
use Rattle.mesh.specs.Meshes.{point_at}
use Rattle.mesh_edges.specs.Edges.{face_at}
use Rattle.triangles.specs.declared.tree.HullTree.{HullTree}
use Rattle.triangles.specs.Gaps.{AreFacesApart}
use Rattle.mesh_flips.specs.Fields.{IsTreeOf}
use Rattle.mesh_flips.specs.Flips.{KeepsApart}
use Rattle.mesh_flips.proofs.Off.{apart_back}
use Rattle.mesh_smooth.specs.Rounds.{flag, IsStill, IsTested, AreAllTested, HasGoneBack, AreAsked, AreKeptApart, HasRest}
use Rattle.mesh_smooth.proofs.Still.{still_apart, still_held, unflagged_still}

-- whichever of the two is named first
tested_back : (points : List Point) (faces : List (List ℕ)) (crosses : List Bool) (i j : ℕ) → IsTested points faces crosses i j
    → IsTested points faces crosses j i
tested_back points faces crosses i j t =
    elim t [ inl apart ↦ inl (apart_back points (face_at faces i) (face_at faces j) apart) | inr marks ↦ inr (marks.1, marks.0) ]

-- a pair with an asked face is tested
tested : (points : List Point) (faces : List (List ℕ)) (asked crosses : List Bool) (i j : ℕ) → AreAllTested points faces asked crosses
    → i ≢ j → i < length faces → j < length faces → (s t : Bool) → flag asked i ≡ s → flag asked j ≡ t
    → ((s ≡ false) × (t ≡ false)) ⊎ IsTested points faces crosses i j
tested points faces asked crosses i j marked ne li lj false false ei ej = inl (refl, refl)
tested points faces asked crosses i j marked ne li lj true false ei ej = inr (marked i li ei j lj (λ e. ne (sym e)) (λ _. ej))
tested points faces asked crosses i j marked ne li lj false true ei ej =
    inr (tested_back points faces crosses j i (marked j lj ej i li ne (λ _. ei)))
tested points faces asked crosses i j marked ne li lj true true ei ej =
    elim (cases_lt i j) [
      | inl l ↦ inr (marked i li ei j lj (λ e. ne (sym e)) (λ m. absurd (omega (arith, l, m))))
      | inr l ↦ inr (tested_back points faces crosses j i (marked j lj ej i li ne (λ m. absurd (omega (arith, l, m)))))
    ]

module _ (before old new : List Point) (faces : List (List ℕ)) (asked crosses flags back next : List Bool)
    (moved : HasGoneBack before old new flags back) (asks : AreAsked faces back next) where
  still : (i : ℕ) → i < length faces → flag next i ≡ false → IsStill old new (face_at faces i)
  still i l e = unflagged_still before old new flags back (face_at faces i) moved (asks i l e)

  pub round_kept : AreKeptApart before old faces asked → AreAllTested old faces asked crosses
      → ((f : ℕ) → f < length faces → flag crosses f ≡ true → IsStill before new (face_at faces f))
      → AreKeptApart before new faces next
  round_kept kept marked there i j ne li lj ni nj apart =
      let si : IsStill old new (face_at faces i) = still i li ni in
      let sj : IsStill old new (face_at faces j) = still j lj nj in
      elim (tested old faces asked crosses i j marked ne li lj (flag asked i) (flag asked j) refl refl) [
        | inl none ↦ still_apart old new (face_at faces i) (face_at faces j) si sj (kept i j ne li lj none.0 none.1 apart)
        | inr t ↦ elim t [
          | inl found ↦ still_apart old new (face_at faces i) (face_at faces j) si sj found
          | inr marks ↦
              still_apart before new (face_at faces i) (face_at faces j) (there i li marks.0) (there j lj marks.1) apart
        ]
      ]

  -- the boxes of faces that are not asked next still contain them
  pub round_rest : (tree : HullTree) → IsTreeOf old faces tree → HasRest new faces tree next
  round_rest tree boxes =
      record {
        room = boxes.room;
        insert = λ i l e. let was = boxes.insert i l in (was.0, still_held old new was.0 (face_at faces i) (still i l e) was.1, was.2);
      }

-- at the end no face is asked
pub all_kept : (before points : List Point) (faces : List (List ℕ)) (asked : List Bool) → AreKeptApart before points faces asked
    → ((f : ℕ) → f < length faces → flag asked f ≡ false) → KeepsApart before points faces faces
all_kept before points faces asked kept none i j ne li lj apart = kept i j ne li lj (none i li) (none j lj) apart

-- at the beginning all are asked
pub all_asked : (before points : List Point) (faces : List (List ℕ)) (asked : List Bool)
    → ((f : ℕ) → f < length faces → flag asked f ≡ true) → AreKeptApart before points faces asked
all_asked before points faces asked each i j ne li lj ei ej apart = absurd (false≢true (sym ei ∙ each i li))

-- what follows where the answer is no
pub on_no : (b : Bool) {P Q : Type 0} → (P → Q) → OnFalse b P → OnFalse b Q
on_no true f h = tt
on_no false f h = f h
