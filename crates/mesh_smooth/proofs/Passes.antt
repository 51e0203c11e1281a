-- Passes over the faces, after one face more.
use Rattle.std.proofs.Common.{ℕ, ◌≡◌, ◌≢◌, ◌<◌, ◌≤◌, ◌+◌, ◌*◌, ◌⊎◌, inl, inr, refl, sym, subst, ◌∙◌, arith, Bool, true, false, List, [], ◌∷◌, length, set, get_or, below_more}
use Rattle.std.specs.List.{Contains}
use Rattle.geo_sign.specs.Point.{Point}
use Rattle.mesh_edges.specs.Edges.{face_at}
use Rattle.triangles.specs.Hulls.{HoldsHull, AreOff}
use Rattle.triangles.proofs.Growth.{point_in}
use Rattle.triangles.specs.Trees.{IsInserted}
use Rattle.triangles.specs.declared.hull.Hull.{Hull}
use Rattle.triangles.specs.declared.tree.HullTree.{HullTree}
use Rattle.mesh_flips.specs.Fields.{HoldsFace, HasBox, IsTreeOf}
use Rattle.mesh_flips.proofs.Crossings.{same_or_not}
use Rattle.mesh_flips.proofs.Off.{apart_back, off_apart}
use Rattle.mesh_smooth.specs.Rounds.{flag, KeepsFlags, IsStill, IsTested, IsTestedAmong, AreTested, HasGoneBack}

-- a face that is tested against those near it is tested against all: the boxes of the others are off its own
pub near_tested : (points : List Point) (faces : List (List ℕ)) (tree : HullTree) (asked crosses : List Bool) (f : ℕ) (hull : Hull)
    (found : List ℕ) → IsTreeOf points faces tree → HoldsFace points hull (face_at faces f)
    → ((i : ℕ) (h : Hull) → i < 4 * tree.leaves → IsInserted tree i h → Contains found i ⊎ AreOff h hull)
    → IsTestedAmong points faces asked crosses found f → AreTested points faces asked crosses f
near_tested points faces tree asked crosses f hull found boxes holds near each j lj ne due =
    let was = boxes.insert j lj in
    elim (near j was.0 (omega (arith, lj, boxes.room)) was.2) [
      | inl has ↦ each j has lj ne due
      | inr off ↦ inl (apart_back points (face_at faces j) (face_at faces f) (off_apart points was.0 hull (face_at faces j) (face_at faces f) was.1 holds off))
    ]

-- one box more is inserted
pub boxes_more : (points : List Point) (faces : List (List ℕ)) (asked : List Bool) (old new : HullTree) (f : ℕ)
    → (flag asked f ≡ true → HasBox points faces new f) → ((i : ℕ) (h : Hull) → IsInserted old i h → IsInserted new i h)
    → ((k : ℕ) → k < length faces → (k < f) ⊎ (flag asked k ≡ false) → HasBox points faces old k)
    → (k : ℕ) → k < length faces → (k < f + 1) ⊎ (flag asked k ≡ false) → HasBox points faces new k
boxes_more points faces asked old new f here kept below k lk case =
    elim case [
      | inl l ↦ elim (same_or_not k f) [
        | inl s ↦ by (flag asked f) refl s
        | inr ne ↦ stays (below k lk (inl (omega (arith, l, ne))))
      ]
      | inr e ↦ stays (below k lk (inr e))
    ]
  where
    stays : HasBox points faces old k → HasBox points faces new k
    stays was = (was.0, was.1, kept k was.0 was.2)

    by : (b : Bool) → flag asked f ≡ b → k ≡ f → HasBox points faces new k
    by true e s = subst (λ (n : ℕ). HasBox points faces new n) (sym s) (here e)
    by false e s = stays (below k lk (inr (subst (λ (n : ℕ). flag asked n ≡ false) (sym s) e)))

module _ (points : List Point) (faces : List (List ℕ)) (asked : List Bool) where
  -- tested pairs stay so
  pub tested_more : (crosses more : List Bool) (i j : ℕ) → KeepsFlags crosses more → IsTested points faces crosses i j
      → IsTested points faces more i j
  tested_more crosses more i j kept t =
      elim t [ inl apart ↦ inl apart | inr marks ↦ inr (kept i marks.0, kept j marks.1) ]

  pub among_more : (crosses more : List Bool) (found : List ℕ) (f : ℕ) → KeepsFlags crosses more
      → IsTestedAmong points faces asked crosses found f → IsTestedAmong points faces asked more found f
  among_more crosses more found f kept t = λ j has lj ne due. tested_more crosses more f j kept (t j has lj ne due)

  pub all_more : (crosses more : List Bool) (f : ℕ) → KeepsFlags crosses more → AreTested points faces asked crosses f
      → AreTested points faces asked more f
  all_more crosses more f kept t = λ j lj ne due. tested_more crosses more f j kept (t j lj ne due)

-- a box that contains one of a face is one of the face
pub held_on : (points : List Point) (g h : Hull) (f : List ℕ) → HoldsHull g h → HoldsFace points h f → HoldsFace points g f
held_on points g h [] w holds = absurd holds
held_on points g h (a ∷ []) w holds = absurd holds
held_on points g h (a ∷ b ∷ []) w holds = absurd holds
held_on points g h (a ∷ b ∷ c ∷ d ∷ x) w holds = absurd holds
held_on points g h (a ∷ b ∷ c ∷ []) w (ha, hb, hc) = (point_in g h _ w ha, point_in g h _ w hb, point_in g h _ w hc)
