-- One flip, with all that it keeps.
use Rattle.std.proofs.Common.{ℕ, ◌≡◌, ◌+◌, ◌<◌, refl, sym, subst, arith, inl, inr, List, [], ◌∷◌, length}
use Rattle.std.specs.List.{All}
use Rattle.geo_sign.specs.Point.{Point}
use Rattle.triangles.specs.Trees.{IsInserted}
use Rattle.triangles.specs.declared.hull.Hull.{Hull}
use Rattle.triangles.specs.declared.tree.HullTree.{HullTree}
use Rattle.mesh_flips.specs.Turns.{IsTriangle}
use Rattle.mesh_flips.specs.Quads.{IsQuad, flipped}
use Rattle.mesh_flips.specs.Flips.{IsFlipped}
use Rattle.mesh_flips.specs.Clear.{IsFree}
use Rattle.mesh_flips.specs.Fields.{HoldsFace, HasBox, IsReady}
use Rattle.mesh_flips.specs.declared.quad.Quad.{Quad}
use Rattle.mesh_flips.proofs.Kept.{flip_triangles}
use Rattle.mesh_flips.proofs.Chains.{flipped_once}
use Rattle.mesh_flips.proofs.Crossings.{same_or_not, flip_apart, flip_boxes}
use Rattle.mesh_edges.specs.Edges.{face_at}
use Rattle.mesh_flips.proofs.Singles.{flip_single}

module _ (points : List Point) (old new : List (List ℕ)) (one other : ℕ) (q : Quad) (each : All (IsTriangle (length points)) old)
    (lie : IsQuad old one other q) (then : new ≡ flipped old one other q) where
  pub turned_flipped : IsFree points old one other q → IsFlipped points old new
  turned_flipped free =
      subst (λ (faces : List (List ℕ)). IsFlipped points old faces) (sym then)
      (record {
        flips = flipped_once old (flipped old one other q) one other q lie refl;
        apart = flip_apart points old one other q lie free;
        single = flip_single points (length points) old one other q each lie free;
      })

  pub turned_ready : (was mid is : HullTree) (h k : Hull) → IsReady points old was → HoldsFace points h (q.a ∷ q.d ∷ q.c ∷ [])
      → HoldsFace points k (q.d ∷ q.b ∷ q.c ∷ []) → IsInserted mid one h → IsInserted is other k
      → ((i : ℕ) (g : Hull) → IsInserted was i g → IsInserted mid i g) → ((i : ℕ) (g : Hull) → IsInserted mid i g → IsInserted is i g)
      → mid.leaves ≡ was.leaves → is.leaves ≡ mid.leaves → IsReady points new is
  turned_ready was mid is h k ready first second insert_one insert_other kept kept_on same same_on =
      subst (λ (faces : List (List ℕ)). IsReady points faces is) (sym then)
      (record {
        each = flip_triangles (length points) old one other q each lie;
        boxes =
            flip_boxes points old one other q was mid is h k lie ready.boxes first second insert_one insert_other kept kept_on same same_on;
      })

-- the box of one more face is inserted
pub insert_face : (points : List Point) (faces : List (List ℕ)) (old new : HullTree) (i : ℕ) (h : Hull)
    → HoldsFace points h (face_at faces i) → IsInserted new i h → ((k : ℕ) (g : Hull) → IsInserted old k g → IsInserted new k g)
    → ((k : ℕ) → k < i → HasBox points faces old k) → (k : ℕ) → k < i + 1 → HasBox points faces new k
insert_face points faces old new i h holds insert kept below k l =
    elim (same_or_not k i) [
      | inl e ↦
          (h, subst (λ (n : ℕ). HoldsFace points h (face_at faces n)) (sym e) holds, subst (λ (n : ℕ). IsInserted new n h) (sym e) insert)
      | inr ne ↦ let was = below k (omega arith) in (was.0, was.1, kept k was.0 was.2)
    ]
