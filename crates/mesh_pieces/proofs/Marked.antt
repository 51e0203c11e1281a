-- The faces with a mark, one number after another.
use Rattle.std.proofs.Common.{ℕ, ◌≡◌, ◌+◌, ◌≤◌, ◌++◌, refl, ap, sym, ◌∙◌, arith, Bool, true, false, cond, List, [], ◌∷◌, length, get_or, map}
use Rattle.std.proofs.lemmas.Bool.{false≢true}
use Rattle.std.proofs.lemmas.List.{map-append, length-map}
use Rattle.mesh.specs.Marks.{marked}
use Rattle.mesh.proofs.Vertices.{filter_below_more, length_filter_below}
use Rattle.mesh_edges.specs.Edges.{face_at}
use Rattle.mesh_pieces.specs.Pieces.{kept_faces}

-- one face more
pub faces_more : (faces : List (List ℕ)) (kept : List Bool) (f : ℕ) (b : Bool) (g : List ℕ) (old new : List (List ℕ))
    → b ≡ get_or kept f false → g ≡ face_at faces f → old ≡ map (face_at faces) (marked kept f)
    → new ≡ old ++ cond b (g ∷ []) [] → new ≡ map (face_at faces) (marked kept (f + 1))
faces_more faces kept f b g old new eb eg was pushed =
    pushed
    ∙ (ap (λ (t : List (List ℕ)). t ++ cond b (g ∷ []) []) was
    ∙ (ap (λ (t : List (List ℕ)). map (face_at faces) (marked kept f) ++ t) (last b (get_or kept f false) eb)
    ∙ (sym (map-append (face_at faces) (marked kept f) (cond (get_or kept f false) (f ∷ []) []))
    ∙ ap (map (face_at faces)) (sym (filter_below_more (λ u. get_or kept u false) f)))))
  where
    last : (a d : Bool) → a ≡ d → cond a (g ∷ []) [] ≡ map (face_at faces) (cond d (f ∷ []) [])
    last true true e = ap (λ (h : List ℕ). h ∷ []) eg
    last false false e = refl
    last true false e = absurd (false≢true (sym e))
    last false true e = absurd (false≢true e)

-- they are no more than all
pub few_kept : (faces new : List (List ℕ)) (kept : List Bool) → new ≡ kept_faces faces kept → length new ≤ length faces
few_kept faces new kept e =
    omega (
      arith,
      ap length e,
      length-map (marked kept (length faces)) (face_at faces),
      length_filter_below (λ u. get_or kept u false) (length faces),
    )
