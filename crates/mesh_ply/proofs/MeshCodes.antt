-- The text of a mesh says which mesh it is.
use Rattle.std.proofs.Common.{ℕ, ◌≡◌, ◌<◌, ◌^◌, ap, sym, ◌∙◌, arith, ℤ, pos, negsuc, List, [], ◌∷◌, ◌++◌, length, append_assoc}
use Rattle.std.specs.List.{flat_map, All}
use Rattle.std.specs.Int.Signed.{mag}
use Rattle.std.proofs.lemmas.List.Elements.{All-weaker}
use Rattle.geo_sign.specs.Point.{Point, point, IsWithin}
use Rattle.line_text.specs.Numbers.{signed_ended, counted}
use Rattle.geo_sign.specs.Numbers.{IsFacetRow}
use Rattle.line_text.proofs.Codes.{IsCode, behind_same, counted_code, code_list, code_fewer}
use Rattle.line_text.proofs.SignedTokens.{signed_code}
use Rattle.line_text.proofs.FacetForms.{facet_code}
use Rattle.mesh.specs.Meshes.{IsFace, IsMesh}
use Rattle.mesh_ply.specs.Texts.{ply_line, ascii_format_line, vertex_word, x_line, y_line, z_line, face_word, list_line, header_end}
use Rattle.mesh_ply.specs.Texts.{IsCoordinate, point_line, face_line, mesh_text, IsPrinted}
use Rattle.geo_sign.specs.declared.point.TheConstants.{BOX_LIMIT}

small : (z : ℤ) → IsCoordinate z → mag z < 2 ^ 63
small (pos n) le = omega arith
small (negsuc n) le = omega arith

pub coordinate_code : (end : ℕ) → end < 45 → IsCode IsCoordinate (λ z. signed_ended z end)
coordinate_code end low = code_fewer IsCoordinate (λ z. mag z < 2 ^ 63) (λ z. signed_ended z end) small (signed_code end low)

pub point_parts : (p : Point) (r : List ℕ)
    → point_line p ++ r ≡ signed_ended p.x 32 ++ (signed_ended p.y 32 ++ (signed_ended p.z 10 ++ r))
point_parts p r = grind (arith, append_assoc)

pub point_code : IsCode (IsWithin BOX_LIMIT) point_line
point_code p q r s a b e =
    let x = coordinate_code 32 (omega arith) p.x q.x _ _ a.x_within b.x_within (sym (point_parts p r) ∙ e ∙ point_parts q s) in
    let y = coordinate_code 32 (omega arith) p.y q.y _ _ a.y_within b.y_within x.1 in
    let z = coordinate_code 10 (omega arith) p.z q.z r s a.z_within b.z_within y.1 in
    (ap (λ (n : ℤ). point n p.y p.z) x.0 ∙ ap (λ (n : ℤ). point q.x n p.z) y.0 ∙ ap (λ (n : ℤ). point q.x q.y n) z.0, z.1)

-- ---- faces
pub face_row_code : IsCode IsFacetRow face_line
face_row_code f g r s a b e = grind (arith, facet_code, behind_same, append_assoc)

-- the places of a valid mesh are numbers of 32 bits
pub row_of_face : (n : ℕ) → n < 2 ^ 32 → (f : List ℕ) → IsFace n f → IsFacetRow f
row_of_face n l [] o = absurd o
row_of_face n l (a ∷ []) o = absurd o
row_of_face n l (a ∷ b ∷ []) o = absurd o
row_of_face n l (a ∷ b ∷ c ∷ []) o = (o.0, o.1, o.2, omega (arith, o.3), omega (arith, o.4))
row_of_face n l (a ∷ b ∷ c ∷ d ∷ t) o = absurd o

pub face_code : (n : ℕ) → n < 2 ^ 32 → IsCode (IsFace n) face_line
face_code n few = code_fewer (IsFace n) IsFacetRow face_line (row_of_face n few) face_row_code

-- ---- the whole text
pub lines_of : (ps : List Point) (fs : List (List ℕ)) (r : List ℕ)
    → mesh_text ps fs ++ r
    ≡ ply_line ++ (ascii_format_line
    ++ (counted vertex_word (length ps)
    ++ (x_line ++ (y_line
    ++ (z_line ++ (counted face_word (length fs)
    ++ (list_line ++ (header_end ++ (flat_map point_line ps ++ (flat_map face_line fs ++ r))))))))))
lines_of ps fs r = simp append_assoc

-- what stands behind two texts is the same, and so are the meshes
pub mesh_code : (ps qs : List Point) (fs gs : List (List ℕ)) (r s : List ℕ) → IsPrinted ps fs → IsPrinted qs gs
    → mesh_text ps fs ++ r ≡ mesh_text qs gs ++ s → (ps ≡ qs) × (fs ≡ gs) × (r ≡ s)
mesh_code ps qs fs gs r s a b e =
    let t = sym (lines_of ps fs r) ∙ e ∙ lines_of qs gs s in
    let n =
    counted_code vertex_word (length ps) (length qs) _ _ (omega (arith, a.valid.few_points)) (omega (arith, b.valid.few_points))
    (behind_same ascii_format_line _ _ (behind_same ply_line _ _ t)) in
    let m =
    counted_code face_word (length fs) (length gs) _ _ (omega (arith, a.valid.few_faces)) (omega (arith, b.valid.few_faces))
    (behind_same z_line _ _ (behind_same y_line _ _ (behind_same x_line _ _ n.1))) in
    let points =
    code_list (IsWithin BOX_LIMIT) point_line point_code ps qs (flat_map face_line fs ++ r) (flat_map face_line gs ++ s) n.0
    a.boxed b.boxed (behind_same header_end _ _ (behind_same list_line _ _ m.1)) in
    let faces =
    code_list IsFacetRow face_line face_row_code fs gs r s m.0 (rows_of_mesh ps fs a.valid)
    (rows_of_mesh qs gs b.valid) points.1 in
    (points.0, faces.0, faces.1)
  where
    rows_of_mesh : (ps : List Point) (fs : List (List ℕ)) → IsMesh ps fs → All IsFacetRow fs
    rows_of_mesh ps fs m = All-weaker (IsFace (length ps)) IsFacetRow (row_of_face (length ps) m.few_points) fs m.each
