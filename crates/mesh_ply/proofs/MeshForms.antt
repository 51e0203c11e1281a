-- Numbers in front of a text that are no point, no face; lines that make a point.
use Rattle.std.proofs.Common.{ℕ, ◌≡◌, ◌<◌, ◌^◌, sym, ◌∙◌, arith, ℤ, to_z, of_z, to_z-of_z, w64, List, [], ◌∷◌, ◌++◌}
use Rattle.std.proofs.lemmas.Int.{fits_signed_from_abs}
use Rattle.geo_sign.specs.Point.{Point, point, IsWithin}
use Rattle.line_text.specs.Numbers.{signed_ended, BeginsWithNone}
use Rattle.geo_sign.specs.Numbers.{IsFacetRow}
use Rattle.line_text.specs.Facets.{facet_fields}
use Rattle.mesh.specs.Meshes.{IsFace}
use Rattle.mesh_ply.specs.Texts.{IsCoordinate, point_line, face_line}
use Rattle.mesh_ply.proofs.MeshCodes.{coordinate_code, point_parts, row_of_face, face_row_code}
use Rattle.geo_sign.specs.declared.point.TheConstants.{BOX_LIMIT}

pub no_second : (text behind : List ℕ) (x : ℤ) → IsCoordinate x → text ≡ signed_ended x 32 ++ behind
    → BeginsWithNone IsCoordinate (λ z. signed_ended z 32) behind → BeginsWithNone (IsWithin BOX_LIMIT) point_line text
no_second text behind x form is none = λ p tail h e.
    let first = coordinate_code 32 (omega arith) x p.x behind _ form h.x_within (sym is ∙ (e ∙ point_parts p tail)) in
    none p.y (signed_ended p.z 10 ++ tail) h.y_within first.1

pub no_third : (text behind last : List ℕ) (x y : ℤ) → IsCoordinate x → IsCoordinate y → text ≡ signed_ended x 32 ++ behind
    → behind ≡ signed_ended y 32 ++ last → BeginsWithNone IsCoordinate (λ z. signed_ended z 10) last
    → BeginsWithNone (IsWithin BOX_LIMIT) point_line text
no_third text behind last x y form_x form_y is then_is none = λ p tail h e.
    let first = coordinate_code 32 (omega arith) x p.x behind _ form_x h.x_within (sym is ∙ (e ∙ point_parts p tail)) in
    let second = coordinate_code 32 (omega arith) y p.y last _ form_y h.y_within (sym then_is ∙ first.1) in
    none p.z tail h.z_within second.1

pub point_is : (p : Point) (x y z : ℤ) (t0 t1 t2 t3 : List ℕ) → p ≡ point x y z → t0 ≡ signed_ended x 32 ++ t1
    → t1 ≡ signed_ended y 32 ++ t2 → t2 ≡ signed_ended z 10 ++ t3 → t0 ≡ point_line p ++ t3
point_is p x y z t0 t1 t2 t3 is e0 e1 e2 = grind (arith, point_parts)

pub no_face_among : (text behind rest face : List ℕ) (count : ℕ) → count < 2 ^ 32 → text ≡ (51 ∷ 32 ∷ []) ++ behind
    → IsFacetRow face → behind ≡ facet_fields face 10 ++ rest → ¬ IsFace count face
    → BeginsWithNone (IsFace count) face_line text
no_face_among text behind rest face count few is row front out = grind (arith, face_row_code, row_of_face)

-- a coordinate's bits are its own
own_bits : (z : ℤ) → IsCoordinate z → to_z w64 (of_z w64 z) ≡ z
own_bits z h = to_z-of_z (fits_signed_from_abs w64 z (omega (arith, h)))

pub own_place : (p : Point) (x y z : ℤ) → IsCoordinate x → IsCoordinate y → IsCoordinate z
    → p ≡ point (to_z w64 (of_z w64 x)) (to_z w64 (of_z w64 y)) (to_z w64 (of_z w64 z)) → p ≡ point x y z
own_place p x y z a b c e = grind (arith, own_bits)
