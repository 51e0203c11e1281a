-- The first line and the stamp are refused in one way, and good ones are not refused; tokens that are no digest, lines that are
-- no place.
use Rattle.std.proofs.Common.{ℕ, ◌≡◌, ◌-◌, refl, ap, sym, subst, ◌∙◌, arith, ℤ, to_z, of_z, w64, Option, Some, None, IfNone, Ok}
use Rattle.std.proofs.Common.{List, ◌∷◌, ◌++◌, length, get_or, length-append}
use Rattle.std.proofs.lemmas.List.{get_or-append_right}
use Rattle.geo_sign.specs.Point.{Point, point, IsWithin}
use Rattle.hex.specs.Hex.{encode_lower, decode_sized}
use Rattle.hex.proofs.HexLemmas.{decode_sized-encode_lower}
use Rattle.line_text.specs.Numbers.{signed_ended, Lacks, BeginsWithNone}
use Rattle.line_text.specs.declared.refusal.LineRefusal.{LineRefusal}
use Rattle.line_text.proofs.Codes.{behind_same, one_split, none_behind}
use Rattle.line_text.proofs.Fronts.{cut_or_bad_same}
use Rattle.line_text.proofs.Parts.{IsOnce, IsPassed, part_once, part_passed, word_once, word_passed, number_once, number_passed}
use Rattle.certificate.specs.declared.stamp.TheConstants.{UNIT_LIMIT}
use Rattle.mesh_ply.specs.Texts.{IsCoordinate, point_line}
use Rattle.mesh_ply.proofs.MeshForms.{point_is, own_place}
use Rattle.mesh_ply.proofs.MeshCodes.{point_code}
use Rattle.certificate.specs.Stamps.{StampView, IsDigest, IsFixed, IsStamp, IsVersion}
use Rattle.cert_text.specs.Texts.{stamped_title, scan_word, unit_word, scanner_word, scan_line, place_line}
use Rattle.cert_text.specs.Texts.{fixed_line, stamp_text, version_text}
use Rattle.cert_text.specs.Refusals.{RefusedLine, RefusedStamp, RefusedVersion}
use Rattle.cert_text.proofs.StampCodes.{scan_code, scan_parts, stamp_parts, stamped_parts, digits_lack}
use Rattle.geo_sign.specs.declared.point.TheConstants.{BOX_LIMIT, DATA_LIMIT}
use Rattle.geo_sign.proofs.Bounds.{data_in_box}

-- ---- the stamp
refused_stamp_once : IsOnce RefusedStamp
refused_stamp_once =
    part_once IsDigest scan_line scan_code (RefusedLine IsDigest scan_line 2) _ (λ t r s h k. cut_or_bad_same 2 t r s h.1 k.1)
    (λ t r h. h.0) (λ _ _.
    number_once unit_word 1 UNIT_LIMIT 3 (λ _. RefusedLine IsFixed fixed_line 4) (omega arith)
    (λ _ _ t r s h k. cut_or_bad_same 4 t r s h.1 k.1))

stamp_passed : (text rest : List ℕ) (v : StampView) → IsStamp v → text ≡ stamp_text v ++ rest → IsPassed RefusedStamp text
stamp_passed text rest v w e =
    part_passed IsDigest scan_line scan_code (RefusedLine IsDigest scan_line 2) _ (λ t r h. h.0) text _ v.digest w.digest
    (e ∙ stamp_parts v rest)
    (number_passed unit_word 1 UNIT_LIMIT 3 v.unit (λ _. RefusedLine IsFixed fixed_line 4) _ _ (omega arith) w.unit refl
    (λ r h. h.0 v.fixed rest w.fixed refl))

-- ---- the first line and the stamp
pub version_once : IsOnce RefusedVersion
version_once text r s h k = word_once stamped_title 1 RefusedStamp refused_stamp_once text r s h.1 k.1

pub version_passed : (text : List ℕ) (r : LineRefusal) → RefusedVersion text r → BeginsWithNone IsVersion version_text text
version_passed text r h None rest w e = h.0 rest e
version_passed text r h (Some v) rest w e =
    word_passed stamped_title 1 RefusedStamp text _ (e ∙ stamped_parts v rest) (stamp_passed _ rest v w refl) r h.1

-- ---- lines that are not of their form
-- a token that is no digest's digits
pub no_digest : (text behind token rest : List ℕ) → text ≡ scan_word ++ behind → behind ≡ token ++ (10 ∷ rest) → Lacks 10 token
    → ((digest : List ℕ) → IsDigest digest → ¬ (token ≡ encode_lower digest)) → BeginsWithNone IsDigest scan_line text
no_digest text behind token rest is cut lacks none = grind (arith, one_split, digits_lack, behind_same, scan_parts)

-- a line without an end
pub no_digest_line : (text behind : List ℕ) → text ≡ scan_word ++ behind → Lacks 10 behind
    → BeginsWithNone IsDigest scan_line text
no_digest_line text behind is lacks =
    λ digest more h e. absurd
    (lacks_not (encode_lower digest) more behind lacks (behind_same scan_word _ _ (sym is ∙ (e ∙ scan_parts digest more))))
  where
    lacks_not : (front more behind : List ℕ) → Lacks 10 behind → behind ≡ front ++ (10 ∷ more) → ⊥
    lacks_not front more behind lacks e =
        let none : length front - length front ≡ 0 = omega arith in
        lacks (length front) (omega (arith, ap (λ (t : List ℕ). length t) e, length-append front (10 ∷ more)))
        (ap (λ (t : List ℕ). get_or t (length front) 0) e
        ∙ (get_or-append_right front (10 ∷ more) (length front) (length front) 0 refl (omega arith)
        ∙ ap (λ (i : ℕ). get_or (10 ∷ more) i 0) none))

-- a point of the box that is no data point
pub not_data : (text rest : List ℕ) (p : Point) → IsWithin BOX_LIMIT p → text ≡ point_line p ++ rest → ¬ IsWithin DATA_LIMIT p
    → BeginsWithNone (IsWithin DATA_LIMIT) point_line text
not_data text rest p box is out = grind (arith, point_code, data_in_box)

-- three coordinates of the box, as the code has their bits, that are no data point
pub no_data : (t0 t1 t2 t3 : List ℕ) (x y z : ℤ) → IsCoordinate x → IsCoordinate y → IsCoordinate z
    → t0 ≡ signed_ended x 32 ++ t1 → t1 ≡ signed_ended y 32 ++ t2 → t2 ≡ signed_ended z 10 ++ t3
    → ¬ IsWithin DATA_LIMIT (point (to_z w64 (of_z w64 x)) (to_z w64 (of_z w64 y)) (to_z w64 (of_z w64 z)))
    → BeginsWithNone (IsWithin DATA_LIMIT) point_line t0
no_data t0 t1 t2 t3 x y z a b c e0 e1 e2 out =
    let own = own_place (point (to_z w64 (of_z w64 x)) (to_z w64 (of_z w64 y)) (to_z w64 (of_z w64 z))) x y z a b c refl in
    not_data t0 t3 (point x y z) (record { x_within = a; y_within = b; z_within = c })
    (point_is (point x y z) x y z t0 t1 t2 t3 refl e0 e1 e2)
    (λ h. out (subst (λ (p : Point). IsWithin DATA_LIMIT p) (sym own) h))

-- what a digest's digits decode to
pub decoded : (token digest : List ℕ) → IsDigest digest → token ≡ encode_lower digest → decode_sized token 32 ≡ Ok digest
decoded token digest h e = ap (λ (t : List ℕ). decode_sized t 32) e ∙ decode_sized-encode_lower digest 32 h.0 h.1

-- behind the word stands no place
pub none_fixed : {A : Type 0} (o : Option A) (text behind : List ℕ) → text ≡ scanner_word ++ behind
    → IfNone o (BeginsWithNone IsFixed place_line behind) → IfNone o (BeginsWithNone IsFixed fixed_line text)
none_fixed (Some x) text behind is none = tt
none_fixed None text behind is none = none_behind IsFixed scanner_word place_line text behind is none
