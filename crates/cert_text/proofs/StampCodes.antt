-- The first line of a certificate and its stamp say which they are.
use Rattle.std.proofs.Common.{ℕ, ◌≡◌, refl, ap, sym, subst, ◌∙◌, arith, true, ℤ, Option, Some, None, Ok, List, [], ◌∷◌, ◌++◌}
use Rattle.std.proofs.Common.{get_or, append_assoc}
use Rattle.std.proofs.lemmas.List.{get_or_append_left}
use Rattle.std.proofs.lemmas.Fmt.{decimal_is_IsNumeral, decimal_nonempty}
use Rattle.std.proofs.lemmas.Str.Parse.{digit_at}
use Rattle.std.specs.Fmt.{signed_decimal}
use Rattle.geo_sign.specs.Point.{Point, IsWithin}
use Rattle.hex.specs.Hex.{IsBytes, encode_lower, lower_digits, is_hex_digit, decode_of}
use Rattle.hex.proofs.HexLemmas.{decode_pairs-ok, decode_pairs-encode_with, decode_of-encode_lower, decode_of-same}
use Rattle.hex.proofs.HexLemmas.{IsDigits-lower_digits}
use Rattle.line_text.specs.Numbers.{counted, signed_ended, Lacks}
use Rattle.line_text.proofs.Codes.{IsCode, behind_same, one_split, counted_code, code_fewer}
use Rattle.mesh_ply.specs.Texts.{IsCoordinate, point_line}
use Rattle.mesh_ply.proofs.MeshCodes.{point_code, point_parts}
use Rattle.certificate.specs.Stamps.{StampView, IsDigest, IsFixed, IsStamp, IsVersion}
use Rattle.cert_text.specs.Texts.{title, stamped_title, scan_word, unit_word, none_line, scan_line, place_line, fixed_line}
use Rattle.cert_text.specs.Texts.{stamp_text, version_text}
use Rattle.geo_sign.specs.declared.point.TheConstants.{BOX_LIMIT, DATA_LIMIT}
use Rattle.geo_sign.proofs.Bounds.{data_in_box}

-- ---- the digest
-- no digit is a line feed
pub digits_lack : (digest : List ℕ) → IsBytes digest → Lacks 10 (encode_lower digest)
digits_lack digest bytes k lt e =
    let all =
    (decode_pairs-ok 0 (encode_lower digest) digest
    (decode_pairs-encode_with lower_digits IsDigits-lower_digits 0 digest bytes)).0 in
    let at_k : is_hex_digit (get_or (encode_lower digest) k 0) ≡ true = all k 0 lt in
    let at_feed : is_hex_digit 10 ≡ true = subst (λ (c : ℕ). is_hex_digit c ≡ true) e at_k in
    cc

pub same_digest : (digest other : List ℕ) → IsBytes digest → IsBytes other → encode_lower digest ≡ encode_lower other
    → digest ≡ other
same_digest digest other a b e =
    decode_of-same (encode_lower digest) digest other (decode_of-encode_lower digest a)
    (subst (λ (t : List ℕ). decode_of t ≡ Ok other) (sym e) (decode_of-encode_lower other b))

pub scan_parts : (digest r : List ℕ) → scan_line digest ++ r ≡ scan_word ++ (encode_lower digest ++ 10 ∷ r)
scan_parts digest r = grind (arith, append_assoc)

pub scan_code : IsCode IsDigest scan_line
scan_code v w r s a b e = grind (arith, one_split, digits_lack, behind_same, scan_parts, same_digest)

-- ---- the fixed scanner
pub data_code : IsCode (IsWithin DATA_LIMIT) point_line
data_code = code_fewer (IsWithin DATA_LIMIT) (IsWithin BOX_LIMIT) point_line data_in_box point_code

-- a number does not begin with a letter
no_letter : (z : ℤ) (rest : List ℕ) → IsCoordinate z → get_or (signed_decimal z ++ rest) 0 0 ≡ 110 → ⊥
no_letter z rest h e = grind (arith, decimal_nonempty, digit_at, decimal_is_IsNumeral, get_or_append_left)

pub no_none : (p : Point) (r s : List ℕ) → IsWithin DATA_LIMIT p → none_line ++ r ≡ point_line p ++ s → ⊥
unfolding none_line
no_none p r s h e =
    let box = data_in_box p h in
    let text : none_line ++ r ≡ signed_decimal p.x ++ ((32 ∷ []) ++ (signed_ended p.y 32 ++ (signed_ended p.z 10 ++ s))) =
    e ∙ (point_parts p s ∙ append_assoc (signed_decimal p.x) (32 ∷ []) (signed_ended p.y 32 ++ (signed_ended p.z 10 ++ s))) in
    no_letter p.x _ box.x_within (sym (ap (λ (t : List ℕ). get_or t 0 0) text))

pub place_code : IsCode IsFixed place_line
place_code None None r s a b e = (refl, behind_same none_line r s e)
place_code None (Some q) r s a b e = absurd (no_none q r s (b q refl) e)
place_code (Some p) None r s a b e = absurd (no_none p s r (a p refl) (sym e))
place_code (Some p) (Some q) r s a b e =
    let both = data_code p q r s (a p refl) (b q refl) e in
    (ap Some both.0, both.1)

pub fixed_code : IsCode IsFixed fixed_line
fixed_code v w r s a b e = grind (arith, place_code, behind_same, append_assoc)

-- ---- the whole stamp
pub stamp_with : List ℕ → ℕ → Option Point → StampView
stamp_with d u p = record { digest = d; unit = u; fixed = p }

pub stamp_parts : (s : StampView) (r : List ℕ)
    → stamp_text s ++ r ≡ scan_line s.digest ++ (counted unit_word s.unit ++ (fixed_line s.fixed ++ r))
stamp_parts s r = grind (arith, append_assoc)

pub stamp_code : IsCode IsStamp stamp_text
unfolding stamp_with
stamp_code v w r s a b e = grind (arith, scan_code, stamp_parts, counted_code, fixed_code)

pub stamped_parts : (s : StampView) (r : List ℕ) → version_text (Some s) ++ r ≡ stamped_title ++ (stamp_text s ++ r)
stamped_parts s r = append_assoc stamped_title (stamp_text s) r

-- the two titles differ in the number of the version
pub titles_differ : (r s : List ℕ) → title ++ r ≡ stamped_title ++ s → ⊥
unfolding title stamped_title
titles_differ r s e = grind arith

pub version_code : IsCode IsVersion version_text
version_code None None r s a b e = (refl, behind_same title r s e)
version_code None (Some w) r s a b e = absurd (titles_differ r (stamp_text w ++ s) (e ∙ stamped_parts w s))
version_code (Some v) None r s a b e = absurd (titles_differ s (stamp_text v ++ r) (sym e ∙ stamped_parts v r))
version_code (Some v) (Some w) r s a b e =
    let both = stamp_code v w r s a b (behind_same stamped_title _ _ (sym (stamped_parts v r) ∙ e ∙ stamped_parts w s)) in
    (ap Some both.0, both.1)
