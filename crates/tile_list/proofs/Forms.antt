-- Texts with no corner and no tile in front, and the end of a list.
--
-- What was read of a line is what any tile in front of the text has there: a coordinate ends at its end (coordinate_code), and a name at
-- the first space (behind_name). So if the next part is missing, no tile is in front of the text.
use Rattle.std.proofs.Common.{ℕ, ◌≡◌, ◌≢◌, ◌<◌, ◌≤◌, ◌+◌, ◌*◌, ◌-◌, ◌^◌, ◌==◌, refl, ap, sym, subst, ◌∙◌, arith, ℤ, pos, negsuc}
use Rattle.std.proofs.Common.{◌||◌, inl, inr}
use Rattle.std.proofs.Common.{List, [], ◌∷◌, ◌++◌, append_assoc, Bool, true, false, get_or, length, None, codes}
use Rattle.std.proofs.Math.Seq.{get_or-append_seam}
use Rattle.std.proofs.lemmas.Bool.{false≢true, and_parts, or_cases, leb-true, eqb-true}
use Rattle.std.proofs.lemmas.List.Sums.{AllPass-from_list_all}
use Rattle.std.proofs.lemmas.Str.{IsUtf8-from_ascii}
use Rattle.std.proofs.lemmas.Str.Ascii.{IsAscii-from_all}
use Rattle.std.specs.Bool.{OnTrue}
use Rattle.std.specs.Char.{is_ascii_alphanumeric}
use Rattle.std.specs.Int.{is_in_range}
use Rattle.std.specs.Int.Signed.{mag}
use Rattle.std.specs.List.{flat_map, list_all}
use Rattle.std.specs.Prelude.{nat_le, slice_index}
use Rattle.std.specs.Str.{IsUtf8}
use Rattle.geo_sign.specs.Numbers.{IsBetween}
use Rattle.line_text.specs.Numbers.{counted, signed_ended, BeginsWithNone, Lacks}
use Rattle.line_text.specs.Refusals.{line_after, AreCountedRows, IsBehindEnd}
use Rattle.line_text.specs.declared.refusal.LineRefusal.{LineRefusal}
use Rattle.line_text.specs.declared.refusal.LineRefusal.TheVariants.{BadLine}
use Rattle.line_text.proofs.Codes.{IsCode, behind_same, code_fewer, one_split}
use Rattle.line_text.proofs.Parts.{number_good, rows_good}
use Rattle.line_text.proofs.SignedTokens.{signed_code}
use Rattle.tile_list.specs.Entries.{corner_fields, entry_line, is_file_name_byte, tile_line}
use Rattle.tile_list.specs.Entries.{IsBoxedCorner, IsBoxedTile, IsCornerCoordinate, IsEntry, IsFileName}
use Rattle.tile_list.specs.Refusals.{AtEntries, IsRefusedTiles}
use Rattle.tile_list.specs.declared.entry.Corner.{Corner}
use Rattle.tile_list.specs.declared.entry.Entry.{Entry}
use Rattle.tile_list.specs.declared.entry.TileLine.{TileLine}
use Rattle.tile_list.specs.declared.read.TheConstants.{TILE_LIMIT}

-- ---- corners
small : (z : ℤ) → IsCornerCoordinate z → mag z < 2 ^ 63
small (pos n) le = omega arith
small (negsuc n) le = omega arith

coordinate_code : (end : ℕ) → end < 45 → IsCode IsCornerCoordinate (λ z. signed_ended z end)
coordinate_code end low = code_fewer IsCornerCoordinate (λ z. mag z < 2 ^ 63) (λ z. signed_ended z end) small (signed_code end low)

corner_parts : (p : Corner) (end : ℕ) (r : List ℕ)
    → corner_fields p end ++ r ≡ signed_ended p.x 32 ++ (signed_ended p.y 32 ++ (signed_ended p.z end ++ r))
corner_parts p end r = grind (arith, append_assoc)

-- what is behind a corner
corner_behind : (end : ℕ) → end < 45 → (p q : Corner) (r s : List ℕ) → IsBoxedCorner p → IsBoxedCorner q
    → corner_fields p end ++ r ≡ corner_fields q end ++ s → r ≡ s
corner_behind end low p q r s a b e =
    let x = coordinate_code 32 (omega arith) p.x q.x _ _ a.0 b.0 (sym (corner_parts p end r) ∙ (e ∙ corner_parts q end s)) in
    let y = coordinate_code 32 (omega arith) p.y q.y _ _ a.1 b.1 x.1 in
    (coordinate_code end low p.z q.z r s a.2 b.2 y.1).1

pub no_second : (text behind : List ℕ) (x : ℤ) (end : ℕ) → IsCornerCoordinate x → text ≡ signed_ended x 32 ++ behind
    → BeginsWithNone IsCornerCoordinate (λ z. signed_ended z 32) behind
    → BeginsWithNone IsBoxedCorner (λ p. corner_fields p end) text
no_second text behind x end form is none = λ p tail h e.
    let first = coordinate_code 32 (omega arith) x p.x behind _ form h.0 (sym is ∙ (e ∙ corner_parts p end tail)) in
    none p.y (signed_ended p.z end ++ tail) h.1 first.1

pub no_third : (text behind last : List ℕ) (x y : ℤ) (end : ℕ) → end < 45 → IsCornerCoordinate x → IsCornerCoordinate y
    → text ≡ signed_ended x 32 ++ behind → behind ≡ signed_ended y 32 ++ last
    → BeginsWithNone IsCornerCoordinate (λ z. signed_ended z end) last
    → BeginsWithNone IsBoxedCorner (λ p. corner_fields p end) text
no_third text behind last x y end low form_x form_y is then_is none = λ p tail h e.
    let first = coordinate_code 32 (omega arith) x p.x behind _ form_x h.0 (sym is ∙ (e ∙ corner_parts p end tail)) in
    let second = coordinate_code 32 (omega arith) y p.y last _ form_y h.1 (sym then_is ∙ first.1) in
    none p.z tail h.2 second.1

-- ---- names
some : (xs : List ℕ) (b : Bool) → b ≡ (length xs == 0) → b ≡ false → 0 < length xs
some [] b e f = absurd (cc)
some (x ∷ xs) b e f = omega arith

pub named : (name : List ℕ) (b c : Bool) → b ≡ (length name == 0) → b ≡ false → length name ≤ 255 → slice_index name 0 ≢ 46
    → c ≡ list_all is_file_name_byte name → OnTrue c (IsFileName name)
named name b false e f short shown is = tt
named name b true e f short shown is = record { some = some name b e f; short = short; shown = shown; plain = sym is }

in_range : (low high c : ℕ) → is_in_range low high c ≡ true → c ≤ high
in_range low high c h = leb-true c high (and_parts (nat_le low c) (nat_le c high) h).1

letter_small : (c : ℕ) → is_ascii_alphanumeric c ≡ true → c < 128
letter_small c h = elim (or_cases (is_in_range 48 57 c || is_in_range 65 90 c) (is_in_range 97 122 c) h) [
  | inl d ↦ elim (or_cases (is_in_range 48 57 c) (is_in_range 65 90 c) d) [
    | inl e ↦ omega (arith, in_range 48 57 c e)
    | inr e ↦ omega (arith, in_range 65 90 c e)
  ]
  | inr e ↦ omega (arith, in_range 97 122 c e)
]

sign_small : (c : ℕ) → ((c == 46) || ((c == 95) || (c == 45))) ≡ true → c < 128
sign_small c h = elim (or_cases (c == 46) ((c == 95) || (c == 45)) h) [
  | inl e ↦ omega (arith, eqb-true c 46 e)
  | inr d ↦ elim (or_cases (c == 95) (c == 45) d) [
    | inl e ↦ omega (arith, eqb-true c 95 e)
    | inr e ↦ omega (arith, eqb-true c 45 e)
  ]
]

name_byte_small : (c : ℕ) → is_file_name_byte c ≡ true → c < 128
name_byte_small c h = elim (or_cases (is_ascii_alphanumeric c) ((c == 46) || ((c == 95) || (c == 45))) h) [
  | inl e ↦ letter_small c e
  | inr e ↦ sign_small c e
]

name_byte_shown : (c : ℕ) → is_file_name_byte c ≡ true → c ≡ 32 → ⊥
name_byte_shown c h e = absurd (false≢true (subst (λ (n : ℕ). is_file_name_byte n ≡ true) e h))

name_lacks : (name : List ℕ) → IsFileName name → Lacks 32 name
name_lacks name h k l e = name_byte_shown (get_or name k 0) (AllPass-from_list_all is_file_name_byte name h.plain k 0 l) e

pub name_utf8 : (name : List ℕ) → IsFileName name → IsUtf8 name
name_utf8 name h =
    IsUtf8-from_ascii name (IsAscii-from_all name (λ k d l. name_byte_small (get_or name k d)
    (AllPass-from_list_all is_file_name_byte name h.plain k d l)))

-- ---- tiles
abbrev pub IsTileEntry : TileLine → Type 0
IsTileEntry tile = IsFileName tile.file.now × IsBoxedTile tile

abbrev tile_word : List ℕ
tile_word = 116 ∷ 105 ∷ 108 ∷ 101 ∷ 32 ∷ []

tile_parts : (t : TileLine) (r : List ℕ)
    → tile_line t ++ r ≡ tile_word ++ (t.file.now ++ (32 ∷ (corner_fields t.low 32 ++ (corner_fields t.high 10 ++ r))))
tile_parts t r = grind (arith, append_assoc)

-- what is behind the word
behind_word : (text behind tail : List ℕ) (t : TileLine) → text ≡ tile_word ++ behind → text ≡ tile_line t ++ tail
    → behind ≡ t.file.now ++ (32 ∷ (corner_fields t.low 32 ++ (corner_fields t.high 10 ++ tail)))
behind_word text behind tail t is e = behind_same tile_word behind _ (sym is ∙ (e ∙ tile_parts t tail))

pub no_name : (text behind : List ℕ) → text ≡ tile_word ++ behind → Lacks 32 behind → BeginsWithNone IsTileEntry tile_line text
no_name text behind is lacks = λ t tail h e.
    let at = behind_word text behind tail t is e in
    let rest = corner_fields t.low 32 ++ (corner_fields t.high 10 ++ tail) in
    subst (λ (b : List ℕ). Lacks 32 b) at lacks (length t.file.now) (long t.file.now rest)
    (get_or-append_seam t.file.now 32 rest 0)
  where
    long : (xs ys : List ℕ) → length xs < length (xs ++ 32 ∷ ys)
    long [] ys = omega arith
    long (x ∷ xs) ys = omega (arith, long xs ys)

-- the name is that before the first space, and so is what is behind it
behind_name : (text behind file rest tail : List ℕ) (t : TileLine) → text ≡ tile_word ++ behind → behind ≡ file ++ (32 ∷ rest)
    → Lacks 32 file → IsFileName t.file.now → text ≡ tile_line t ++ tail
    → (file ≡ t.file.now) × (rest ≡ corner_fields t.low 32 ++ (corner_fields t.high 10 ++ tail))
behind_name text behind file rest tail t is then_is lacks named e =
    one_split 32 file t.file.now rest _ lacks (name_lacks t.file.now named) (sym then_is ∙ behind_word text behind tail t is e)

pub bad_name : (text behind file rest : List ℕ) → text ≡ tile_word ++ behind → behind ≡ file ++ (32 ∷ rest) → Lacks 32 file
    → ¬ IsFileName file → BeginsWithNone IsTileEntry tile_line text
bad_name text behind file rest is then_is lacks bad = λ t tail h e.
    bad (subst (λ (n : List ℕ). IsFileName n) (sym (behind_name text behind file rest tail t is then_is lacks h.0 e).0) h.0)

pub no_low : (text behind file rest : List ℕ) → text ≡ tile_word ++ behind → behind ≡ file ++ (32 ∷ rest) → Lacks 32 file
    → BeginsWithNone IsBoxedCorner (λ p. corner_fields p 32) rest → BeginsWithNone IsTileEntry tile_line text
no_low text behind file rest is then_is lacks none = λ t tail h e.
    none t.low _ h.1.0 (behind_name text behind file rest tail t is then_is lacks h.0 e).1

pub no_high : (text behind file rest last : List ℕ) (low : Corner) → text ≡ tile_word ++ behind → behind ≡ file ++ (32 ∷ rest)
    → Lacks 32 file → IsBoxedCorner low → rest ≡ corner_fields low 32 ++ last
    → BeginsWithNone IsBoxedCorner (λ p. corner_fields p 10) last → BeginsWithNone IsTileEntry tile_line text
no_high text behind file rest last low is then_is lacks boxed at none = λ t tail h e.
    none t.high tail h.1.1
    (corner_behind 32 (omega arith) low t.low last _ boxed h.1.0
    (sym at ∙ (behind_name text behind file rest tail t is then_is lacks h.0 e).1))

-- ---- the end
pub at_end : (tiles : ℕ) (text rest last : List ℕ) (list : List Entry) → IsBetween 1 TILE_LIMIT tiles
    → text ≡ counted (codes "tiles ") tiles ++ rest → AreCountedRows IsEntry None (2 * tiles - 1) list
    → rest ≡ flat_map entry_line list ++ last → ¬ (last ≡ []) → IsRefusedTiles text (BadLine (2 * tiles - 1 + 2))
at_end tiles text rest last list between front rows lines more =
    let line : 2 * tiles - 1 + 2 ≡ line_after 2 (2 * tiles - 1) = omega (arith, between.0, between.1) in
    let r : LineRefusal = BadLine (2 * tiles - 1 + 2) in
    number_good (codes "tiles ") (codes "tiles ") 1 TILE_LIMIT 1 tiles text rest r (λ n t. AtEntries (2 * n - 1) t r) refl between front
    (rows_good IsEntry entry_line None (2 * tiles - 1) 2 rest last list r (λ _ t. IsBehindEnd (line_after 2 (2 * tiles - 1)) t r) rows
    lines (more, ap BadLine line))
