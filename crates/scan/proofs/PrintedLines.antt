-- The lines of a printed scan, cut into tokens.
--
-- A decimal, with its sign, is some bytes of which none is white space (number_word), and behind it stands a space or the
-- line feed. So a token is cut off there, and the next begins one byte further on (word_token). Three such cuts are the
-- coordinates (point_cut), and one for each number are the rest of the line (numbers_cut); line_cut is both. The places are
-- sums of lengths, and where the line ends is its length further on (line_length).
use Rattle.std.proofs.Common.{◌≡◌, ℕ, zero, suc, ◌+◌, ◌<◌, ◌≤◌, ◌^◌, true, false, List, [], ◌∷◌, ◌++◌, length, get_or, All}
use Rattle.std.proofs.Common.{decimal, ℤ, pos, negsuc, unsigned_abs, refl, ap, ◌∙◌, arith, append_assoc, length-append}
use Rattle.std.specs.Fmt.{signed_decimal}
use Rattle.std.proofs.lemmas.Bool.Decides.{nat_tests}
use Rattle.std.proofs.lemmas.Fmt.{decimal_is_IsNumeral, decimal_nonempty}
use Rattle.std.proofs.lemmas.Str.Parse.{digit_at}
use Rattle.std.proofs.lemmas.List.{get_or_default}
use Rattle.std.proofs.lemmas.List.Elements.{All-head, All-tail}
use Rattle.geo_sign.specs.Point.{Point, IsWithin}
use Rattle.ply_rows.specs.Tokens.{Token, is_white_space, tokens_from}
use Rattle.ply_rows.proofs.TokenLemmas.{tokens_token}
use Rattle.num_text.specs.Separators.{space, line_feed}
use Rattle.scan.specs.PlainForm.{coordinates, spaced, line}
use Rattle.geo_sign.specs.declared.point.TheConstants.{DATA_LIMIT}

-- ---- printed numbers are tokens

above_white : (b : ℕ) → 33 ≤ b → is_white_space b ≡ false
above_white b le = grind (arith, nat_tests)

-- a token's bytes: some, and no white space
record IsWord (word : List ℕ) : Type 0 where
  some : 0 < length word
  whole : All (λ b. is_white_space b ≡ false) word

decimal_whole : (n : ℕ) → n < 2 ^ 64 → All (λ b. is_white_space b ≡ false) (decimal n)
decimal_whole n fits k d lt =
    let digit = digit_at (decimal n) k ((decimal_is_IsNumeral n fits).0).1 lt in
    ap is_white_space (get_or_default (decimal n) k d 0 lt) ∙ above_white (get_or (decimal n) k 0) (omega (arith, digit.0))

decimal_word : (n : ℕ) → n < 2 ^ 64 → IsWord (decimal n)
decimal_word n fits = record { some = decimal_nonempty n fits; whole = decimal_whole n fits }

minus_whole : (n : ℕ) → n < 2 ^ 64 → All (λ b. is_white_space b ≡ false) (45 ∷ decimal n)
minus_whole n fits zero d lt = refl
minus_whole n fits (suc k) d lt = decimal_whole n fits k d (omega arith)

number_word : (z : ℤ) → unsigned_abs z ≤ DATA_LIMIT → IsWord (signed_decimal z)
number_word (pos n) small = decimal_word n (omega arith)
number_word (negsuc n) small = record { some = omega arith; whole = minus_whole (suc n) (omega arith) }

abbrev pub token : ℕ → List ℕ → Token
token place bytes = record { place = place; bytes = bytes }

word_token : (place : ℕ) (word : List ℕ) (b : ℕ) (rest : List ℕ) → IsWord word → is_white_space b ≡ true
    → tokens_from place (word ++ b ∷ rest) ≡ token place word ∷ tokens_from (place + length word + 1) rest
word_token place word b rest is white = tokens_token place word b rest is.some is.whole white

-- ---- coordinates

abbrev pub y_place : ℕ → Point → ℕ
y_place place p = place + length (signed_decimal p.x) + 1

abbrev pub z_place : ℕ → Point → ℕ
z_place place p = y_place place p + length (signed_decimal p.y) + 1

-- behind the byte that ends the coordinates
abbrev pub end_place : ℕ → Point → ℕ
end_place place p = z_place place p + length (signed_decimal p.z) + 1

abbrev pub point_tokens : ℕ → Point → List Token → List Token
point_tokens place p more =
    token place (signed_decimal p.x) ∷ token (y_place place p) (signed_decimal p.y)
    ∷ token (z_place place p) (signed_decimal p.z) ∷ more

pub coordinates-append : (p : Point) (rest : List ℕ)
    → coordinates p ++ rest ≡ signed_decimal p.x ++ (space ∷ (signed_decimal p.y ++ (space ∷ (signed_decimal p.z ++ rest))))
coordinates-append p rest = simp append_assoc

point_cut : (place : ℕ) (p : Point) (b : ℕ) (rest : List ℕ) → IsWithin DATA_LIMIT p → is_white_space b ≡ true
    → tokens_from place (coordinates p ++ b ∷ rest) ≡ point_tokens place p (tokens_from (end_place place p) rest)
point_cut place p b rest within white = grind (arith, coordinates-append, word_token, number_word)

-- ---- numbers behind coordinates

-- the byte before what is left of a line: a space, or the line feed if no number is left
abbrev pub end_byte : List ℕ → ℕ
end_byte [] = line_feed
end_byte (n ∷ ns) = space

-- what stands behind that byte
abbrev pub behind : List ℕ → List ℕ → List ℕ
behind [] rest = rest
behind (n ∷ ns) rest = decimal n ++ (end_byte ns ∷ behind ns rest)

end_white : (ns : List ℕ) → is_white_space (end_byte ns) ≡ true
end_white [] = refl
end_white (n ∷ ns) = refl

spaced_behind : (ns rest : List ℕ) → spaced ns ++ (line_feed ∷ rest) ≡ end_byte ns ∷ behind ns rest
spaced_behind [] rest = refl
spaced_behind (n ∷ ns) rest = grind (arith, append_assoc, spaced_behind ns rest)

pub line-append : (p : Point) (ns rest : List ℕ) → line p ns ++ rest ≡ coordinates p ++ (end_byte ns ∷ behind ns rest)
line-append p ns rest = grind (arith, append_assoc, spaced_behind)

abbrev pub next_place : ℕ → ℕ → ℕ
next_place place n = place + length (decimal n) + 1

-- behind the line
abbrev pub numbers_end : ℕ → List ℕ → ℕ
numbers_end place [] = place
numbers_end place (n ∷ ns) = numbers_end (next_place place n) ns

abbrev pub line_end : ℕ → Point → List ℕ → ℕ
line_end place p ns = numbers_end (end_place place p) ns

abbrev pub number_tokens : ℕ → List ℕ → List Token
number_tokens place [] = []
number_tokens place (n ∷ ns) = token place (decimal n) ∷ number_tokens (next_place place n) ns

-- numbers that a line may have
abbrev pub Fit : List ℕ → Type 0
Fit ns = All (λ n. n < 2 ^ 64) ns

pub numbers_cut : (place : ℕ) (ns rest : List ℕ) → Fit ns
    → tokens_from place (behind ns rest) ≡ number_tokens place ns ++ tokens_from (numbers_end place ns) rest
numbers_cut place [] rest fit = refl
numbers_cut place (n ∷ ns) rest fit =
    word_token place (decimal n) (end_byte ns) (behind ns rest) (decimal_word n (All-head (λ n. n < 2 ^ 64) n ns fit))
    (end_white ns)
    ∙ ap (λ (ts : List Token). token place (decimal n) ∷ ts)
    (numbers_cut (next_place place n) ns rest (All-tail (λ n. n < 2 ^ 64) n ns fit))

pub line_cut : (place : ℕ) (p : Point) (ns rest : List ℕ) → IsWithin DATA_LIMIT p → Fit ns
    → tokens_from place (line p ns ++ rest)
    ≡ point_tokens place p (number_tokens (end_place place p) ns ++ tokens_from (line_end place p ns) rest)
line_cut place p ns rest within fit = grind (arith, line-append, point_cut, end_white, numbers_cut)

numbers_length : (place : ℕ) (ns : List ℕ) → numbers_end place ns ≡ place + length (spaced ns)
numbers_length place [] = omega arith
numbers_length place (n ∷ ns) =
    omega (arith, numbers_length (next_place place n) ns, length-append (space ∷ decimal n) (spaced ns))

pub length-coordinates : (place : ℕ) (p : Point) → end_place place p ≡ place + length (coordinates p) + 1
length-coordinates place p = grind (arith, length-append)

pub line_length : (place : ℕ) (p : Point) (ns : List ℕ) → line_end place p ns ≡ place + length (line p ns)
line_length place p ns = grind (arith, numbers_length, length-coordinates, length-append)
