-- Digits at the front of a text are the text of a number where they are plain.
--
-- The digits that are read write a number (AreRead), one more at a time (one_digit_more). Where the text of a number stands at
-- the front, before no digit, the digits are that text (digits_split), so they are plain (number_plain), write the number
-- (number_is), and any of them write no more (digits_within): where they pass 64 bits, no such text stands there.
use Rattle.std.proofs.Common.{ℕ, zero, suc, ◌≡◌, ◌+◌, ◌-◌, ◌*◌, ◌<◌, ◌≤◌, ◌^◌, refl, ap, sym, subst, ◌∙◌, arith, List, [], ◌∷◌}
use Rattle.std.proofs.Common.{◌++◌, length, get_or, take, drop, decimal, length-take-le, take-append-drop, get_or-drop, append-nil}
use Rattle.std.proofs.Math.ListN.{get_or-append}
use Rattle.std.specs.Int.{IsInRange}
use Rattle.std.specs.Char.{digit_value}
use Rattle.std.specs.Str.Parse.{AllDigits, digits_value, digits_value_after}
use Rattle.std.proofs.lemmas.List.{take_more}
use Rattle.std.proofs.lemmas.Int.Digits.{digits_value_more}
use Rattle.std.proofs.lemmas.Str.{digit_value_digit}
use Rattle.std.proofs.lemmas.Str.Parse.{IsNumeralModel, numerals_by_value, tells_digits, digit_at, digit_from_value}
use Rattle.std.proofs.lemmas.Str.Parse.{digits_value_short}
use Rattle.std.proofs.lemmas.Fmt.{decimal_is_IsNumeral, decimal_nonempty, decimal_digit, first_decimal, decimal-digits_value}
use Rattle.std.proofs.lemmas.Fmt.{decimal_injective, length-decimal-le}
use Rattle.line_text.specs.Numbers.{ended, BeginsWithNone}
use Rattle.geo_sign.specs.Numbers.{IsBetween}
use Rattle.line_text.specs.Tokens.{IsPlain}
use Rattle.line_text.proofs.Codes.{number_first, ended_is}

numerals : IsNumeralModel (AllDigits 10) (digits_value 10)
numerals = numerals_by_value (AllDigits 10) tells_digits

-- a printed number is plain
pub decimal_plain : (n : ℕ) → n < 2 ^ 64 → IsPlain (decimal n)
decimal_plain n lt =
    let some : 0 < length (decimal n) = decimal_nonempty n lt in
    let digit = digit_at (decimal n) 0 ((decimal_is_IsNumeral n lt).0).1 some in
    record { some = some; no_plus = λ e. omega (arith, e, digit.0); no_zero = λ e. by n refl e }
  where
    by : (m : ℕ) → m ≡ n → get_or (decimal n) 0 0 ≡ 48 → length (decimal n) ≡ 1
    by zero s e = ap (λ (k : ℕ). length (decimal k)) (sym s) ∙ ap (λ (t : List ℕ). length t) (decimal_digit 0 (omega arith))
    by (suc m) s e = absurd (omega (arith, first_decimal n (omega arith) lt, e))

pub plain_token : (token : List ℕ) (n : ℕ) → n < 2 ^ 64 → token ≡ decimal n → IsPlain token
plain_token token n lt e = subst (λ (t : List ℕ). IsPlain t) (sym e) (decimal_plain n lt)

-- the text of a number begins with a digit
pub first_digit : (n : ℕ) (rest : List ℕ) → n < 2 ^ 64 → IsInRange 48 57 (get_or (decimal n ++ rest) 0 0)
first_digit n rest lt =
    subst (λ (b : ℕ). IsInRange 48 57 b) (sym (get_or-append (decimal n) rest 0 0 (decimal_nonempty n lt)))
    (digit_at (decimal n) 0 ((decimal_is_IsNumeral n lt).0).1 (decimal_nonempty n lt))

-- ---- digits at the front of a text
-- the first byte is no digit, or there is none
abbrev pub Stops : List ℕ → Type 0
Stops rest = ¬ IsInRange 48 57 (get_or rest 0 0)

-- so many digits stand at the front and write this number
pub record AreRead (text : List ℕ) (count n : ℕ) : Type 0 where
  pub digits : AllDigits 10 (take count text)
  pub value : n ≡ digits_value 10 (take count text)

digits_push : (ds : List ℕ) (d : ℕ) → AllDigits 10 ds → IsInRange 48 57 d → AllDigits 10 (ds ++ d ∷ [])
digits_push [] d all is = (omega (arith, digit_value_digit d is, is.1), tt)
digits_push (c ∷ ds) d all is = (all.0, digits_push ds d all.1 is)

pub one_digit_more : (text : List ℕ) (count n d : ℕ) → count < length text → IsInRange 48 57 (get_or text count 0)
    → d ≡ get_or text count 0 - 48 → AreRead text count n → AreRead text (count + 1) (n * 10 + d)
one_digit_more text count n d lt here is so =
    record {
      digits =
          subst (λ (ds : List ℕ). AllDigits 10 ds) (sym (take_more text count 0 lt))
          (digits_push (take count text) (get_or text count 0) so.digits here);
      value =
          omega (arith, so.value, is, digit_value_digit (get_or text count 0) here, digits_value_more 10 text count lt);
    }

-- a few digits fit
pub digits_fit : (text : List ℕ) (count n k : ℕ) → count ≤ length text → count ≤ k → AreRead text count n → n < 10 ^ k
digits_fit text count n k there le so =
    omega (
      arith,
      so.value,
      digits_value_short numerals (take count text) k so.digits (omega (arith, length-take-le count text there, le)),
    )

le_after : (n : ℕ) (ds : List ℕ) → n ≤ digits_value_after 10 n ds
le_after n [] = omega arith
le_after n (c ∷ ds) = omega (arith, le_after (n * 10 + digit_value c) ds)

-- all digits are at least as many as some of them, and write at least their number
digits_grow : (start k : ℕ) (text ds rest : List ℕ) → text ≡ ds ++ rest → Stops rest → k ≤ length text
    → AllDigits 10 (take k text)
    → (k ≤ length ds) × (digits_value_after 10 start (take k text) ≤ digits_value_after 10 start ds)
digits_grow start zero text ds rest e stops le all = (omega arith, le_after start ds)
digits_grow start (suc k) [] ds rest e stops le all = absurd (omega arith)
digits_grow start (suc k) (x ∷ text) [] rest e stops le all =
    absurd (stops (subst (λ (t : List ℕ). IsInRange 48 57 (get_or t 0 0)) e (digit_from_value x all.0)))
digits_grow start (suc k) (x ∷ text) (d ∷ ds) rest e stops le all =
    let tails : text ≡ ds ++ rest = cc in
    let head : x ≡ d = cc in
    let more = digits_grow (start * 10 + digit_value x) k text ds rest tails stops (omega arith) all.1 in (
      omega (arith, more.0),
      subst (λ (c : ℕ). digits_value_after 10 (start * 10 + digit_value x) (take k text)
          ≤ digits_value_after 10 (start * 10 + digit_value c) ds) head more.1,
    )

-- digits at the front write at most the number whose text stands there
pub digits_within : (text rest : List ℕ) (count n m : ℕ) → count ≤ length text → AreRead text count n → m < 2 ^ 64 → Stops rest
    → text ≡ decimal m ++ rest → (count ≤ 20) × (n ≤ m)
digits_within text rest count n m le so fits stops e =
    let more = digits_grow 0 count text (decimal m) rest e stops le so.digits in (
      omega (arith, more.0, length-decimal-le 20 m (omega arith) (omega arith) fits),
      omega (arith, so.value, more.1, (decimal_is_IsNumeral m fits).1),
    )

-- so where they write more, or are too many, none stands there
pub past_bits : (text : List ℕ) (count n d : ℕ) → count < length text → IsInRange 48 57 (get_or text count 0)
    → d ≡ get_or text count 0 - 48 → AreRead text count n → ¬ (n * 10 + d < 2 ^ 64)
    → (m : ℕ) (rest : List ℕ) → m < 2 ^ 64 → Stops rest → ¬ (text ≡ decimal m ++ rest)
past_bits text count n d lt here is so past m rest fits stops e =
    let more =
    digits_within text rest (count + 1) (n * 10 + d) m (omega arith) (one_digit_more text count n d lt here is so) fits stops e in
    past (omega (arith, more.1))

pub too_many : (text : List ℕ) (count n : ℕ) → 20 ≤ count → count < length text → IsInRange 48 57 (get_or text count 0)
    → AreRead text count n → (m : ℕ) (rest : List ℕ) → m < 2 ^ 64 → Stops rest → ¬ (text ≡ decimal m ++ rest)
too_many text count n many lt here so m rest fits stops e =
    let more = one_digit_more text count n (get_or text count 0 - 48) lt here refl so in
    omega (arith, (digits_within text rest (count + 1) _ m (omega arith) more fits stops e).0)

-- digits end at the first byte that is none
digits_split : (a b r s : List ℕ) → AllDigits 10 a → AllDigits 10 b → Stops r → Stops s → a ++ r ≡ b ++ s
    → (a ≡ b) × (r ≡ s)
digits_split [] [] r s all each ends stops e = (refl, e)
digits_split [] (y ∷ b) r s all each ends stops e =
    absurd (ends (subst (λ (t : List ℕ). IsInRange 48 57 (get_or t 0 0)) (sym e) (digit_from_value y each.0)))
digits_split (x ∷ a) [] r s all each ends stops e =
    absurd (stops (subst (λ (t : List ℕ). IsInRange 48 57 (get_or t 0 0)) e (digit_from_value x all.0)))
digits_split (x ∷ a) (y ∷ b) r s all each ends stops e =
    let tails : a ++ r ≡ b ++ s = cc in
    let head : x ≡ y = cc in
    let same = digits_split a b r s all.1 each.1 ends stops tails in
    (ap (λ (n : ℕ). n ∷ a) head ∙ ap (λ (t : List ℕ). y ∷ t) same.0, same.1)

-- the digits end where they do
stops_behind : (text : List ℕ) (count : ℕ) → ¬ IsInRange 48 57 (get_or text count 0) → Stops (drop count text)
stops_behind text count ends h =
    ends (subst (λ (b : ℕ). IsInRange 48 57 b) (get_or-drop count text 0 0 ∙ ap (λ (i : ℕ). get_or text i 0) (omega arith)) h)

-- plain digits are the text of their number
pub number_is : (text behind : List ℕ) (count n : ℕ) → n < 2 ^ 64 → AreRead text count n → ¬ IsInRange 48 57 (get_or text count 0)
    → IsPlain (take count text) → behind ≡ drop count text → (n < 2 ^ 64) × (text ≡ decimal n ++ behind) × Stops behind
number_is text behind count n fits so ends plain e =
    let is : decimal n ≡ take count text =
    ap decimal so.value
    ∙ decimal-digits_value numerals (take count text) so.digits plain.some plain.no_zero (omega (arith, so.value)) in (
      fits,
      sym (take-append-drop count text) ∙ ap (λ (t : List ℕ). t ++ drop count text) (sym is)
          ∙ ap (λ (t : List ℕ). decimal n ++ t) (sym e),
      subst (λ (t : List ℕ). Stops t) (sym e) (stops_behind text count ends),
    )

-- and digits are plain where the text of a number stands
pub number_plain : (text rest : List ℕ) (count n m : ℕ) → AreRead text count n → ¬ IsInRange 48 57 (get_or text count 0)
    → m < 2 ^ 64 → Stops rest → text ≡ decimal m ++ rest → IsPlain (take count text)
number_plain text rest count n m so ends fits stops e =
    let same =
    digits_split (take count text) (decimal m) (drop count text) rest so.digits ((decimal_is_IsNumeral m fits).0).1
    (stops_behind text count ends) stops (take-append-drop count text ∙ e) in
    plain_token (take count text) m fits same.0

-- what stands at the front is one number
pub front_once : (m n : ℕ) (r s : List ℕ) → m < 2 ^ 64 → n < 2 ^ 64 → Stops r → Stops s → decimal m ++ r ≡ decimal n ++ s
    → (m ≡ n) × (r ≡ s)
front_once m n r s a b ends stops e =
    let same =
    digits_split (decimal m) (decimal n) r s ((decimal_is_IsNumeral m a).0).1 ((decimal_is_IsNumeral n b).0).1 ends stops e in
    (decimal_injective m n a b same.0, same.1)

-- the text of one number is that of the number in front, and nothing else
pub whole_number : (text behind : List ℕ) (n m : ℕ) → n < 2 ^ 64 → m < 2 ^ 64 → text ≡ decimal n ++ behind → Stops behind
    → text ≡ decimal m → behind ≡ []
whole_number text behind n m a b is stops e =
    (front_once n m behind [] a b stops (λ h. omega (arith, h.0)) (sym is ∙ (e ∙ sym (append-nil (decimal m))))).1

pub no_number : (text : List ℕ) → ((n : ℕ) (rest : List ℕ) → n < 2 ^ 64 → Stops rest → ¬ (text ≡ decimal n ++ rest)) → (m : ℕ)
    → m < 2 ^ 64 → ¬ (text ≡ decimal m)
no_number text none m fits e = none m [] fits (λ h. omega (arith, h.0)) (e ∙ sym (append-nil (decimal m)))

-- ---- numbers at the front of a text
-- the text of a number and its end, as what stands at the front
ended_front : (text rest : List ℕ) (n end : ℕ) → text ≡ ended n end ++ rest → text ≡ decimal n ++ (end ∷ rest)
ended_front text rest n end e = e ∙ ended_is n end rest

pub other_end : (text behind : List ℕ) (m end limit : ℕ) → end < 48 → limit < 2 ^ 64 → m < 2 ^ 64 → text ≡ decimal m ++ behind
    → Stops behind → ((rest : List ℕ) → ¬ (behind ≡ end ∷ rest)) → BeginsWithNone (λ n. n ≤ limit) (λ n. ended n end) text
other_end text behind m end limit low fits small is stops none = λ n rest le e.
    none rest
    (front_once m n behind (end ∷ rest) small (omega arith) stops (λ h. omega (arith, h.0))
    (sym is ∙ ended_front text rest n end e)).1

pub over_limit : (text behind next : List ℕ) (m end limit : ℕ) → end < 48 → limit < m → m < 2 ^ 64 → text ≡ decimal m ++ behind
    → behind ≡ end ∷ next → BeginsWithNone (λ n. n ≤ limit) (λ n. ended n end) text
over_limit text behind next m end limit low less fits is ends = λ n rest le e.
    let front : decimal m ++ (end ∷ next) ≡ decimal n ++ (end ∷ rest) =
    ap (λ (t : List ℕ). decimal m ++ t) (sym ends) ∙ sym is ∙ ended_front text rest n end e in
    omega (arith, (number_first end m n next rest low fits (omega arith) front).0)

-- ---- numbers from a least to a greatest
pub under_least : (text rest : List ℕ) (end least greatest m : ℕ) → end < 48 → m < 2 ^ 64 → greatest < 2 ^ 64 → m < least
    → text ≡ ended m end ++ rest → BeginsWithNone (IsBetween least greatest) (λ n. ended n end) text
under_least text rest end least greatest m low fits top less is = grind (arith, number_first, ended_is)
