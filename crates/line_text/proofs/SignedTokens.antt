-- At the front of a text stands a signed number where a number does, perhaps behind a minus sign.
use Rattle.std.proofs.Common.{ℕ, suc, ◌≡◌, ◌<◌, ◌≤◌, ◌^◌, ap, sym, subst, ◌∙◌, append_assoc, arith, ℤ, pos, negsuc, List, [], ◌∷◌}
use Rattle.std.proofs.Common.{◌++◌, get_or, decimal}
use Rattle.std.proofs.lemmas.Int.{ints}
use Rattle.std.specs.Int.{IsInRange}
use Rattle.std.specs.Int.Signed.{mag}
use Rattle.std.specs.Fmt.{signed_decimal}
use Rattle.line_text.specs.Numbers.{signed_ended, BeginsWithNone, IsSignedBetween}
use Rattle.line_text.proofs.Codes.{IsCode}
use Rattle.line_text.proofs.Numerals.{Stops, first_digit, front_once}

-- digits begin with no minus sign
no_minus : (n : ℕ) (text rest : List ℕ) → n < 2 ^ 63 → ¬ (45 ∷ text ≡ decimal n ++ rest)
no_minus n text rest small e =
    let digit : IsInRange 48 57 45 =
    subst (λ (t : List ℕ). IsInRange 48 57 (get_or t 0 0)) (sym e) (first_digit n rest (omega arith)) in
    omega (arith, digit.0)

-- behind a minus sign stands the text of a number that is not zero
below_zero_is : (text rest : List ℕ) (z : ℤ) → mag z < 2 ^ 63 → Stops rest → 45 ∷ text ≡ signed_decimal z ++ rest
    → (n : ℕ) × (1 ≤ n) × (n ≤ 2 ^ 63) × (text ≡ decimal n ++ rest)
below_zero_is text rest (pos n) small stops e = absurd (no_minus n text rest small e)
below_zero_is text rest (negsuc n) small stops e = (suc n, omega arith, omega arith, cc)

pub out_of_reach : (text behind : List ℕ) (n : ℕ) → n < 2 ^ 64 → text ≡ decimal n ++ behind → Stops behind
    → ¬ ((1 ≤ n) × (n ≤ 2 ^ 63)) → (z : ℤ) (rest : List ℕ) → mag z < 2 ^ 63 → Stops rest
    → ¬ (45 ∷ text ≡ signed_decimal z ++ rest)
out_of_reach text behind n fits is ends out z rest small stops e =
    let p = below_zero_is text rest z small stops e in
    let same = (front_once n p.0 behind rest fits (omega (arith, p.2)) ends stops (sym is ∙ p.3)).0 in
    out (omega (arith, same, p.1), omega (arith, same, p.2))

pub no_digits : (text : List ℕ) → ((n : ℕ) (rest : List ℕ) → n < 2 ^ 64 → Stops rest → ¬ (text ≡ decimal n ++ rest))
    → (z : ℤ) (rest : List ℕ) → mag z < 2 ^ 63 → Stops rest → ¬ (45 ∷ text ≡ signed_decimal z ++ rest)
no_digits text none z rest small stops e =
    let p = below_zero_is text rest z small stops e in none p.0 rest (omega (arith, p.2)) stops p.3

-- without a minus sign the text is that of a number
plain_is : (text rest : List ℕ) (z : ℤ) → mag z < 2 ^ 63 → ((more : List ℕ) → ¬ (text ≡ 45 ∷ more))
    → text ≡ signed_decimal z ++ rest → (n : ℕ) × (n < 2 ^ 63) × (text ≡ decimal n ++ rest)
plain_is text rest (pos n) small none e = (n, small, e)
plain_is text rest (negsuc n) small none e = absurd (none (decimal (suc n) ++ rest) e)

pub plain_too_great : (text behind : List ℕ) (n : ℕ) → n < 2 ^ 64 → text ≡ decimal n ++ behind → Stops behind → 2 ^ 63 ≤ n
    → ((more : List ℕ) → ¬ (text ≡ 45 ∷ more)) → (z : ℤ) (rest : List ℕ) → mag z < 2 ^ 63 → Stops rest
    → ¬ (text ≡ signed_decimal z ++ rest)
plain_too_great text behind n fits is ends great none z rest small stops e =
    let p = plain_is text rest z small none e in
    omega (arith, p.1, (front_once n p.0 behind rest fits (omega (arith, p.1)) ends stops (sym is ∙ p.2)).0)

-- ---- signed numbers at the front of a text
pub signed_ended_is : (z : ℤ) (end : ℕ) (rest : List ℕ) → signed_ended z end ++ rest ≡ signed_decimal z ++ (end ∷ rest)
signed_ended_is z end rest = append_assoc (signed_decimal z) (end ∷ []) rest

pub small_between : (least greatest z : ℤ) → mag least < 2 ^ 63 → mag greatest < 2 ^ 63 → IsSignedBetween least greatest z
    → mag z < 2 ^ 63
small_between least (pos m) (pos n) a b h = omega (arith, ints, h.1)
small_between least (negsuc m) (pos n) a b h = omega (arith, ints, h.1)
small_between (pos m) greatest (negsuc n) a b h = omega (arith, ints, h.0)
small_between (negsuc m) greatest (negsuc n) a b h = omega (arith, ints, h.0)

pub signed_is : (text behind rest : List ℕ) (z : ℤ) (end : ℕ) → text ≡ signed_decimal z ++ behind → behind ≡ end ∷ rest
    → text ≡ signed_ended z end ++ rest
signed_is text behind rest z end is ends =
    is ∙ (ap (λ (t : List ℕ). signed_decimal z ++ t) ends ∙ sym (signed_ended_is z end rest))

-- at the front stands one signed number
signed_once : (y z : ℤ) (r s : List ℕ) → mag y < 2 ^ 63 → mag z < 2 ^ 63 → Stops r → Stops s
    → signed_decimal y ++ r ≡ signed_decimal z ++ s → (y ≡ z) × (r ≡ s)
signed_once (pos m) (pos n) r s a b ends stops e =
    let same = front_once m n r s (omega arith) (omega arith) ends stops e in (ap pos same.0, same.1)
signed_once (pos m) (negsuc n) r s a b ends stops e = absurd (no_minus m (decimal (suc n) ++ s) r a (sym e))
signed_once (negsuc m) (pos n) r s a b ends stops e = absurd (no_minus n (decimal (suc m) ++ r) s b e)
signed_once (negsuc m) (negsuc n) r s a b ends stops e =
    let tails : decimal (suc m) ++ r ≡ decimal (suc n) ++ s = cc in
    let same = front_once (suc m) (suc n) r s (omega arith) (omega arith) ends stops tails in
    (ap negsuc (omega (arith, same.0)), same.1)

-- what is behind the number is its end
behind_signed : (text behind rest : List ℕ) (y z : ℤ) (end : ℕ) → end < 45 → mag y < 2 ^ 63 → mag z < 2 ^ 63
    → text ≡ signed_decimal y ++ behind → Stops behind → text ≡ signed_ended z end ++ rest → (y ≡ z) × (behind ≡ end ∷ rest)
behind_signed text behind rest y z end low a b is stops e =
    signed_once y z behind (end ∷ rest) a b stops (λ d. omega (arith, d.0)) (sym is ∙ (e ∙ signed_ended_is z end rest))

pub other_signed_end : (text behind : List ℕ) (end : ℕ) (least greatest y : ℤ) → end < 45 → mag least < 2 ^ 63
    → mag greatest < 2 ^ 63 → mag y < 2 ^ 63 → text ≡ signed_decimal y ++ behind → Stops behind
    → ((rest : List ℕ) → ¬ (behind ≡ end ∷ rest))
    → BeginsWithNone (IsSignedBetween least greatest) (λ z. signed_ended z end) text
other_signed_end text behind end least greatest y low a b fits is stops none = λ z rest h e.
    none rest (behind_signed text behind rest y z end low fits (small_between least greatest z a b h) is stops e).1

pub out_of_bounds : (text behind : List ℕ) (end : ℕ) (least greatest y : ℤ) → end < 45 → mag least < 2 ^ 63
    → mag greatest < 2 ^ 63 → mag y < 2 ^ 63 → ¬ IsSignedBetween least greatest y → text ≡ signed_decimal y ++ behind
    → Stops behind → BeginsWithNone (IsSignedBetween least greatest) (λ z. signed_ended z end) text
out_of_bounds text behind end least greatest y low a b fits out is stops = λ z rest h e.
    out (same_between (behind_signed text behind rest y z end low fits (small_between least greatest z a b h) is stops e).0 h)
  where
    same_between : {u v : ℤ} → u ≡ v → IsSignedBetween least greatest v → IsSignedBetween least greatest u
    same_between e h = rw e h

pub signed_code : (end : ℕ) → end < 45 → IsCode (λ z. mag z < 2 ^ 63) (λ z. signed_ended z end)
signed_code end low = λ y z r s a b e.
    let same =
    signed_once y z (end ∷ r) (end ∷ s) a b (λ d. omega (arith, d.0)) (λ d. omega (arith, d.0))
    (sym (signed_ended_is y end r) ∙ e ∙ signed_ended_is z end s) in
    (same.0, cc)
