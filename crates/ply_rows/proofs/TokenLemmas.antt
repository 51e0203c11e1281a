-- The tokens of a text, one after another.
use Rattle.std.proofs.Common.{◌≡◌, ℕ, ◌+◌, ◌-◌, ◌<◌, ◌≤◌, true, false, List, [], ◌∷◌, ◌++◌, length, get_or, take, drop, refl}
use Rattle.std.proofs.Common.{sym, ap, ◌∙◌, arith, All, inl, inr, subst}
use Rattle.std.specs.Prelude.{filter}
use Rattle.std.proofs.lemmas.List.{drop_more, drop_all, take-append-drop, length-take, length-drop, drop-drop, get_or-take}
use Rattle.std.proofs.lemmas.List.{get_or-drop, get_or_default, take_rest}
use Rattle.std.proofs.lemmas.Bool.{cases_lt}
use Rattle.std.proofs.lemmas.List.Splits.{slice_split_at, slice_split_none}
use Rattle.ply_head.specs.Lines.{has_bytes}
use Rattle.ply_rows.specs.Tokens.{Token, is_white_space, placed, tokens_from, tokens_at}

pub tokens_none : (place : ℕ) → tokens_from place [] ≡ []
unfolding tokens_from
tokens_none place = refl

-- white space is passed over
pub tokens_space : (place b : ℕ) (xs : List ℕ) → is_white_space b ≡ true
    → tokens_from place (b ∷ xs) ≡ tokens_from (place + 1) xs
unfolding tokens_from
tokens_space place b xs space = grind arith

-- a token ends at white space
pub tokens_token : (place : ℕ) (w : List ℕ) (b : ℕ) (rest : List ℕ) → 0 < length w → All (λ x. is_white_space x ≡ false) w
    → is_white_space b ≡ true
    → tokens_from place (w ++ b ∷ rest) ≡ record { place = place; bytes = w } ∷ tokens_from (place + length w + 1) rest
unfolding tokens_from
tokens_token place [] b rest some all space = absurd (omega arith)
tokens_token place (x ∷ w) b rest some all space =
    ap (λ (parts : List (List ℕ)). filter (λ (token : Token). has_bytes token.bytes) (placed place parts))
    (slice_split_at is_white_space (x ∷ w) b rest all space)

-- or at the end
pub tokens_last : (place : ℕ) (w : List ℕ) → 0 < length w → All (λ x. is_white_space x ≡ false) w
    → tokens_from place w ≡ record { place = place; bytes = w } ∷ []
unfolding tokens_from
tokens_last place [] some all = absurd (omega arith)
tokens_last place (x ∷ w) some all =
    ap (λ (parts : List (List ℕ)). filter (λ (token : Token). has_bytes token.bytes) (placed place parts))
    (slice_split_none is_white_space (x ∷ w) all)

pub tokens_next : (body : List ℕ) (i : ℕ) → i < length body → is_white_space (get_or body i 0) ≡ true
    → tokens_at body i ≡ tokens_at body (i + 1)
unfolding tokens_at
tokens_next body i lt space =
    ap (tokens_from i) (drop_more body i 0 lt) ∙ tokens_space i (get_or body i 0) (drop (i + 1) body) space

pub tokens_past : (body : List ℕ) (i : ℕ) → length body ≤ i → tokens_at body i ≡ []
unfolding tokens_at
tokens_past body i le = ap (tokens_from i) (drop_all i body le) ∙ tokens_none i

all_inside : (body : List ℕ) (start end : ℕ) → ((k : ℕ) → start ≤ k → k < end → is_white_space (get_or body k 0) ≡ false)
    → end ≤ length body → All (λ x. is_white_space x ≡ false) (take (end - start) (drop start body))
all_inside body start end inside le k d lt =
    let small : k < end - start = omega (arith, lt, length-take (end - start) (drop start body)) in
    let at : get_or (take (end - start) (drop start body)) k d ≡ get_or body (start + k) 0 =
    get_or-take (end - start) (drop start body) k d small ∙ get_or-drop start body k d
    ∙ get_or_default body (start + k) d 0 (omega arith) in
    ap is_white_space at ∙ inside (start + k) (omega arith) (omega arith)

token_inside : (body : List ℕ) (start end : ℕ) → start < end → end < length body
    → All (λ x. is_white_space x ≡ false) (take (end - start) (drop start body)) → is_white_space (get_or body end 0) ≡ true
    → tokens_at body start ≡ record { place = start; bytes = take (end - start) (drop start body) } ∷ tokens_at body end
unfolding tokens_at
token_inside body start end lt le all space =
    let w = take (end - start) (drop start body) in
    let len : length (take (end - start) (drop start body)) ≡ end - start =
    omega (arith, length-take (end - start) (drop start body), length-drop start body) in
    let rest : drop (end - start) (drop start body) ≡ get_or body end 0 ∷ drop (end + 1) body =
    drop-drop (end - start) start body ∙ ap (λ (n : ℕ). drop n body) (omega arith) ∙ drop_more body end 0 le in
    let parts : drop start body ≡ take (end - start) (drop start body) ++ get_or body end 0 ∷ drop (end + 1) body =
    sym (take-append-drop (end - start) (drop start body))
    ∙ ap (λ (r : List ℕ). take (end - start) (drop start body) ++ r) rest in
    let behind : start + length (take (end - start) (drop start body)) + 1 ≡ end + 1 = omega (arith, len) in
    ap (tokens_from start) parts
    ∙ tokens_token start (take (end - start) (drop start body)) (get_or body end 0) (drop (end + 1) body)
    (omega (arith, len)) all space
    ∙ ap (λ (n : ℕ). record {
      place = start;
      bytes = take (end - start) (drop start body);
    } ∷ tokens_from n (drop (end + 1) body)) behind
    ∙ ap (λ (ts : List Token). record { place = start; bytes = take (end - start) (drop start body) } ∷ ts)
    (sym (tokens_next body end le space))

token_at_end : (body : List ℕ) (start : ℕ) → start < length body
    → All (λ x. is_white_space x ≡ false) (take (length body - start) (drop start body))
    → tokens_at body start ≡ record {
      place = start;
      bytes = take (length body - start) (drop start body);
    } ∷ tokens_at body (length body)
unfolding tokens_at
token_at_end body start lt all =
    let whole : take (length body - start) (drop start body) ≡ drop start body = take_rest body start in
    let len : 0 < length (take (length body - start) (drop start body)) =
    omega (arith, length-take (length body - start) (drop start body), length-drop start body) in
    ap (tokens_from start) (sym whole) ∙ tokens_last start (take (length body - start) (drop start body)) len all
    ∙ ap (λ (ts : List Token). record { place = start; bytes = take (length body - start) (drop start body) } ∷ ts)
    (sym (tokens_past body (length body) (omega arith)))

pub token_is : (body : List ℕ) (start end : ℕ) → start < end → end ≤ length body
    → ((k : ℕ) → start ≤ k → k < end → is_white_space (get_or body k 0) ≡ false)
    → (end < length body → is_white_space (get_or body end 0) ≡ true)
    → tokens_at body start ≡ record { place = start; bytes = take (end - start) (drop start body) } ∷ tokens_at body end
token_is body start end lt le inside ends =
    elim (cases_lt end (length body)) [
      | inl more ↦ token_inside body start end lt more (all_inside body start end inside le) (ends more)
      | inr none ↦
          let at : end ≡ length body = omega arith in
          subst (λ (n : ℕ). All (λ x. is_white_space x ≡ false) (take (n - start) (drop start body))
          → tokens_at body start ≡ record { place = start; bytes = take (n - start) (drop start body) } ∷ tokens_at body n)
          (sym at)
          (token_at_end body start (omega arith)) (all_inside body start end inside le)
    ]
