-- Rows of a certificate: those of amounts that are not 0, and what rows state.
--
-- What rows state about a key is the amount in the first row about it. The rows of rising keys are each about another key, so of each
-- key they state its amount, also where it is 0 and has no row (stated_at, by induction: the first key, or one behind it): map_stated.
use Rattle.std.proofs.Common.{ℕ, zero, suc, ◌≡◌, ◌<◌, not, refl, ap, sym, subst, ◌∙◌, arith, Bool, true, false}
use Rattle.std.proofs.Common.{cond, List, [], ◌∷◌, length, get_or, map, filter, eqb, AllPairs}
use Rattle.std.proofs.lemmas.Bool.{eqb-true, false_from_ne_true}
use Rattle.std.proofs.lemmas.List.{get_or-map, length-map, same_lists}
use Rattle.geo_sign.specs.Rising.{IsBefore}
use Rattle.std.specs.Str.{bytes_eq}
use Rattle.std.proofs.lemmas.Slice.Eq.{bytes_eq-Decides}
use Rattle.visibility.proofs.Indices.{not_before_itself}
use Rattle.solution.specs.Solutions.{stated, listed}

-- the rows of a list, by the amount of its first element
listed_first : {Row : Type 0} → (List ℕ → ℕ → Row) → List ℕ → ℕ → List Row → List Row
listed_first make row amount rows = cond (not (eqb amount 0)) (make row amount ∷ rows) rows

listed-cons : {Row : Type 0} (make : List ℕ → ℕ → Row) (row : List ℕ) (rows : List (List ℕ)) (on : List ℕ → ℕ)
    → listed make (row ∷ rows) on ≡ listed_first make row (on row) (listed make rows on)
unfolding listed_first
listed-cons {Row} make row rows on = by (not (eqb (on row) 0)) (filter (λ (key : List ℕ). not (eqb (on key) 0)) rows)
  where
    by : (b : Bool) (keys : List (List ℕ))
        → map (λ (key : List ℕ). make key (on key)) (cond b (row ∷ keys) keys)
        ≡ cond b (make row (on row) ∷ map (λ (key : List ℕ). make key (on key)) keys)
        (map (λ (key : List ℕ). make key (on key)) keys)
    by true keys = refl
    by false keys = refl

-- amounts that agree on rows make the same rows
pub listed_same : {Row : Type 0} (make : List ℕ → ℕ → Row) (rows : List (List ℕ)) (on at : List ℕ → ℕ)
    → map on rows ≡ map at rows → listed make rows on ≡ listed make rows at
listed_same make [] on at same = refl
listed_same {Row} make (row ∷ rows) on at same =
    let first : on row ≡ at row = cc in
    let rest : map on rows ≡ map at rows = cc in
    listed-cons make row rows on
    ∙ ap (λ (n : ℕ). listed_first make row n (listed make rows on)) first
    ∙ ap (listed_first make row (at row)) (listed_same make rows on at rest)
    ∙ sym (listed-cons make row rows at)

-- a row is about its key and has its amount
pub record Makes {Row : Type 0} (make : List ℕ → ℕ → Row) (about : Row → List ℕ) (amount : Row → ℕ) : Type 0 where
  pub about_is : (key : List ℕ) (n : ℕ) → about (make key n) ≡ key
  pub amount_is : (key : List ℕ) (n : ℕ) → amount (make key n) ≡ n

-- rows about another key come before those of a key in vain
stated_past : {Row : Type 0} (make : List ℕ → ℕ → Row) (about : Row → List ℕ) (amount : Row → ℕ) → Makes make about amount
    → (row key : List ℕ) (n : ℕ) (rows : List Row) → bytes_eq row key ≡ false
    → stated about amount (listed_first make row n rows) key ≡ stated about amount rows key
unfolding listed_first
stated_past {Row} make about amount makes row key n rows other = by (not (eqb n 0))
  where
    by : (b : Bool) → stated about amount (cond b (make row n ∷ rows) rows) key ≡ stated about amount rows key
    by true =
        ap (λ (t : Bool). cond t (amount (make row n)) (stated about amount rows key))
        (ap (λ (k : List ℕ). bytes_eq k key) (makes.about_is row n) ∙ other)
    by false = refl

-- a key that no row is about
stated_none : {Row : Type 0} (make : List ℕ → ℕ → Row) (about : Row → List ℕ) (amount : Row → ℕ) → Makes make about amount
    → (rows : List (List ℕ)) (on : List ℕ → ℕ) (key : List ℕ)
    → ((j : ℕ) → j < length rows → bytes_eq (get_or rows j []) key ≡ false) → stated about amount (listed make rows on) key ≡ 0
stated_none make about amount makes [] on key other = refl
stated_none make about amount makes (row ∷ rows) on key other =
    ap (λ (list : List _). stated about amount list key) (listed-cons make row rows on)
    ∙ stated_past make about amount makes row key (on row) (listed make rows on) (other 0 (omega arith))
    ∙ stated_none make about amount makes rows on key (λ j l. other (suc j) (omega arith))

-- the first key
stated_first : {Row : Type 0} (make : List ℕ → ℕ → Row) (about : Row → List ℕ) (amount : Row → ℕ) → Makes make about amount
    → (key : List ℕ) (n : ℕ) (rows : List Row) → stated about amount rows key ≡ 0
    → stated about amount (listed_first make key n rows) key ≡ n
unfolding listed_first
stated_first {Row} make about amount makes key n rows none = by (not (eqb n 0)) refl
  where
    not_false : (b : Bool) → not b ≡ false → b ≡ true
    not_false true e = refl
    not_false false e = cc

    by : (b : Bool) → not (eqb n 0) ≡ b → stated about amount (cond b (make key n ∷ rows) rows) key ≡ n
    by true e =
        ap (λ (t : Bool). cond t (amount (make key n)) (stated about amount rows key))
        (ap (λ (k : List ℕ). bytes_eq k key) (makes.about_is key n) ∙ (bytes_eq-Decides key key).1 refl)
        ∙ makes.amount_is key n
    by false e = none ∙ sym (eqb-true n 0 (not_false (eqb n 0) e))

differs : (row other : List ℕ) → IsBefore row other → bytes_eq row other ≡ false
differs row other before =
    false_from_ne_true (bytes_eq row other)
    (λ h. not_before_itself other (subst (λ (r : List ℕ). IsBefore r other) ((bytes_eq-Decides row other).0 h) before))

differs_back : (row other : List ℕ) → IsBefore row other → bytes_eq other row ≡ false
differs_back row other before =
    false_from_ne_true (bytes_eq other row)
    (λ h. not_before_itself other (subst (λ (r : List ℕ). IsBefore r other) (sym ((bytes_eq-Decides other row).0 h)) before))

stated_at : {Row : Type 0} (make : List ℕ → ℕ → Row) (about : Row → List ℕ) (amount : Row → ℕ) → Makes make about amount
    → (rows : List (List ℕ)) (on : List ℕ → ℕ) → AllPairs IsBefore rows → (k : ℕ) → k < length rows
    → stated about amount (listed make rows on) (get_or rows k []) ≡ on (get_or rows k [])
stated_at make about amount makes [] on rising k within = absurd (omega arith)
stated_at make about amount makes (row ∷ rows) on rising zero within =
    ap (λ (list : List _). stated about amount list row) (listed-cons make row rows on)
    ∙ stated_first make about amount makes row (on row) (listed make rows on)
    (stated_none make about amount makes rows on row
    (λ j l. differs_back row (get_or rows j []) (rising 0 (suc j) [] (omega arith) (omega arith))))
stated_at make about amount makes (row ∷ rows) on rising (suc k) within =
    ap (λ (list : List _). stated about amount list (get_or rows k [])) (listed-cons make row rows on)
    ∙ stated_past make about amount makes row (get_or rows k []) (on row) (listed make rows on)
    (differs row (get_or rows k []) (rising 0 (suc k) [] (omega arith) (omega arith)))
    ∙ stated_at make about amount makes rows on (λ i j d l m. rising (suc i) (suc j) d (omega arith) (omega arith)) k
    (omega arith)

-- the rows of amounts of rising keys state these amounts
pub map_stated : {Row : Type 0} (make : List ℕ → ℕ → Row) (about : Row → List ℕ) (amount : Row → ℕ) → Makes make about amount
    → (rows : List (List ℕ)) (on : List ℕ → ℕ) → AllPairs IsBefore rows
    → map (stated about amount (listed make rows on)) rows ≡ map on rows
map_stated make about amount makes rows on rising =
    let said : List ℕ → ℕ = stated about amount (listed make rows on) in
    same_lists (map said rows) (map on rows) (length-map rows said ∙ sym (length-map rows on))
    (λ k d l. let m : k < length rows = omega (arith, l, length-map rows said) in
    get_or-map said rows k [] d m ∙ stated_at make about amount makes rows on rising k m ∙ sym (get_or-map on rows k [] d m))
