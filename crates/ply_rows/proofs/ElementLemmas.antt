-- Elements, one after another.
use Rattle.std.proofs.Common.{◌≡◌, ℕ, zero, suc, ◌+◌, ◌-◌, ◌<◌, ◌≤◌, List, [], ◌∷◌, length, get_or, drop, refl, sym, ap, ◌∙◌}
use Rattle.std.proofs.Common.{arith}
use Rattle.std.proofs.lemmas.List.{drop_more, drop_all}
use Rattle.ply_head.specs.declared.header.Property.{Property}
use Rattle.ply_head.specs.declared.header.Element.{Element}
use Rattle.ply_rows.specs.declared.place.RowAt.{RowAt}
use Rattle.ply_rows.specs.Rests.{Rest, fields_of}
use Rattle.ply_rows.specs.Bodies.{BodyRows, row_then, rows_of_element, ending, rows_from}

element_empty : (properties : List Property) (e r left : ℕ) (tokens : Rest) (next : Rest → BodyRows) → length properties ≡ 0
    → rows_of_element properties e r left tokens next ≡ next tokens
unfolding rows_of_element
element_empty [] e r left tokens next none = refl
element_empty (p ∷ properties) e r left tokens next none = absurd (omega arith)

element_over : (properties : List Property) (e r left : ℕ) (tokens : Rest) (next : Rest → BodyRows) → left ≡ 0
    → rows_of_element properties e r left tokens next ≡ next tokens
unfolding rows_of_element
element_over [] e r left tokens next none = refl
element_over (p ∷ properties) e r zero tokens next none = refl
element_over (p ∷ properties) e r (suc left) tokens next none = absurd (omega arith)

abbrev pub row_at : ℕ → ℕ → RowAt
row_at e r = record { element = e; row = r }

element_row : (properties : List Property) (e r left more : ℕ) (tokens : Rest) (next : Rest → BodyRows) → 0 < length properties
    → left ≡ suc more
    → rows_of_element properties e r left tokens next
    ≡ row_then (row_at e r) (fields_of e r 0 properties tokens)
    (λ behind. rows_of_element properties e (r + 1) more behind next)
unfolding rows_of_element
element_row [] e r left more tokens next some is = absurd (omega arith)
element_row (p ∷ properties) e r left more tokens next some is =
    ap (λ (n : ℕ). rows_of_element (p ∷ properties) e r n tokens next) is

here : (elements : List Element) (e : ℕ) (el : Element) → e < length elements → el ≡ get_or elements e el
    → drop e elements ≡ el ∷ drop (e + 1) elements
here elements e el lt is = drop_more elements e el lt ∙ ap (λ (q : Element). q ∷ drop (e + 1) elements) (sym is)

-- an element without properties, or without rows left, is passed over
pub passed_empty : (elements : List Element) (e r : ℕ) (el : Element) (tokens : Rest) → e < length elements
    → el ≡ get_or elements e el → length el.properties ≡ 0
    → rows_from (drop (e + 1) elements) (e + 1) 0 tokens ≡ rows_from (drop e elements) e r tokens
unfolding rows_from
passed_empty elements e r el tokens lt is none = grind (arith, here, element_empty)

pub passed_over : (elements : List Element) (e r : ℕ) (el : Element) (tokens : Rest) → e < length elements
    → el ≡ get_or elements e el → el.count ≤ r
    → rows_from (drop (e + 1) elements) (e + 1) 0 tokens ≡ rows_from (drop e elements) e r tokens
unfolding rows_from
passed_over elements e r el tokens lt is none = grind (arith, here, element_over)

-- the next row of an element
pub next_is : (elements : List Element) (e r : ℕ) (el : Element) (tokens : Rest) → e < length elements
    → el ≡ get_or elements e el → 0 < length el.properties → r < el.count
    → rows_from (drop e elements) e r tokens
    ≡ row_then (row_at e r) (fields_of e r 0 el.properties tokens) (λ behind. rows_from (drop e elements) e (r + 1) behind)
unfolding rows_from
next_is elements e r el tokens lt is some less =
    let left : el.count - r ≡ suc (el.count - (r + 1)) = omega arith in
    ap (λ (els : List Element). rows_from els e r tokens) (here elements e el lt is)
    ∙ element_row el.properties e r (el.count - r) (el.count - (r + 1)) tokens
    (λ behind. rows_from (drop (e + 1) elements) (e + 1) 0 behind) some left
    ∙ ap (λ (els : List Element).
    row_then (row_at e r) (fields_of e r 0 el.properties tokens) (λ behind. rows_from els e (r + 1) behind))
    (sym (here elements e el lt is))

pub all_passed : (elements : List Element) (e r : ℕ) (tokens : Rest) → length elements ≤ e
    → rows_from (drop e elements) e r tokens ≡ ending tokens
unfolding rows_from
all_passed elements e r tokens le = ap (λ (els : List Element). rows_from els e r tokens) (drop_all e elements le)
