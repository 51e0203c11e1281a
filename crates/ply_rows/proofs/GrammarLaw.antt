-- The reader and the grammar agree on whole bodies.
use Rattle.std.proofs.Common.{◌≡◌, ℕ, zero, suc, ◌+◌, ◌-◌, List, [], ◌∷◌, ◌++◌, length, Option, Some, None, Result, Ok, Err}
use Rattle.std.proofs.Common.{refl, sym, ap, subst, ◌∙◌, arith}
use Rattle.ply_head.specs.declared.header.Element.{Element}
use Rattle.ply_head.specs.declared.header.Property.{Property}
use Rattle.ply_head.specs.declared.header.Header.{Header}
use Rattle.ply_rows.specs.declared.place.Field.{Field}
use Rattle.ply_rows.specs.declared.place.RowAt.{RowAt}
use Rattle.ply_rows.specs.declared.refusal.RowRefusal.{RowRefusal}
use Rattle.ply_rows.specs.Rests.{Rest, text, raw, fields_of}
use Rattle.ply_rows.specs.Bodies.{BodyRows, row, row_then, rows_of_element, ending, rows_from, rows_of}
use Rattle.ply_rows.specs.Grammar.{BeginsRow, announced_rows, announced, IsNothing, Follows, HasRows}
use Rattle.ply_rows.proofs.GrammarFound.{fields_found}
use Rattle.ply_rows.proofs.GrammarRead.{fields_read}

abbrev Due : Type 0
Due = RowAt × List Property

abbrev Given : Type 0
Given = RowAt × List Field

-- the rows that are due, one after another
abbrev walk : List Due → Rest → BodyRows
walk [] rest = ending rest
walk (due ∷ others) rest = row_then due.0 (fields_of due.0.element due.0.row 0 due.1 rest) (λ behind. walk others behind)

alike : (at : RowAt) (read : Result (List Field × Rest) RowRefusal) (f g : Rest → BodyRows) → ((rest : Rest) → f rest ≡ g rest)
    → row_then at read f ≡ row_then at read g
alike at (Ok x) f g same = ap (row at x.0) (same x.1)
alike at (Err e) f g same = refl

walk_element : (properties : List Property) (e r count : ℕ) (rest : Rest) (next : Rest → BodyRows) (others : List Due)
    → ((behind : Rest) → next behind ≡ walk others behind)
    → rows_of_element properties e r count rest next ≡ walk (announced_rows properties e r count ++ others) rest
unfolding rows_of_element
walk_element [] e r count rest next others same = same rest
walk_element (p ∷ properties) e r zero rest next others same = same rest
walk_element (p ∷ properties) e r (suc count) rest next others same =
    alike (record { element = e; row = r }) (fields_of e r 0 (p ∷ properties) rest)
    (λ behind. rows_of_element (p ∷ properties) e (r + 1) count behind next)
    (λ behind. walk (announced_rows (p ∷ properties) e (r + 1) count ++ others) behind)
    (λ behind. walk_element (p ∷ properties) e (r + 1) count behind next others same)

walk_from : (elements : List Element) (number given : ℕ) (rest : Rest)
    → rows_from elements number given rest ≡ walk (announced elements number given) rest
unfolding rows_from
walk_from [] number given rest = refl
walk_from (element ∷ elements) number given rest =
    walk_element element.properties number given (element.count - given) rest
    (λ behind. rows_from elements (number + 1) 0 behind) (announced elements (number + 1) 0)
    (λ behind. walk_from elements (number + 1) 0 behind)

abbrev well_ended : List Given → BodyRows
well_ended rows = record { rows = rows; end = None }

some_none : (d : RowRefusal) → Some d ≡ None → ⊥
some_none d e = cc

ending_follows : (rest : Rest) (rows : List Given) → ending rest ≡ well_ended rows → Follows [] rows rest
ending_follows (text []) [] is = refl
ending_follows (text []) (r ∷ rows) is = absurd (omega (arith, ap (λ (b : BodyRows). length b.rows) is))
ending_follows (text (t ∷ tokens)) rows is = absurd (some_none _ (ap (λ (b : BodyRows). b.end) is))
ending_follows (raw order place []) [] is = refl
ending_follows (raw order place []) (r ∷ rows) is = absurd (omega (arith, ap (λ (b : BodyRows). length b.rows) is))
ending_follows (raw order place (b ∷ bytes)) rows is = absurd (some_none _ (ap (λ (b : BodyRows). b.end) is))

head_of : Given → List Given → Given
head_of d [] = d
head_of d (g ∷ rows) = g

tail_of : List Given → List Given
tail_of [] = []
tail_of (g ∷ rows) = rows

found_row : (due : Due) (others : List Due) (rest : Rest) (rows : List Given) (read : Result (List Field × Rest) RowRefusal)
    → fields_of due.0.element due.0.row 0 due.1 rest ≡ read
    → ((behind : Rest) (more : List Given) → walk others behind ≡ well_ended more → Follows others more behind)
    → row_then due.0 read (λ behind. walk others behind) ≡ well_ended rows → Follows (due ∷ others) rows rest
unfolding head_of tail_of
found_row due others rest rows (Err e) read behind_them is = absurd (some_none e (ap (λ (b : BodyRows). b.end) is))
found_row due others rest [] (Ok x) read behind_them is = absurd (omega (arith, ap (λ (b : BodyRows). length b.rows) is))
found_row due others rest (g ∷ rows) (Ok x) read behind_them is =
    let same : (due.0, x.0) ≡ g = ap (λ (b : BodyRows). head_of (due.0, x.0) b.rows) is in
    let behind : walk others x.1 ≡ well_ended rows =
    ap (λ (gs : List Given). record { rows = gs; end = (walk others x.1).end }) (ap (λ (b : BodyRows). tail_of b.rows) is)
    ∙ ap (λ (e : Option RowRefusal). record { rows = rows; end = e }) (ap (λ (b : BodyRows). b.end) is) in (
      ap (λ (h : Given). h.0) (sym same),
      (
        x.1,
        (
          subst (λ (h : Given). BeginsRow due.1 h.1 rest x.1) same
              (fields_found due.0.element due.0.row 0 due.1 rest x.0 x.1 read),
          behind_them x.1 rows behind,
        ),
      ),
    )

-- the rows of a walk that ends well follow
found : (due : List Due) (rest : Rest) (rows : List Given) → walk due rest ≡ well_ended rows → Follows due rows rest
found [] rest rows is = ending_follows rest rows is
found (due ∷ others) rest rows is =
    found_row due others rest rows (fields_of due.0.element due.0.row 0 due.1 rest) refl (found others) is

ending_nothing : (rest : Rest) → IsNothing rest → ending rest ≡ well_ended []
ending_nothing (text tokens) is = ap (λ ts. ending (text ts)) is
ending_nothing (raw order place bytes) is = ap (λ (xs : List ℕ). ending (raw order place xs)) is

-- where rows follow the walk gives them and ends well
read : (due : List Due) (rest : Rest) (rows : List Given) → Follows due rows rest → walk due rest ≡ well_ended rows
read [] rest [] f = ending_nothing rest f
read [] rest (g ∷ rows) f = absurd f
read (due ∷ others) rest [] f = absurd f
read (due ∷ others) rest (g ∷ rows) f = grind (arith, fields_read, read others f.1.0 rows f.1.1.1)

pub rows_found : (head : Header) (body : List ℕ) (rows : List Given) → rows_of head body ≡ well_ended rows
    → HasRows head body rows
rows_found head body rows is = grind (arith, found, walk_from)

pub rows_read : (head : Header) (body : List ℕ) (rows : List Given) → HasRows head body rows
    → rows_of head body ≡ well_ended rows
rows_read head body rows has = grind (arith, walk_from, read)
