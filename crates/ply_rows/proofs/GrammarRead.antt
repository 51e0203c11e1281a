-- The reader and the grammar agree: what the body begins with is what is read of a property.
use Rattle.std.proofs.Common.{◌≡◌, ℕ, ◌+◌, ◌*◌, ◌≤◌, List, [], ◌∷◌, ◌++◌, length, take, drop, pos, Result, refl, sym, ap, ◌∙◌}
use Rattle.std.proofs.Common.{arith}
use Rattle.std.proofs.lemmas.Bool.{le-ltb}
use Rattle.std.proofs.lemmas.List.{length-append, append_assoc, length-take-le, length-drop, take-append-drop}
use Rattle.std.proofs.Math.Seq.{take-append_seam, drop-append_seam}
use Rattle.ply_head.specs.declared.header.Endian.{Endian}
use Rattle.ply_head.specs.declared.header.Scalar.{Scalar}
use Rattle.ply_head.specs.declared.header.Property.{Property}
use Rattle.ply_head.specs.declared.header.Shape.{Shape}
use Rattle.ply_head.specs.declared.header.Shape.TheVariants.{One, Many}
use Rattle.ply_head.proofs.Answers.{done}
use Rattle.ply_rows.specs.declared.place.Field.{Field}
use Rattle.ply_rows.specs.declared.place.Place.{Place}
use Rattle.ply_rows.specs.declared.refusal.RowRefusal.{RowRefusal}
use Rattle.ply_rows.specs.Tokens.{Token}
use Rattle.ply_rows.specs.Texts.{count_in, items_of, field_of_items, text_field}
use Rattle.ply_rows.specs.Binaries.{size_of, number_of, bytes_of, list_field, binary_field}
use Rattle.ply_rows.specs.Rests.{Rest, text, raw, field_of, fields_of}
use Rattle.ply_rows.specs.Grammar.{IsGroup, group_field, IsPiece, piece_field, Begins, BeginsRow}

abbrev fields_and : Field → List Token → Result (Field × List Token) RowRefusal
fields_and field behind = done (field, behind)

-- ---- in a text

count_read : (at : Place) (n : ℕ) → n ≤ 4294967295 → count_in at (pos n) ≡ done n
count_read at n le = rw (le-ltb 4294967295 n le) refl

items_read : (at : Place) (items behind : List Token)
    → items_of at (length items) (items ++ behind) ≡ fields_and (field_of_items items) behind
items_read at items behind =
    rw (le-ltb (length (items ++ behind)) (length items) (omega (arith, length-append items behind)))
    (ap (λ (ts : List Token). fields_and (field_of_items ts) (drop (length items) (items ++ behind)))
    (take-append_seam items behind)
    ∙ ap (λ (ts : List Token). fields_and (field_of_items items) ts) (drop-append_seam items behind))

group_read : (at : Place) (shape : Shape) (group behind : List Token) → IsGroup shape group
    → text_field at shape (group ++ behind) ≡ fields_and (group_field shape group) behind
unfolding text_field
group_read at (One scalar) [] behind is = absurd is
group_read at (Many count item) [] behind is = absurd is
group_read at (One scalar) (t ∷ items) behind is = grind arith
group_read at (Many count item) (t ∷ items) behind is = grind (arith, count_read, items_read)

-- ---- in a binary body

abbrev bytes_and : List ℕ → List ℕ → Result (List ℕ × List ℕ) RowRefusal
bytes_and bytes behind = done (bytes, behind)

abbrev field_then : Field → ℕ → List ℕ → Result (Field × (ℕ × List ℕ)) RowRefusal
field_then field next behind = done (field, (next, behind))

bytes_read : (at : Place) (n : ℕ) (front behind : List ℕ) → length front ≡ n
    → bytes_of at n (front ++ behind) ≡ bytes_and front behind
bytes_read at n front behind is =
    ap (λ (k : ℕ). bytes_of at k (front ++ behind)) (sym is)
    ∙ rw (le-ltb (length (front ++ behind)) (length front) (omega (arith, length-append front behind)))
    (ap (λ (xs : List ℕ). bytes_and xs (drop (length front) (front ++ behind))) (take-append_seam front behind)
    ∙ ap (bytes_and front) (drop-append_seam front behind))

list_read : (order : Endian) (at : Place) (count item : Scalar) (items place : ℕ) (front back behind : List ℕ)
    → length front ≡ size_of count → length back ≡ items * size_of item → number_of order count front ≡ pos items
    → items ≤ 4294967295
    → binary_field order at (Many count item) (place, front ++ (back ++ behind))
    ≡ field_then (list_field (place + size_of count) (items * size_of item) items)
    (place + size_of count + items * size_of item) behind
unfolding binary_field
list_read order at count item items place front back behind front_size back_size is few = grind (arith, bytes_read, count_read)

piece_read : (order : Endian) (at : Place) (shape : Shape) (items place : ℕ) (piece behind : List ℕ)
    → IsPiece order shape items piece
    → binary_field order at shape (place, piece ++ behind)
    ≡ field_then (piece_field shape items place) (place + length piece) behind
unfolding binary_field
piece_read order at (One scalar) items place piece behind is = grind (arith, bytes_read)
piece_read order at (Many count item) items place piece behind is =
    let front_size : length (take (size_of count) piece) ≡ size_of count =
    length-take-le (size_of count) piece (omega (arith, is.0)) in
    let back_size : length (drop (size_of count) piece) ≡ items * size_of item =
    length-drop (size_of count) piece ∙ omega (arith, is.0) in
    ap (λ (xs : List ℕ). binary_field order at (Many count item) (place, xs))
    (ap (λ (xs : List ℕ). xs ++ behind) (sym (take-append-drop (size_of count) piece))
    ∙ append_assoc (take (size_of count) piece) (drop (size_of count) piece) behind)
    ∙ list_read order at count item items place (take (size_of count) piece) (drop (size_of count) piece) behind front_size
    back_size is.1 is.2
    ∙ ap (λ (n : ℕ). field_then (list_field (place + size_of count) (items * size_of item) items) n behind)
    (omega (arith, is.0))

-- ---- in either

property_read : (at : Place) (shape : Shape) (rest : Rest) (field : Field) (left : Rest) → Begins shape field rest left
    → field_of at shape rest ≡ done (field, left)
unfolding field_of
property_read at shape (text tokens) field left b = grind (arith, group_read)
property_read at shape (raw order place bytes) field left b = grind (arith, piece_read)

abbrev row_and : List Field → Rest → Result (List Field × Rest) RowRefusal
row_and fields left = done (fields, left)

pub fields_read : (e r k : ℕ) (properties : List Property) (rest : Rest) (fields : List Field) (left : Rest)
    → BeginsRow properties fields rest left → fields_of e r k properties rest ≡ done (fields, left)
unfolding fields_of
fields_read e r k [] rest [] left b = ap (row_and []) (sym b)
fields_read e r k [] rest (f ∷ fields) left b = absurd b
fields_read e r k (p ∷ properties) rest [] left b = absurd b
fields_read e r k (p ∷ properties) rest (f ∷ fields) left b =
    grind (arith, property_read, fields_read e r (k + 1) properties b.0 fields left b.1.1)
