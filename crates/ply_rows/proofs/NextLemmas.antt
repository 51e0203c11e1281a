-- The next row of a reader.
use Rattle.std.proofs.Common.{◌≡◌, ℕ, ◌+◌, ◌<◌, ◌≤◌, List, [], length, get_or, drop, Ok, Err, refl, ap, subst, ◌∙◌, arith}
use Rattle.ply_head.specs.declared.header.Property.{Property}
use Rattle.ply_head.specs.declared.header.Element.{Element}
use Rattle.ply_rows.specs.declared.place.Field.{Field}
use Rattle.ply_rows.specs.declared.refusal.RowRefusal.{RowRefusal}
use Rattle.ply_rows.specs.declared.refusal.RowRefusal.TheVariants.{NoMemory}
use Rattle.ply_rows.specs.Rests.{Rest, fields_of}
use Rattle.ply_rows.specs.Texts.{Fails}
use Rattle.ply_rows.specs.Bodies.{BodyRows, row, refused, row_then, rows_from}
use Rattle.ply_rows.specs.Readers.{Reader, NextRow, AreFieldsOf, AreRowFields}
use Rattle.ply_head.specs.declared.header.Header.{Header}
use Rattle.std.proofs.lemmas.List.{get_or_default}
use Rattle.ply_rows.proofs.RowLemmas.{FieldsRead}
use Rattle.ply_rows.proofs.ElementLemmas.{row_at, next_is}

-- the row that is next, with what the code knows of its element
pub record IsNext (els : List Element) (e r : ℕ) (properties : List Property) : Type 0 where
  pub el : Element
  pub within : e < length els
  pub is : el ≡ get_or els e el
  pub some : 0 < length el.properties
  pub less : r < el.count
  pub same : properties ≡ el.properties

pub is_next : (els shown : List Element) (e r : ℕ) (el : Element) (properties : List Property) → shown ≡ els → e ≤ length els
    → (e ≡ length shown → ⊥) → el ≡ get_or shown e el
    → ((d : Element) → e < length els → r < (get_or els e d).count)
    → ((d : Element) → e < length els → 0 < length (get_or els e d).properties) → properties ≡ (get_or shown e el).properties
    → IsNext els e r properties
is_next els shown e r el properties shows le ne is less some same = grind arith

row_start : (els : List Element) (e r : ℕ) (properties : List Property) (tokens : Rest) (left : BodyRows)
    → IsNext els e r properties → rows_from (drop e els) e r tokens ≡ left
    → left ≡ row_then (row_at e r) (fields_of e r 0 properties tokens) (λ behind. rows_from (drop e els) e (r + 1) behind)
row_start els e r properties tokens left next is = grind (arith, next_is)

pub row_read : (els : List Element) (e r : ℕ) (properties : List Property) (tokens behind : Rest) (fields : List Field)
    (left : BodyRows) → IsNext els e r properties → rows_from (drop e els) e r tokens ≡ left
    → fields_of e r 0 properties tokens ≡ Ok (fields, behind)
    → left ≡ row (row_at e r) fields (rows_from (drop e els) e (r + 1) behind)
row_read els e r properties tokens behind fields left next is read =
    row_start els e r properties tokens left next is
    ∙ ap (λ (f : FieldsRead). row_then (row_at e r) f (λ more. rows_from (drop e els) e (r + 1) more)) read

pub refused_row : (why : RowRefusal) (fields : List Field) (old : Reader) → old.left ≡ refused why → fields ≡ []
    → NextRow (Err why) fields old old
refused_row NoMemory fields old is none = (refl, none)
refused_row why fields old is none = (is, refl, none)

pub row_refused : (why : RowRefusal) (els : List Element) (e r : ℕ) (properties : List Property) (tokens : Rest)
    (fields : List Field) (old : Reader) → IsNext els e r properties → rows_from (drop e els) e r tokens ≡ old.left
    → Fails why (fields_of e r 0 properties tokens) → fields ≡ [] → NextRow (Err why) fields old old
row_refused NoMemory els e r properties tokens fields old next is fails none = (refl, none)
row_refused why els e r properties tokens fields old next is fails none = (
  row_start els e r properties tokens old.left next is
      ∙ ap (λ (f : FieldsRead). row_then (row_at e r) f (λ more. rows_from (drop e els) e (r + 1) more)) fails,
  refl,
  none,
)

-- the fields that fit the properties are those of the row
pub row_fits : (head : Header) (body : List ℕ) (e r : ℕ) (properties : List Property) (fields : List Field)
    → IsNext head.elements e r properties → AreFieldsOf head.kind body properties fields → AreRowFields head body (row_at e r) fields
row_fits head body e r properties fields next fits =
    let same : (d : Element) → next.el ≡ get_or head.elements e d =
    λ d. next.is ∙ get_or_default head.elements e next.el d next.within in
    record {
      element = next.within;
      row = λ d. subst (λ (el : Element). r < el.count) (same d) next.less;
      fields_are =
          λ d. subst (λ (ps : List Property). AreFieldsOf head.kind body ps fields)
          (next.same ∙ ap (λ (el : Element). el.properties) (same d)) fits;
    }
