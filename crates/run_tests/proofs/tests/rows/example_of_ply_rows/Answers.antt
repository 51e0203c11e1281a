-- A field of the row that was given lies in the body, which is the reader's before and after the call.
use Rattle.std.proofs.Common.{◌≡◌, ℕ, ◌<◌, List, [], length, Option, Some, Ok, get_or, subst, sym, arith}
use Rattle.std.specs.Prelude.{IfSome}
use Rattle.ply_head.specs.declared.header.Header.{Header}
use Rattle.ply_head.specs.declared.header.Element.{Element}
use Rattle.ply_head.specs.declared.header.Property.{Property}
use Rattle.ply_head.specs.declared.header.Scalar.TheVariants.{Char}
use Rattle.ply_head.specs.declared.header.Shape.TheVariants.{One}
use Rattle.ply_rows.specs.declared.place.Field.{Field}
use Rattle.ply_rows.specs.declared.place.RowAt.{RowAt}
use Rattle.ply_rows.specs.Readers.{IsInside, AreRowFields, NextRow}
use Rattle.run_tests.proofs.tests.rows.example_of_ply_rows.Goals as goal

-- a field of a row lies in the body
field_inside : (head : Header) (body : List ℕ) (at : RowAt) (fields : List Field) (number : ℕ) (f : Field) →
    AreRowFields head body at fields → number < length fields → f ≡ get_or fields number f → IsInside body f
field_inside head body at fields number f row there is =
    let e : Element = record { name = []; count = 0; properties = [] } in
    let p : Property = record { name = []; shape = One Char } in
    let are = row.fields_are e in
    subst (λ (x : Field). IsInside body x) (sym is) (are.each number p f (omega (arith, there, are.count))).inside

pub bytes-requires : goal.bytes-requires
bytes-requires g c =
    let at = c.in-Some.field-0 in
    let items = c.next_row.new.out.items in
    let old = c.loop-heights.rows in
    let y = c.in-Some-get.y.now in
    let row : AreRowFields old.head old.body at items =
    subst (λ (o : Option RowAt). IfSome o (λ r. AreRowFields old.head old.body r items)) c.in-Some.is c.in_ok-next_row.ensures.row in
    let next : NextRow (Ok (Some at)) items old c.next_row.new.self =
    subst (λ (o : Option RowAt). NextRow (Ok o) items old c.next_row.new.self) c.in-Some.is c.in_ok-next_row.ensures.next in
    let there : 1 < length items = grind arith in
    let is : y ≡ get_or items 1 y = grind arith in
    subst (λ (bytes : List ℕ). IsInside bytes y) (sym next.1) (field_inside old.head old.body at items 1 y row there is)
