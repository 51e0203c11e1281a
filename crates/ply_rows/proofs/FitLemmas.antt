-- The fields that are handed on fit their properties, and no property is refused as trailing.
use Rattle.std.proofs.Common.{◌≡◌, ℕ, ◌+◌, ◌-◌, ◌<◌, Bool, true, false, List, [], ◌∷◌, ◌++◌, length, get_or, ℤ, pos, negsuc}
use Rattle.std.proofs.Common.{Result, Ok, Err, sym, ap, ◌∙◌, arith, inl, inr, subst}
use Rattle.std.proofs.lemmas.Bool.{cases_lt}
use Rattle.std.proofs.lemmas.List.{get_or_default, get_or_append_left, get_or-append_right, length-append}
use Rattle.std.specs.Prelude.{nat_lt, if◌then◌else◌}
use Rattle.num_text.specs.declared.refusal.NumRefusal.{NumRefusal}
use Rattle.ply_head.specs.declared.header.Kind.{Kind}
use Rattle.ply_head.specs.declared.header.Endian.{Endian}
use Rattle.ply_head.specs.declared.header.Shape.{Shape}
use Rattle.ply_head.specs.declared.header.Shape.TheVariants.{One, Many}
use Rattle.ply_head.specs.declared.header.Property.{Property}
use Rattle.ply_head.specs.Answers.{◌>>=◌}
use Rattle.ply_rows.specs.declared.place.Field.{Field}
use Rattle.ply_rows.specs.declared.place.Place.{Place}
use Rattle.ply_rows.specs.declared.refusal.RowRefusal.{RowRefusal}
use Rattle.ply_rows.specs.declared.refusal.RowRefusal.TheVariants.{BadCount, Cut, Trailing, NoMemory}
use Rattle.ply_rows.specs.Tokens.{Token}
use Rattle.ply_rows.specs.Texts.{Fails, count_in, count_or_refusal, text_field}
use Rattle.ply_rows.specs.Binaries.{size_of, bytes_of, binary_field}
use Rattle.ply_rows.specs.Rests.{Rest, text, raw, field_of, fields_of}
use Rattle.ply_rows.specs.Readers.{IsFieldOf, EndsInside}

-- the fields of so many properties are there, and fit
pub record FitSoFar (kind : Kind) (body : List ℕ) (properties : List Property) (done : ℕ) (fields : List Field) : Type 0 where
  pub count : length fields ≡ done
  pub each : (k : ℕ) (p : Property) (f : Field) → k < done
      → IsFieldOf kind body (get_or properties k p).shape (get_or fields k f)

pub one_fits : (kind : Kind) (body : List ℕ) (properties : List Property) (done : ℕ) (fields : List Field) (p : Property)
    (f : Field) → done < length properties → p ≡ get_or properties done p
    → FitSoFar kind body properties done fields → IsFieldOf kind body p.shape f
    → FitSoFar kind body properties (done + 1) (fields ++ f ∷ [])
one_fits kind body properties done fields p f lt is so_far fits = record {
  count = omega (arith, so_far.count, length-append fields (f ∷ []));
  each = λ k q g less. elim (cases_lt k done) [
    | inl before ↦
        subst (λ (h : Field). IsFieldOf kind body (get_or properties k q).shape h)
        (sym (get_or_append_left fields (f ∷ []) g k (omega (arith, so_far.count)))) (so_far.each k q g before)
    | inr behind ↦
        let last : k ≡ done = omega arith in
        let none : k - done ≡ 0 = omega arith in
        let field : f ≡ get_or (fields ++ f ∷ []) k g =
        sym (get_or-append_right fields (f ∷ []) done k g so_far.count behind ∙ ap (λ (n : ℕ). get_or (f ∷ []) n g) none) in
        let property : p ≡ get_or properties k q =
        is ∙ get_or_default properties done p q lt ∙ ap (λ (n : ℕ). get_or properties n q) (sym last) in
        subst (λ (h : Field). IsFieldOf kind body (get_or properties k q).shape h) field
        (subst (λ (r : Property). IsFieldOf kind body r.shape f) property fits)
  ];
}

-- the reader refuses no property as trailing
abbrev pub IsOfRow : {Y : Type 0} → Result Y RowRefusal → Type 0
IsOfRow (Err (Trailing place)) = ⊥
IsOfRow result = Unit {0}

and_then : {A B : Type 0} (first : Result A RowRefusal) (next : A → Result B RowRefusal) → IsOfRow first
    → ((x : A) → IsOfRow (next x)) → IsOfRow (first >>= next)
and_then (Ok x) next is others = others x
and_then (Err (BadCount at)) next is others = tt
and_then (Err (Cut at)) next is others = tt
and_then (Err (Trailing place)) next is others = absurd is
and_then (Err NoMemory) next is others = tt

cut_if : {A : Type 0} (test : Bool) (at : Place) (x : A) → IsOfRow {Y = A} (if test then Err (Cut at) else Ok x)
cut_if true at x = tt
cut_if false at x = tt

bad_if : (test : Bool) (at : Place) (n : ℕ) → IsOfRow {Y = ℕ} (if test then Err (BadCount at) else Ok n)
bad_if true at n = tt
bad_if false at n = tt

count_in-row : (at : Place) (z : ℤ) → IsOfRow (count_in at z)
count_in-row at (pos n) = bad_if (nat_lt 4294967295 n) at n
count_in-row at (negsuc n) = tt

count_or_refusal-row : (at : Place) (r : Result ℤ NumRefusal) → IsOfRow (count_or_refusal at r)
count_or_refusal-row at (Ok z) = count_in-row at z
count_or_refusal-row at (Err e) = tt

text_field-row : (at : Place) (shape : Shape) (tokens : List Token) → IsOfRow (text_field at shape tokens)
unfolding text_field
text_field-row at (One scalar) [] = tt
text_field-row at (Many count item) [] = tt
text_field-row at (One scalar) (t ∷ tokens) = tt
text_field-row at (Many count item) (t ∷ tokens) = grind (arith, and_then, count_or_refusal-row, cut_if)

bytes_of-row : (at : Place) (n : ℕ) (bytes : List ℕ) → IsOfRow (bytes_of at n bytes)
bytes_of-row at n bytes = cut_if (nat_lt (length bytes) n) at _

binary_field-row : (order : Endian) (at : Place) (shape : Shape) (from : ℕ × List ℕ) → IsOfRow (binary_field order at shape from)
unfolding binary_field
binary_field-row order at (One scalar) from =
    and_then (bytes_of at (size_of scalar) from.1) _ (bytes_of-row at (size_of scalar) from.1) (λ value. tt)
binary_field-row order at (Many count item) from = grind (arith, and_then, bytes_of-row, count_in-row)

field_of-row : (at : Place) (shape : Shape) (rest : Rest) → IsOfRow (field_of at shape rest)
unfolding field_of
field_of-row at shape (text tokens) = and_then (text_field at shape tokens) _ (text_field-row at shape tokens) (λ read. tt)
field_of-row at shape (raw order place bytes) =
    and_then (binary_field order at shape (place, bytes)) _ (binary_field-row order at shape (place, bytes)) (λ read. tt)

fields_of-row : (e r k : ℕ) (properties : List Property) (rest : Rest) → IsOfRow (fields_of e r k properties rest)
unfolding fields_of
fields_of-row e r k [] rest = tt
fields_of-row e r k (p ∷ properties) rest =
    and_then (field_of (record { element = e; row = r; property = k }) p.shape rest) _
    (field_of-row (record { element = e; row = r; property = k }) p.shape rest) (λ first.
    and_then (fields_of e r (k + 1) properties first.1) _ (fields_of-row e r (k + 1) properties first.1) (λ others. tt))

ends_as : (X : Type 0) {Y : Type 0} (body : List ℕ) (why : RowRefusal) (read : Result Y RowRefusal) → IsOfRow read
    → Fails why read → EndsInside {X = X} body (Err why)
ends_as X body (BadCount at) read is fails = tt
ends_as X body (Cut at) read is fails = tt
ends_as X body NoMemory read is fails = tt
ends_as X body (Trailing place) read is fails = absurd (subst (λ (r : Result _ RowRefusal). IsOfRow r) fails is)

-- so what is refused of a row keeps what a trailing byte keeps
pub row_ends_inside : (X : Type 0) (body : List ℕ) (why : RowRefusal) (e r : ℕ) (properties : List Property) (rest : Rest)
    → Fails why (fields_of e r 0 properties rest) → EndsInside {X = X} body (Err why)
row_ends_inside X body why e r properties rest fails =
    ends_as X body why (fields_of e r 0 properties rest) (fields_of-row e r 0 properties rest) fails

-- what one call says of the body another says too
pub ends_alike : (X Y : Type 0) (body other : List ℕ) (why : RowRefusal) → body ≡ other → EndsInside {X = X} body (Err why)
    → EndsInside {X = Y} other (Err why)
ends_alike X Y body other (BadCount at) same inside = tt
ends_alike X Y body other (Cut at) same inside = tt
ends_alike X Y body other NoMemory same inside = tt
ends_alike X Y body other (Trailing place) same inside = omega (arith, inside, ap length same)
