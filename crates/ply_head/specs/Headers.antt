-- The header of a text, or its first error.
--
--   Gives, Fails    the result of a call is that of a definition, unless memory ran out
--   text_of_line    a line without its end, or its error
--   has_property, has_element   a name is one of those before
--   with_property   the elements, with one more property in the last
--   Step, step_of   the effect of a line on the header so far
--   header_from     the header from line n on, and the body
--   header_of bytes
--                   which lines a header may have and in which order; the header of a file, or the first error, line by
--                   line
--
-- These definitions give the errors in their order. specs/Grammar says in the format's own terms which texts have a header, and
-- a theorem of the crate states that both agree.
use Rattle.std.specs.Prelude.{ℕ, Bool, ◌+◌, ◌≡◌, List, [], ◌∷◌, ◌++◌, nat_eq, nat_lt, length, drop, codes, Option, Some}
use Rattle.std.specs.Prelude.{None, Result, Ok, Err, if◌then◌else◌}
use Rattle.std.specs.List.{list_any, join_with_byte, starts_with}
use Rattle.std.specs.Str.{bytes_eq}
use Rattle.ply_head.specs.declared.header.Header.{Header}
use Rattle.ply_head.specs.declared.header.Element.{Element}
use Rattle.ply_head.specs.declared.header.Property.{Property}
use Rattle.ply_head.specs.declared.refusal.HeadRefusal.{HeadRefusal}
use Rattle.ply_head.specs.declared.refusal.HeadRefusal.TheVariants.{NotPly, BadLine, LongLine, LongHeader, Twice, HeadCut}
use Rattle.ply_head.specs.declared.refusal.HeadRefusal.TheVariants.{NoMemory}
use Rattle.ply_head.specs.Answers.{◌>>=◌}
use Rattle.ply_head.specs.Lines.{parts_of, line_text, words_of}
use Rattle.ply_head.specs.Statements.{Statement, nothing, format, element, property, finish, statement_of_words}

-- the error is that of the definition, unless memory ran out
abbrev pub Fails : {Y : Type 0} → HeadRefusal → Result Y HeadRefusal → Type 0
Fails NoMemory read = Unit {0}
Fails e read = read ≡ Err e

-- the result of a call, seen by view, is that of the definition, unless memory ran out
abbrev pub Gives : {X Y : Type 0} → (X → Y) → Result X HeadRefusal → Result Y HeadRefusal → Type 0
Gives view (Ok x) read = read ≡ Ok (view x)
Gives view (Err e) read = Fails e read

-- line n: the bytes up to the next LF, which more parts follow, or else the last bytes
abbrev pub text_of_line : ℕ → List ℕ → List (List ℕ) → Result (List ℕ) HeadRefusal
text_of_line n part [] = if nat_lt (length part) 1002 then Err HeadCut else Err (LongLine n)
text_of_line n part (next ∷ more) = if nat_lt 1000 (length (line_text part)) then Err (LongLine n) else Ok (line_text part)

-- a property has the name
abbrev pub has_property : List ℕ → List Property → Bool
has_property name properties = list_any (λ p. bytes_eq p.name name) properties

-- an element has the name
abbrev pub has_element : List ℕ → List Element → Bool
has_element name elements = list_any (λ e. bytes_eq e.name name) elements

-- the property is added to the last element
abbrev pub with_property : ℕ → Property → List Element → Result (List Element) HeadRefusal
with_property n p [] = Err (BadLine n)
with_property n p (e ∷ []) =
    if has_property p.name e.properties then Err (Twice n) else Ok (record e { properties = e.properties ++ p ∷ [] } ∷ [])
with_property n p (e ∷ next ∷ more) = with_property n p (next ∷ more) >>= λ es. Ok (e ∷ es)

-- the header after a line that is not the last, or the whole header
pub data Step : Type 0 where
  goes : Option Header → Step
  ends : Header → Step

-- the effect of line n on the header so far, which begins with the format
unfoldable pub step_of : ℕ → Option Header → Option Statement → Result Step HeadRefusal
step_of n head None = Err (BadLine n)
step_of n head (Some nothing) = Ok (goes head)
step_of n None (Some (format kind)) = Ok (goes (Some (record { kind = kind; elements = [] })))
step_of n None (Some said) = Err (BadLine n)
step_of n (Some head) (Some (format kind)) = Err (BadLine n)
step_of n (Some head) (Some (element name count)) =
    if has_element name head.elements then Err (Twice n)
    else Ok
    (goes (Some (record head { elements = head.elements ++ record { name = name; count = count; properties = [] } ∷ [] })))
step_of n (Some head) (Some (property name shape)) =
    with_property n (record { name = name; shape = shape }) head.elements
    >>= λ es. Ok (goes (Some (record head { elements = es })))
step_of n (Some head) (Some finish) = Ok (ends head)

-- the continuation after a step: more lines, or the body
abbrev pub then_lines : Step → List (List ℕ) → (Option Header → Result (Header × List ℕ) HeadRefusal)
    → Result (Header × List ℕ) HeadRefusal
then_lines (goes head) more read = read head
then_lines (ends head) more read = Ok (head, join_with_byte 10 more)

-- the header whose lines from line n on are these, and the body
unfoldable pub header_from : ℕ → Option Header → List (List ℕ) → Result (Header × List ℕ) HeadRefusal
header_from n head [] = Err HeadCut
header_from n head (part ∷ more) =
    if nat_lt 1000 n then Err LongHeader
    else (text_of_line n part more >>= λ text. step_of n head (statement_of_words (words_of text))
    >>= λ step. then_lines step more (λ next. header_from (n + 1) next more))

-- the header and the body of a text, which begins with the line `ply`
unfoldable pub header_of : List ℕ → Result (Header × List ℕ) HeadRefusal
header_of bytes =
    if starts_with nat_eq bytes (codes "ply\n") then header_from 2 None (parts_of (drop 4 bytes))
    else (if starts_with nat_eq bytes (codes "ply\r\n") then header_from 2 None (parts_of (drop 5 bytes)) else Err NotPly)
