-- Which texts have a header: by cases on the content of each line.
--
--   Says           a line without its LF states this
--   AddsElement, AddsProperty   the header with one more element, or one more property
--   Adds           the effect of a statement on the header so far
--   Leads          the effect of the statements of some lines, one after another
--   IsLine         bytes that may be a header's line
--   HasHeader bytes head body   the file is the lines of a header by the grammar, and then the body
use Rattle.std.specs.Prelude.{ℕ, ◌+◌, ◌≡◌, ◌≤◌, ◌⊎◌, false, List, [], ◌∷◌, ◌++◌, length, All, codes, Option, Some, None}
use Rattle.ply_head.specs.declared.header.Header.{Header}
use Rattle.ply_head.specs.declared.header.Element.{Element}
use Rattle.ply_head.specs.declared.header.Property.{Property}
use Rattle.ply_head.specs.Lines.{is_line_feed, line_text, words_of}
use Rattle.ply_head.specs.Statements.{Statement, nothing, format, element, property, finish, statement_of_words}
use Rattle.ply_head.specs.Headers.{has_property, has_element}
use Rattle.ply_head.specs.Spelling.{joined}

-- the tokens of the line are those of the statement
abbrev pub Says : List ℕ → Statement → Type 0
Says line statement = statement_of_words (words_of (line_text line)) ≡ Some statement

-- the header with one more element, whose name is new and which has no properties yet
pub record AddsElement (before : Header) (name : List ℕ) (count : ℕ) (after : Option Header) : Type 0 where
  pub is_new : has_element name before.elements ≡ false
  pub is : after
      ≡ Some (record before { elements = before.elements ++ record { name = name; count = count; properties = [] } ∷ [] })

-- the header whose last element has one more property, with a name that is new there
pub record AddsProperty (before : Header) (added : Property) (after : Option Header) : Type 0 where
  pub front : List Element
  pub last : Element
  pub is_last : before.elements ≡ front ++ last ∷ []
  pub is_new : has_property added.name last.properties ≡ false
  pub is : after ≡ Some (record before { elements = front ++ record last { properties = last.properties ++ added ∷ [] } ∷ [] })

-- the effect of a statement on the header so far, which is none before the format: a format begins it, an element or a property
-- adds to it, and anything else is invalid there
abbrev pub Adds : Option Header → Statement → Option Header → Type 0
Adds before nothing after = after ≡ before
Adds None (format kind) after = after ≡ Some (record { kind = kind; elements = [] })
Adds (Some head) (element name count) after = AddsElement head name count after
Adds (Some head) (property name shape) after = AddsProperty head (record { name = name; shape = shape }) after
Adds before statement after = ⊥

-- the lines lead from one header so far to another: each states something whose effect is the next
abbrev pub Leads : Option Header → List (List ℕ) → Option Header → Type 0
Leads before [] after = after ≡ before
Leads before (line ∷ lines) after =
    (next : Option Header)
    × ((statement : Statement) × (Says line statement × Adds before statement next × Leads next lines after))

-- no LF is in the line, and without a CR at its end it has at most 1,000 bytes
pub record IsLine (line : List ℕ) : Type 0 where
  pub no_feed : All (λ b. is_line_feed b ≡ false) line
  pub short : length (line_text line) ≤ 1000

-- the text is lines, each ended by LF, and the body: a line `ply`, lines that lead to the
-- header, and a line `end_header`, at most 1,000 in all
pub record HasHeader (bytes : List ℕ) (head : Header) (body : List ℕ) : Type 0 where
  pub first : List ℕ
  pub inner : List (List ℕ)
  pub last : List ℕ
  pub bytes_are : bytes ≡ joined (first ∷ (inner ++ last ∷ [])) ++ body
  pub begins : (first ≡ codes "ply") ⊎ (first ≡ codes "ply\r")
  pub inner_lines : All IsLine inner
  pub last_line : IsLine last
  pub few : length inner + 2 ≤ 1000
  pub leads : Leads None inner (Some head)
  pub ends : Says last finish
