-- The headers that a text may have, and those that can be printed.
--
--   IsName              a valid name of an element or a property
--   HasWholeCount       a list's count has an integer type
--   IsReadableProperty, IsReadableElement   the properties of each property, element and header that is read
--   IsReadable          a header that a text may have: at most 1,000 elements, no two names equal
--   KeepsLimits         the printed lines of a header are at most 1,000, of at most 1,000 bytes each
use Rattle.std.specs.Prelude.{ℕ, ◌≡◌, ◌≢◌, ◌≤◌, ◌<◌, true, List, length, All, AllPairs, Some}
use Rattle.std.specs.List.{list_all}
use Rattle.ply_head.specs.declared.header.Shape.{Shape}
use Rattle.ply_head.specs.declared.header.Shape.TheVariants.{One, Many}
use Rattle.ply_head.specs.declared.header.Property.{Property}
use Rattle.ply_head.specs.declared.header.Element.{Element}
use Rattle.ply_head.specs.declared.header.Header.{Header}
use Rattle.ply_head.specs.Statements.{is_name_byte, whole_scalar}
use Rattle.ply_head.specs.Spelling.{header_lines}

-- at least one byte, and each a visible ASCII character
pub record IsName (name : List ℕ) : Type 0 where
  pub some : 0 < length name
  pub visible : list_all is_name_byte name ≡ true

-- a list's count has an integer type
abbrev pub HasWholeCount : Shape → Type 0
HasWholeCount (One scalar) = Unit {0}
HasWholeCount (Many count item) = whole_scalar count ≡ Some count

-- a valid property of an element
pub record IsReadableProperty (p : Property) : Type 0 where
  pub name : IsName p.name
  pub count : HasWholeCount p.shape

-- a valid element of a header: no two of its properties have the same name
pub record IsReadableElement (e : Element) : Type 0 where
  pub name : IsName e.name
  pub count : e.count ≤ 4294967295
  pub few : length e.properties ≤ 1000
  pub properties : All IsReadableProperty e.properties
  pub apart : AllPairs (λ p q. p.name ≢ q.name) e.properties

-- a valid header: no two of its elements have the same name
pub record IsReadable (head : Header) : Type 0 where
  pub few : length head.elements ≤ 1000
  pub elements : All IsReadableElement head.elements
  pub apart : AllPairs (λ d e. d.name ≢ e.name) head.elements

-- the printed header has at most 1,000 lines, each of at most 1,000 bytes without its end
pub record KeepsLimits (head : Header) : Type 0 where
  pub few : length (header_lines head) ≤ 1000
  pub short : All (λ line. length line ≤ 1000) (header_lines head)
