-- The items of a list, in its field's bytes.
--
--   pieces       this number of pieces of a size, one after another
--   items_from   the bytes of each of this number of items from an offset of a body on
--   items_in kind item body field
--                the bytes of each item of a list's field. In a text these are the next tokens from the field's
--                position on, as many as the field has; else as many values of the type
--   HasItems     this number of items follows, from an offset of a body on
--   IsValueOf    bytes of a value's size, in a binary body
use Rattle.std.specs.Prelude.{ℕ, zero, suc, ◌+◌, ◌*◌, ◌≡◌, ◌≤◌, List, [], ◌∷◌, length, map, take, drop}
use Rattle.ply_head.specs.declared.header.Kind.{Kind}
use Rattle.ply_head.specs.declared.header.Kind.TheVariants.{Ascii}
use Rattle.ply_head.specs.declared.header.Scalar.{Scalar}
use Rattle.ply_rows.specs.declared.place.Field.{Field}
use Rattle.ply_rows.specs.Tokens.{Token, tokens_at}
use Rattle.ply_rows.specs.Binaries.{size_of}

-- this number of pieces of a size, one after another from an offset on
abbrev pub pieces : ℕ → ℕ → ℕ → List ℕ → List (List ℕ)
pieces zero size place body = []
pieces (suc n) size place body = take size (drop place body) ∷ pieces n size (place + size) body

-- the bytes of each of this number of items from an offset on: in a text the next tokens, and in a binary body values of the
-- type
abbrev pub items_from : Kind → Scalar → List ℕ → ℕ → ℕ → List (List ℕ)
items_from Ascii item body place n = map (λ (token : Token). token.bytes) (take n (tokens_at body place))
items_from kind item body place n = pieces n (size_of item) place body

-- the bytes of each item of a list's field, in order
abbrev pub items_in : Kind → Scalar → List ℕ → Field → List (List ℕ)
items_in kind item body field = items_from kind item body field.place field.items

-- this number of items follows, from an offset on
abbrev pub HasItems : Kind → Scalar → List ℕ → ℕ → ℕ → Type 0
HasItems Ascii item body place n = n ≤ length (tokens_at body place)
HasItems kind item body place n = place + n * size_of item ≤ length body

-- bytes of a value's size, in a binary body
abbrev pub IsValueOf : Kind → Scalar → List ℕ → Type 0
IsValueOf Ascii scalar bytes = Unit {0}
IsValueOf kind scalar bytes = length bytes ≡ size_of scalar
