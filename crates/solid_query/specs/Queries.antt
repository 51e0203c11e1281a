-- Points as a text of decimals.
--
--   tokens_of bytes          the runs of bytes other than white space
--   units_or_refusal n number   the number of units in token n, or its error
--   token_coordinate unit n token   the scaled number that token n is, or why it is none
--   point_or_refusal x y z   the point of three such numbers, or the first error among them
--   points_from unit n ..    the points of these tokens, counted from n, or the first error among them
--   points_in bytes unit     the points that a text is, or why it is none: too many tokens, a number of tokens that is
--                            no multiple of three, or the first token that is no number
--   Gives view answer read   a call returned what reading gives, unless memory ran out
use Rattle.std.specs.Prelude.{ℕ, ℤ, ◌≡◌, ◌+◌, ◌%◌, ◌==◌, nat_lt, not, List, [], ◌∷◌, length, filter, Result, Ok, Err}
use Rattle.std.specs.Prelude.{if◌then◌else◌}
use Rattle.std.specs.List.{slice_split}
use Rattle.geo_sign.specs.Point.{Point, point}
use Rattle.num_text.specs.Decimals.{scaled_of}
use Rattle.num_text.specs.declared.refusal.NumRefusal.{NumRefusal}
use Rattle.num_text.specs.declared.refusal.NumRefusal.TheVariants as numbers
use Rattle.ply_rows.specs.Tokens.{is_white_space}
use Rattle.solid_query.specs.declared.queries.TheConstants.{TOKEN_LIMIT}
use Rattle.solid_query.specs.declared.refusal.QueryRefusal.{QueryRefusal}
use Rattle.solid_query.specs.declared.refusal.QueryRefusal.TheVariants.{BadToken, LongNumber, OutOfRange, Uneven, TooMany, NoMemory}

-- the runs of bytes other than white space
abbrev pub tokens_of : List ℕ → List (List ℕ)
tokens_of bytes = filter (λ token. not (length token == 0)) (slice_split is_white_space bytes)

-- the number of units in token n, or its error
abbrev pub units_or_refusal : ℕ → Result ℤ NumRefusal → Result ℤ QueryRefusal
units_or_refusal n (Ok units) = Ok units
units_or_refusal n (Err numbers.NotANumber) = Err (BadToken n)
units_or_refusal n (Err numbers.LongNumber) = Err (LongNumber n)
units_or_refusal n (Err numbers.OutOfRange) = Err (OutOfRange n)

abbrev pub token_coordinate : (unit n : ℕ) → List ℕ → Result ℤ QueryRefusal
token_coordinate unit n token = units_or_refusal n (scaled_of token unit)

-- the point of three coordinates, or the first error among them
abbrev pub point_or_refusal : (x y z : Result ℤ QueryRefusal) → Result Point QueryRefusal
point_or_refusal (Ok x) (Ok y) (Ok z) = Ok (point x y z)
point_or_refusal (Ok x) (Ok y) (Err why) = Err why
point_or_refusal (Ok x) (Err why) z = Err why
point_or_refusal (Err why) y z = Err why

-- a point, and the points after it, or the first error
abbrev pub before : Result Point QueryRefusal → Result (List Point) QueryRefusal → Result (List Point) QueryRefusal
before (Ok p) (Ok points) = Ok (p ∷ points)
before (Ok p) (Err why) = Err why
before (Err why) points = Err why

-- three tokens are a point; the first of these is token n
abbrev pub points_from : (unit n : ℕ) → List (List ℕ) → Result (List Point) QueryRefusal
points_from unit n (x ∷ y ∷ z ∷ tokens) =
    before (point_or_refusal (token_coordinate unit n x) (token_coordinate unit (n + 1) y) (token_coordinate unit (n + 2) z))
    (points_from unit (n + 3) tokens)
points_from unit n tokens = Ok []

-- the points of this number of tokens
abbrev pub points_among : (unit : ℕ) → List (List ℕ) → Result (List Point) QueryRefusal
points_among unit tokens =
    if nat_lt TOKEN_LIMIT (length tokens) then Err (TooMany (length tokens))
    else (if length tokens % 3 == 0 then points_from unit 0 tokens
    else Err (Uneven (length tokens)))

-- the points in a text, or its error
unfoldable pub points_in : List ℕ → (unit : ℕ) → Result (List Point) QueryRefusal
points_in bytes unit = points_among unit (tokens_of bytes)

-- the same of the error alone
abbrev pub Fails : {Y : Type 0} → QueryRefusal → Result Y QueryRefusal → Type 0
Fails NoMemory read = Unit {0}
Fails why read = read ≡ Err why

-- the result of a call, seen by view, is that of the definition, unless memory ran out
abbrev pub Gives : {X Y : Type 0} → (X → Y) → Result X QueryRefusal → Result Y QueryRefusal → Type 0
Gives view (Ok x) read = read ≡ Ok (view x)
Gives view (Err why) read = Fails why read
