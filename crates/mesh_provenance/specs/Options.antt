-- The options with which a mesh is finished, and their text.
--
--   IsPieces pieces, IsSmoothing s   the numbers of an option are in their ranges
--   AreOptions o                                       the numbers of all options are in their ranges
--   pieces_word, .., within_word     the texts before the values of options
--   pieces_text, split_text, flips_text, smooth_text   the text of an option, empty at its default
--   smooth_end, flips_end, split_end                   the options from one on, and the end of their line
--   options_end                                        the text of all options in their order, and the end of their
--                                                      line
use Rattle.std.specs.Prelude.{ℕ, ◌-◌, ◌^◌, Bool, true, false, Option, Some, None, IfSome, List, [], ◌∷◌, ◌++◌, codes, decimal}
use Rattle.line_text.specs.Numbers.{space, line_feed, ended}
use Rattle.geo_sign.specs.Numbers.{IsBetween}
use Rattle.finish_options.specs.declared.options.FinishOptions.{FinishOptions}
use Rattle.finish_options.specs.declared.options.SmoothOptions.{SmoothOptions}
use Rattle.finish_options.specs.declared.options.TheConstants.{MOST_STEPS, FARTHEST}

-- at least one piece is kept, if not all
abbrev pub IsPieces : Option ℕ → Type 0
IsPieces pieces = IfSome pieces (IsBetween 1 (2 ^ 32 - 1))

-- at least one step and one unit, if a mesh is smoothed
abbrev pub IsSmoothing : Option SmoothOptions → Type 0
IsSmoothing s = IfSome s (λ o. IsBetween 1 MOST_STEPS o.steps × IsBetween 1 FARTHEST o.within)

-- the numbers of all options are in their ranges
pub record AreOptions (o : FinishOptions) : Type 0 where
  pub pieces : IsPieces o.pieces
  pub smoothing : IsSmoothing o.smoothing

-- how many pieces are kept
unfoldable pub pieces_word : List ℕ
pieces_word = codes " pieces="

-- vertices are split
unfoldable pub split_word : List ℕ
split_word = codes " manifold=yes"

-- edges are not flipped
unfoldable pub flips_word : List ℕ
flips_word = codes " flips=no"

-- how many steps of smoothing there are
unfoldable pub steps_word : List ℕ
steps_word = codes " smooth="

-- how far points move, after the space that ends the number of steps
unfoldable pub within_word : List ℕ
within_word = codes "within="

-- the number of pieces, unless all are kept
abbrev pub pieces_text : Option ℕ → List ℕ
pieces_text None = []
pieces_text (Some n) = pieces_word ++ decimal n

-- the split of vertices, if there is one
abbrev pub split_text : Bool → List ℕ
split_text true = split_word
split_text false = []

-- the flips of edges, if there are none
abbrev pub flips_text : Bool → List ℕ
flips_text true = []
flips_text false = flips_word

-- the two numbers of smoothing, if there is smoothing
abbrev pub smooth_text : Option SmoothOptions → List ℕ
smooth_text None = []
smooth_text (Some s) = steps_word ++ (ended s.steps space ++ (within_word ++ decimal s.within))

-- smoothing, and the end of the line
abbrev pub smooth_end : Option SmoothOptions → List ℕ
smooth_end s = smooth_text s ++ (line_feed ∷ [])

-- from the flips on
abbrev pub flips_end : Bool × Option SmoothOptions → List ℕ
flips_end p = flips_text p.0 ++ smooth_end p.1

-- from the split on
abbrev pub split_end : Bool × (Bool × Option SmoothOptions) → List ℕ
split_end p = split_text p.0 ++ flips_end p.1

-- all options, in this order, and the end of the line
abbrev pub options_end : FinishOptions → List ℕ
options_end o = pieces_text o.pieces ++ split_end (o.manifold, (o.flips, o.smoothing))
