-- The options from one on, as they are read: what holds of them, and what ends a number.
--
--   IsStop byte, IsStopped text   a space or a line feed; the text begins with one
--   IsNumbers s, numbers_end s    the numbers of smoothing, and their text up to the end of the line
--   IsFlipsTail p, IsSplitTail p          what follows the flips, and the split, is valid
--   Counted, IsCounted p, counted_end p   a number of pieces and what follows it, and their text after its key
use Rattle.std.specs.Prelude.{ℕ, ◌≡◌, ◌⊎◌, ◌-◌, ◌^◌, Bool, Option, Some, List, [], ◌∷◌, ◌++◌, decimal}
use Rattle.geo_sign.specs.Numbers.{IsBetween}
use Rattle.mesh_provenance.specs.Options.{IsSmoothing, smooth_end, split_end}
use Rattle.finish_options.specs.declared.options.SmoothOptions.{SmoothOptions}
use Rattle.finish_options.specs.declared.options.TheConstants.{MOST_STEPS, FARTHEST}

-- a space or a line feed
abbrev pub IsStop : ℕ → Type 0
IsStop byte = (byte ≡ 32) ⊎ (byte ≡ 10)

-- the text begins with one
abbrev pub IsStopped : List ℕ → Type 0
IsStopped [] = ⊥
IsStopped (byte ∷ rest) = IsStop byte

-- the numbers of smoothing are in their ranges
abbrev pub IsNumbers : SmoothOptions → Type 0
IsNumbers s = IsBetween 1 MOST_STEPS s.steps × IsBetween 1 FARTHEST s.within

-- their text, and the end of the line
abbrev pub numbers_end : SmoothOptions → List ℕ
numbers_end s = smooth_end (Some s)

-- smoothing, after whether edges are flipped
abbrev pub IsFlipsTail : Bool × Option SmoothOptions → Type 0
IsFlipsTail p = IsSmoothing p.1

-- the same, after whether vertices are split
abbrev pub IsSplitTail : Bool × (Bool × Option SmoothOptions) → Type 0
IsSplitTail p = IsFlipsTail p.1

-- a number of pieces, and what follows it
abbrev pub Counted : Type 0
Counted = ℕ × (Bool × (Bool × Option SmoothOptions))

-- the number is in its range, and so are those that follow
abbrev pub IsCounted : Counted → Type 0
IsCounted p = IsBetween 1 (2 ^ 32 - 1) p.0 × IsSplitTail p.1

-- their text, and the end of the line
abbrev pub counted_end : Counted → List ℕ
counted_end p = decimal p.0 ++ split_end p.1
