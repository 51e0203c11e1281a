-- The options with which a mesh is simplified, and their text.
--
--   AreSimplifyOptions o   the numbers of the options are in their ranges
--   simplify_word, faces_word   the texts before the two numbers
--   surface_word           the text that says that all points are meant
--   covered_text surface   this text, empty at the default
--   move_word              the text that says that vertices move
--   moved_text moves       this text, empty at the default
--   simplify_end o         the options, and the end of their line
use Rattle.std.specs.Prelude.{ℕ, ◌-◌, ◌^◌, Bool, true, false, List, [], ◌++◌, codes}
use Rattle.line_text.specs.Numbers.{space, ended, counted}
use Rattle.geo_sign.specs.Numbers.{IsBetween}
use Rattle.finish_options.specs.declared.options.SimplifyOptions.{SimplifyOptions}
use Rattle.finish_options.specs.declared.options.TheConstants.{FARTHEST}

-- at least one unit, and a number of faces that fits 32 bits
abbrev pub AreSimplifyOptions : SimplifyOptions → Type 0
AreSimplifyOptions o = IsBetween 1 FARTHEST o.within × IsBetween 0 (2 ^ 32 - 1) o.faces

-- the distance follows
unfoldable pub simplify_word : List ℕ
simplify_word = codes "comment recon-mesh simplify within="

-- how many faces are left at least, after the space that ends the distance
unfoldable pub faces_word : List ℕ
faces_word = codes "faces="

-- each point of either mesh is near the other
unfoldable pub surface_word : List ℕ
surface_word = codes "surface=yes "

-- the same, if it was asked
abbrev pub covered_text : Bool → List ℕ
covered_text true = surface_word
covered_text false = []

-- vertices may be elsewhere
unfoldable pub move_word : List ℕ
move_word = codes "move=yes "

-- the same, if it was asked
abbrev pub moved_text : Bool → List ℕ
moved_text true = move_word
moved_text false = []

-- the distance, whether all points are meant, whether vertices move, and the number of faces, to the end of the line
abbrev pub simplify_end : SimplifyOptions → List ℕ
simplify_end o =
    ended o.within space ++ (covered_text o.surface ++ (moved_text o.moves ++ counted faces_word o.faces))
