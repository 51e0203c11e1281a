-- The scan that a seed generates: points on the six faces of a cube, each face seen from before it.
--
--   on_axis axis along u v        the point at a distance along an axis, at u and v on the other two axes
--   on_face face distance u v     the point on a face's side, at a distance from the middle
--   spread word                   the number from -1000 to 1000 that a word maps to
--   generator seed                the generator with this seed
--   generated_row number first second   the row with this number, made of two words
--   rows_of_words number words    a row for each two words, from this number on
--   generated count seed          the scan of `count` rows that a seed makes: points on the faces of a cube, each face
--                                 seen from outside with weight 1. Each row takes two words of the generator
use Rattle.std.specs.Prelude.{ℕ, ◌+◌, ◌*◌, ◌/◌, ◌%◌, ◌==◌, List, [], ◌∷◌, ℤ, pos, neg_ℤ, ◌-ℤ◌, if◌then◌else◌}
use Rattle.geo_sign.specs.Point.{Point, point}
use Rattle.rand_core.specs.Steps.{first_words}
use Rattle.rand_pcg.specs.Lcg.{Lcg, started, increment_of}
use Rattle.rand_pcg.specs.Pcg.{multiplier_64, pcg32}
use Rattle.scan_rows.specs.ScanRows.{ScanRows, VertexRow}

-- the point at a distance along an axis; of the other two axes the earlier has u, and the later v
abbrev pub on_axis : (axis : ℕ) → (along u v : ℤ) → Point
on_axis axis along u v =
    if axis == 0 then point along u v
    else (if axis == 1 then point u along v
    else point u v along)

-- Faces 0 and 1 are before and behind the middle on the axis x, 2 and 3 on y, 4 and 5 on z.
abbrev pub on_face : (face : ℕ) → (distance u v : ℤ) → Point
on_face face distance u v = on_axis (face / 2) (if face % 2 == 0 then distance else neg_ℤ distance) u v

-- the number from -1000 to 1000 that a word maps to
abbrev pub spread : ℕ → ℤ
spread word = pos (word % 2001) -ℤ pos 1000

-- the generator with this seed, on stream 1
abbrev pub generator : ℕ → Lcg
generator seed = started 64 multiplier_64 seed (increment_of 64 1)

-- the row with this number: a point on the face whose turn it is, from two words, seen from before that face
abbrev pub generated_row : (number first second : ℕ) → VertexRow
generated_row number first second =
    record { point = on_face (number % 6) (pos 1000) (spread first) (spread second); weight = 1; seen_by = number % 6 ∷ [] }

-- a row for each two words, from this number on
abbrev pub rows_of_words : ℕ → List ℕ → List VertexRow
rows_of_words number [] = []
rows_of_words number (first ∷ []) = []
rows_of_words number (first ∷ second ∷ words) = generated_row number first second ∷ rows_of_words (number + 1) words

-- a scanner before each face
abbrev pub scanners : List Point
scanners = before 0 ∷ before 1 ∷ before 2 ∷ before 3 ∷ before 4 ∷ before 5 ∷ []
  where
    before : ℕ → Point
    before face = on_face face (pos 5000) (pos 0) (pos 0)

-- the scan with this number of rows; the generator gives two words for each, in order
abbrev pub generated : (count seed : ℕ) → ScanRows
generated count seed =
    record { vertices = rows_of_words 0 (first_words pcg32 (count * 2) (generator seed)); scanners = scanners }
