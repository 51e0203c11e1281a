-- Where a finished or simplified mesh comes from, and the text of a mesh that states it: the printed form of the mesh with three lines of comments
-- after its first two.
--
--   IsMade m                        the options of what was done are valid
--   IsProvenance p                  the options, the scale and the digest of p are valid
--   finish_word, scale_word, digest_word   the texts before the options, the scale and the digest
--   digest_line digest              the line of a digest
--   made_line m                     the line of what was done, with its options
--   provenance_lines p              the three comment lines of a finished mesh
--   text_after_format points faces  the printed form after its first two lines
--   annotated_text p points faces   the printed form of the mesh with the three comment lines
--   file_text p points faces        `annotated_text` if there is a provenance, else the printed form
use Rattle.std.specs.Prelude.{ℕ, ◌-◌, ◌^◌, Option, Some, None, List, [], ◌∷◌, ◌++◌, codes, length}
use Rattle.geo_sign.specs.Point.{Point}
use Rattle.hex.specs.Hex.{encode_lower}
use Rattle.line_text.specs.Numbers.{counted}
use Rattle.geo_sign.specs.Numbers.{IsBetween}
use Rattle.mesh_ply.specs.Texts.{ply_line, ascii_format_line, vertex_word, mesh_text}
use Rattle.mesh_ply.specs.TextParts.{text_behind_count}
use Rattle.certificate.specs.Stamps.{IsDigest}
use Rattle.mesh_provenance.specs.Options.{AreOptions, options_end}
use Rattle.mesh_provenance.specs.Simplifying.{AreSimplifyOptions, simplify_word, simplify_end}
use Rattle.finish_options.specs.declared.options.Made.{Made}
use Rattle.finish_options.specs.declared.options.Made.TheVariants.{Finish, Simplify}
use Rattle.mesh_provenance.specs.declared.provenance.Provenance.{Provenance}

-- the options of what was done are valid
abbrev pub IsMade : Made → Type 0
IsMade (Finish o) = AreOptions o
IsMade (Simplify o) = AreSimplifyOptions o

-- valid options, a scale that fits 32 bits and is not 0, and 32 bytes
pub record IsProvenance (p : Provenance) : Type 0 where
  pub made : IsMade p.made
  pub fine : IsBetween 1 (2 ^ 32 - 1) p.fine
  pub digest : IsDigest p.digest

-- the options follow
unfoldable pub finish_word : List ℕ
finish_word = codes "comment recon-mesh finish"

-- how many units of this mesh one unit of the mesh before has
unfoldable pub scale_word : List ℕ
scale_word = codes "comment scale "

-- the SHA-256 of the file of the mesh before follows
unfoldable pub digest_word : List ℕ
digest_word = codes "comment sha256 "

-- the digest in lower-case hexadecimal digits, two a byte
abbrev pub digest_line : List ℕ → List ℕ
digest_line digest = digest_word ++ (encode_lower digest ++ 10 ∷ [])

-- the line of what was done, with its options
abbrev pub made_line : Made → List ℕ
made_line (Finish o) = finish_word ++ options_end o
made_line (Simplify o) = simplify_word ++ simplify_end o

-- the options, the scale and the digest
abbrev pub provenance_lines : Provenance → List ℕ
provenance_lines p = made_line p.made ++ (counted scale_word p.fine ++ digest_line p.digest)

-- the printed form after its first two lines
abbrev pub text_after_format : List Point → List (List ℕ) → List ℕ
text_after_format points faces = counted vertex_word (length points) ++ text_behind_count points faces

-- the printed form with the lines of the provenance after its first two
abbrev pub annotated_text : Provenance → List Point → List (List ℕ) → List ℕ
annotated_text p points faces =
    ply_line ++ (ascii_format_line ++ (provenance_lines p ++ text_after_format points faces))

-- the text with the provenance, if there is one, or the printed form
abbrev pub file_text : Option Provenance → List Point → List (List ℕ) → List ℕ
file_text None points faces = mesh_text points faces
file_text (Some p) points faces = annotated_text p points faces
