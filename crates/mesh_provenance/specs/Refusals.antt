-- Why a text is neither a mesh with its provenance nor the printed form of a mesh: the first error in line order.
--
--   head_text m             the first three lines of a mesh with its provenance, the third with what was done
--   Origin, IsOrigin o, origin_text o
--                           the scale and the digest of a mesh with its provenance; both are valid; their two lines
--   RefusedOrigin text r    r is the error of line 4 or else of line 5 of a mesh with its provenance: the scale or the
--                           digest is invalid
--   later r                 the error of a printed form, as that of the same text with three more lines
--   AtMeshBehind text r     r is the first error of a mesh with its provenance after line 5: that of the same mesh
--                           without the three comment lines, three lines later
--   AtOrigin text r         r is the first error of a mesh with its provenance after line 3
--   IsReadBehind m text p points faces
--                           the text after line 3 is the rest of a mesh with the provenance p, in which m was done
--   IsRefusedFile text r    the whole text is rejected
use Rattle.std.specs.Prelude.{ℕ, ◌≡◌, ◌⊎◌, ◌+◌, ◌-◌, ◌^◌, min, List, ◌++◌}
use Rattle.geo_sign.specs.Point.{Point}
use Rattle.line_text.specs.Numbers.{counted, BeginsWithNone}
use Rattle.geo_sign.specs.Numbers.{IsBetween}
use Rattle.line_text.specs.declared.refusal.LineRefusal.{LineRefusal}
use Rattle.line_text.specs.Refusals.{AtNumber, BeginsWith}
use Rattle.certificate.specs.Stamps.{IsDigest}
use Rattle.cert_text.specs.Refusals.{RefusedLine}
use Rattle.mesh_ply.specs.Refusals.{mesh_refusal, IsRefusedMesh}
use Rattle.mesh_ply.specs.Texts.{ply_line, ascii_format_line, IsPrinted}
use Rattle.mesh_ply.specs.declared.refusal.MeshRefusal.{MeshRefusal}
use Rattle.mesh_ply.specs.declared.refusal.MeshRefusal.TheVariants.{BadLine, MeshCut, NoMemory}
use Rattle.mesh_provenance.specs.Texts.{IsMade, scale_word, digest_line, made_line, text_after_format}
use Rattle.mesh_provenance.specs.declared.provenance.Provenance.{Provenance}
use Rattle.finish_options.specs.declared.options.Made.{Made}

-- the first three lines
abbrev pub head_text : Made → List ℕ
head_text m = ply_line ++ (ascii_format_line ++ made_line m)

-- scale and digest
abbrev pub Origin : Type 0
Origin = ℕ × List ℕ

-- a scale that fits 32 bits and is not 0, and 32 bytes
abbrev pub IsOrigin : Origin → Type 0
IsOrigin o = IsBetween 1 (2 ^ 32 - 1) o.0 × IsDigest o.1

-- the lines 4 and 5
abbrev pub origin_text : Origin → List ℕ
origin_text o = counted scale_word o.0 ++ digest_line o.1

-- line 4 is rejected, or it is valid and line 5 is
abbrev pub RefusedOrigin : List ℕ → LineRefusal → Type 0
RefusedOrigin text r = AtNumber scale_word 1 (2 ^ 32 - 1) 4 text r (λ _ rest. RefusedLine IsDigest digest_line 5 rest r)

-- a line of the printed form is three lines later; a line number stops at the maximum of 32 bits
abbrev pub later : MeshRefusal → MeshRefusal
later (BadLine n) = BadLine (min (n + 3) (2 ^ 32 - 1))
later MeshCut = MeshCut
later NoMemory = NoMemory

-- without its comments the text has this error, three lines before
abbrev pub AtMeshBehind : List ℕ → MeshRefusal → Type 0
AtMeshBehind text r = (s : MeshRefusal) × IsRefusedMesh (ply_line ++ (ascii_format_line ++ text)) s × (r ≡ later s)

-- the text after line 3 is rejected
abbrev pub AtOrigin : List ℕ → MeshRefusal → Type 0
AtOrigin text r =
    ((l : LineRefusal) × RefusedOrigin text l × (r ≡ mesh_refusal l))
    ⊎ BeginsWith IsOrigin origin_text text (λ _ rest. AtMeshBehind rest r)

-- the text after line 3 is the rest of a mesh with this provenance
pub record IsReadBehind (m : Made) (text : List ℕ) (p : Provenance) (points : List Point) (faces : List (List ℕ)) : Type 0 where
  pub made : p.made ≡ m
  pub origin : IsOrigin (p.fine, p.digest)
  pub printed : IsPrinted points faces
  pub text_is : text ≡ origin_text (p.fine, p.digest) ++ text_after_format points faces

-- A text whose first three lines are those of a mesh with its provenance is rejected at its first line that is not as it has to be
-- after these. Any other text is rejected as a printed form.
abbrev pub IsRefusedFile : List ℕ → MeshRefusal → Type 0
IsRefusedFile text r =
    (BeginsWithNone IsMade head_text text × IsRefusedMesh text r)
    ⊎ BeginsWith IsMade head_text text (λ _ rest. AtOrigin rest r)
