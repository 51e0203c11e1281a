-- A text is refused as no mesh in one way, and no printed text is refused.
--
-- The parts are nine lines of the header, of which two have numbers, and then the points, the faces and the end. A text that
-- begins with a good part begins with no other, so two refusals are in one part, where there is one (mesh_once, by the _once
-- of each part). A printed mesh passes them all in turn (printed_not_refused, by the _passed). The last lemmas say it of what
-- reading answers.
use Rattle.std.proofs.Common.{ℕ, ◌≡◌, ◌-◌, ◌<◌, ◌^◌, ◌⊎◌, inl, inr, refl, ap, sym, subst, ◌∙◌, arith, None, List, [], ◌++◌}
use Rattle.std.proofs.Common.{length}
use Rattle.std.specs.List.{flat_map}
use Rattle.std.proofs.lemmas.List.{append-nil}
use Rattle.geo_sign.specs.Point.{Point, IsWithin}
use Rattle.line_text.specs.declared.refusal.LineRefusal.{LineRefusal}
use Rattle.line_text.specs.declared.refusal.LineRefusal.TheVariants as lines
use Rattle.line_text.specs.Refusals.{line_after, AreCountedRows, IsBehindEnd}
use Rattle.line_text.specs.Lists.{WithMemory}
use Rattle.line_text.proofs.Parts.{IsOnce, IsPassed, word_once, word_passed, number_once, number_passed, rows_once, rows_passed}
use Rattle.line_text.proofs.Parts.{rows_good, end_once, end_passed}
use Rattle.mesh.specs.Meshes.{IsFace}
use Rattle.mesh_ply.specs.Texts.{ply_line, ascii_format_line, vertex_word, x_line, y_line, z_line, face_word, list_line, header_end}
use Rattle.mesh_ply.specs.Texts.{point_line, face_line, mesh_text, IsPrinted}
use Rattle.mesh_ply.specs.declared.refusal.MeshRefusal.{MeshRefusal}
use Rattle.mesh_ply.specs.declared.refusal.MeshRefusal.TheVariants.{NoMemory}
use Rattle.mesh_ply.specs.Refusals.{mesh_refusal, AtFaces, AtPoints, AtFaceCount, AtMesh, IsRefusedMesh}
use Rattle.mesh_ply.proofs.MeshCodes.{point_code, face_code, lines_of, mesh_code}
use Rattle.geo_sign.specs.declared.point.TheConstants.{BOX_LIMIT}

-- ---- from one list on
pub at_faces : (n m line : ℕ) (text rest : List ℕ) (points : List Point) (r : LineRefusal) → line ≡ line_after 10 n
    → AreCountedRows (IsWithin BOX_LIMIT) None n points → text ≡ flat_map point_line points ++ rest → AtFaces n m line rest r
    → AtPoints n m text r
at_faces n m line text rest points r e form front next =
    rows_good (IsWithin BOX_LIMIT) point_line None n 10 text rest points r (λ _ t. AtFaces n m (line_after 10 n) t r) form front
    (subst (λ (k : ℕ). AtFaces n m k rest r) e next)

pub at_end : (n m line k : ℕ) (text rest : List ℕ) (faces : List (List ℕ)) → AreCountedRows (IsFace n) None m faces
    → text ≡ flat_map face_line faces ++ rest → ¬ (rest ≡ []) → k ≡ line_after line m → AtFaces n m line text (lines.BadLine k)
at_end n m line k text rest faces form front some e = grind (arith, rows_good)

-- ---- in one way
faces_once : (n m k : ℕ) → n < 2 ^ 32 → IsOnce (AtFaces n m k)
faces_once n m k few =
    rows_once (IsFace n) face_line None (face_code n few) m k (λ _. IsBehindEnd (line_after k m))
    (λ _ _. end_once (line_after k m))

points_once : (n m : ℕ) → n < 2 ^ 32 → IsOnce (AtPoints n m)
points_once n m few =
    rows_once (IsWithin BOX_LIMIT) point_line None point_code n 10 (λ _. AtFaces n m (line_after 10 n))
    (λ _ _. faces_once n m (line_after 10 n) few)

face_count_once : (n : ℕ) → n < 2 ^ 32 → IsOnce (AtFaceCount n)
face_count_once n few =
    word_once x_line 4 _ (word_once y_line 5 _ (word_once z_line 6 _
    (number_once face_word 0 (2 ^ 32 - 1) 7 _ (omega arith) (λ m _.
    word_once list_line 8 _ (word_once header_end 9 _ (points_once n m few))))))

pub mesh_once : IsOnce AtMesh
mesh_once =
    word_once ply_line 1 _ (word_once ascii_format_line 2 _
    (number_once vertex_word 0 (2 ^ 32 - 1) 3 _ (omega arith) (λ n few. face_count_once n (omega (arith, few.1)))))

-- ---- no printed text
points_passed : (ps : List Point) (fs : List (List ℕ)) → IsPrinted ps fs
    → IsPassed (AtPoints (length ps) (length fs)) (flat_map point_line ps ++ (flat_map face_line fs ++ []))
points_passed ps fs w =
    let n : ℕ = length ps in
    let m : ℕ = length fs in
    rows_passed (IsWithin BOX_LIMIT) point_line None point_code n 10 (λ _. AtFaces n m (line_after 10 n)) _ _ ps
    (refl, record { each = w.boxed; rising = tt }) refl
    (rows_passed (IsFace n) face_line None (face_code n w.valid.few_points) m (line_after 10 n)
    (λ _. IsBehindEnd (line_after (line_after 10 n) m)) _ [] fs (refl, record { each = w.valid.each; rising = tt }) refl
    (end_passed _))

pub printed_not_refused : (ps : List Point) (fs : List (List ℕ)) (text : List ℕ) → IsPrinted ps fs → text ≡ mesh_text ps fs
    → IsPassed AtMesh text
printed_not_refused ps fs text w e =
    word_passed ply_line 1 _ text _ (e ∙ (sym (append-nil (mesh_text ps fs)) ∙ lines_of ps fs []))
    (word_passed ascii_format_line 2 _ _ _ refl
    (number_passed vertex_word 0 (2 ^ 32 - 1) 3 (length ps) _ _ _ (omega arith) (omega arith, omega (arith, w.valid.few_points)) refl
    (word_passed x_line 4 _ _ _ refl (word_passed y_line 5 _ _ _ refl (word_passed z_line 6 _ _ _ refl
    (number_passed face_word 0 (2 ^ 32 - 1) 7 (length fs) _ _ _ (omega arith) (omega arith, omega (arith, w.valid.few_faces)) refl
    (word_passed list_line 8 _ _ _ refl (word_passed header_end 9 _ _ _ refl (points_passed ps fs w)))))))))

-- ---- what reading answers, by what its lines were refused for
pub refused_or : (l : LineRefusal) (text : List ℕ) (r : MeshRefusal) → r ≡ mesh_refusal l → WithMemory l (AtMesh text l)
    → (r ≡ NoMemory) ⊎ IsRefusedMesh text r
refused_or (lines.BadLine n) text r e h = inr (lines.BadLine n, h, e)
refused_or (lines.Order n) text r e h = inr (lines.Order n, h, e)
refused_or lines.Cut text r e h = inr (lines.Cut, h, e)
refused_or lines.NoMemory text r e h = inl e

pub first_or : (l : LineRefusal) (text : List ℕ) (r s : MeshRefusal) → s ≡ mesh_refusal l → WithMemory l (AtMesh text l)
    → IsRefusedMesh text r → (s ≡ NoMemory) ⊎ (s ≡ r)
first_or l text r s e h k = by (refused_or l text s e h)
  where
    by : (s ≡ NoMemory) ⊎ IsRefusedMesh text s → (s ≡ NoMemory) ⊎ (s ≡ r)
    by (inl none) = inl none
    by (inr i) = inr (i.2 ∙ (ap mesh_refusal (mesh_once text i.0 k.0 i.1 k.1) ∙ sym k.2))

pub printed_or : (l : LineRefusal) (text : List ℕ) (ps : List Point) (fs : List (List ℕ)) (s : MeshRefusal) → s ≡ mesh_refusal l
    → WithMemory l (AtMesh text l) → IsPrinted ps fs → text ≡ mesh_text ps fs → s ≡ NoMemory
printed_or l text ps fs s e h w is = by (refused_or l text s e h)
  where
    by : (s ≡ NoMemory) ⊎ IsRefusedMesh text s → s ≡ NoMemory
    by (inl none) = none
    by (inr i) = absurd (printed_not_refused ps fs text w is i.0 i.1)

pub same_mesh : (text : List ℕ) (ps qs : List Point) (fs gs : List (List ℕ)) → IsPrinted ps fs × (text ≡ mesh_text ps fs)
    → IsPrinted qs gs → text ≡ mesh_text qs gs → (ps ≡ qs) × (fs ≡ gs)
same_mesh text ps qs fs gs h w is =
    let both = mesh_code ps qs fs gs [] [] h.0 w (ap (λ (t : List ℕ). t ++ []) (sym h.1 ∙ is)) in
    (both.0, both.1)

pub good_not_refused : (text : List ℕ) (ps : List Point) (fs : List (List ℕ)) (r : MeshRefusal)
    → IsPrinted ps fs × (text ≡ mesh_text ps fs) → IsRefusedMesh text r → ⊥
good_not_refused text ps fs r h k = printed_not_refused ps fs text h.0 h.1 k.0 k.1
