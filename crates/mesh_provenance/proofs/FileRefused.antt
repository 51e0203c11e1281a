-- A text is rejected in one way, and no text of a mesh is, with its provenance or without.
--
-- The first three lines are those of a mesh with its provenance, or not; the options and what follows are one (head_code). So two errors
-- are both in the lines 4 and 5, or both after them (origin_once), or both those of a printed form (file_once).
use Rattle.std.proofs.Common.{ℕ, ◌≡◌, ◌-◌, ◌^◌, ◌⊎◌, inl, inr, refl, ap, sym, subst, ◌∙◌, arith, Option, Some, None, List, ◌++◌}
use Rattle.std.proofs.Common.{Result, Ok, Err, IfOk, IfErr, IsErr, MatchResult}
use Rattle.geo_sign.specs.Point.{Point}
use Rattle.line_text.proofs.Fronts.{cut_or_bad_same}
use Rattle.line_text.proofs.Parts.{IsOnce, IsPassed, number_once, number_passed}
use Rattle.certificate.specs.Stamps.{IsDigest}
use Rattle.cert_text.specs.Refusals.{RefusedLine}
use Rattle.mesh_ply.specs.Refusals.{mesh_refusal, IsRefusedMesh}
use Rattle.mesh_ply.specs.Texts.{ply_line, ascii_format_line, IsPrinted}
use Rattle.mesh_ply.specs.declared.refusal.MeshRefusal.{MeshRefusal}
use Rattle.mesh_ply.specs.declared.refusal.MeshRefusal.TheVariants.{NoMemory}
use Rattle.mesh_ply.proofs.MeshRefused.{mesh_once, printed_not_refused}
use Rattle.mesh_provenance.specs.declared.provenance.AnnotatedMesh.{AnnotatedMesh}
use Rattle.mesh_provenance.specs.declared.provenance.Provenance.{Provenance}
use Rattle.mesh_provenance.specs.Laws.{IsFile}
use Rattle.mesh_provenance.specs.Refusals.{Origin, IsOrigin, origin_text, RefusedOrigin, later, AtMeshBehind, AtOrigin}
use Rattle.mesh_provenance.specs.Refusals.{IsRefusedFile}
use Rattle.mesh_provenance.specs.Texts.{scale_word, digest_line, text_after_format, file_text}
use Rattle.mesh_provenance.proofs.FileCodes.{head_code, origin_parts, origin_code, printed_parts, annotated_parts, head_not_printed}
use Rattle.mesh_provenance.proofs.FileCodes.{file_code}

-- ---- in one way
mesh_refused_once : (text : List ℕ) (r s : MeshRefusal) → IsRefusedMesh text r → IsRefusedMesh text s → r ≡ s
mesh_refused_once text r s h k = h.2 ∙ (ap mesh_refusal (mesh_once text h.0 k.0 h.1 k.1) ∙ sym k.2)

lines_once : IsOnce RefusedOrigin
lines_once =
    number_once scale_word 1 (2 ^ 32 - 1) 4 (λ _. RefusedLine IsDigest digest_line 5) (omega arith)
    (λ _ _ t r s h k. cut_or_bad_same 5 t r s h.1 k.1)

lines_passed : (text rest : List ℕ) (o : Origin) → IsOrigin o → text ≡ origin_text o ++ rest → IsPassed RefusedOrigin text
lines_passed text rest o h e =
    number_passed scale_word 1 (2 ^ 32 - 1) 4 o.0 (λ _. RefusedLine IsDigest digest_line 5) text _ (omega arith) h.0
    (e ∙ origin_parts o rest) (λ r k. k.0 o.1 rest h.1 refl)

behind_once : (text : List ℕ) (r s : MeshRefusal) → AtMeshBehind text r → AtMeshBehind text s → r ≡ s
behind_once text r s h k = h.2 ∙ (ap later (mesh_refused_once _ h.0 k.0 h.1 k.1) ∙ sym k.2)

origin_once : (text : List ℕ) (r s : MeshRefusal) → AtOrigin text r → AtOrigin text s → r ≡ s
origin_once text r s (inl h) (inl k) = h.2 ∙ (ap mesh_refusal (lines_once text h.0 k.0 h.1 k.1) ∙ sym k.2)
origin_once text r s (inl h) (inr k) = absurd (lines_passed text k.rest k.value k.form k.front h.0 h.1)
origin_once text r s (inr h) (inl k) = absurd (lines_passed text h.rest h.value h.form h.front k.0 k.1)
origin_once text r s (inr h) (inr k) =
    let same = origin_code h.value k.value h.rest k.rest h.form k.form (sym h.front ∙ k.front) in
    behind_once h.rest r s h.next (subst (λ (t : List ℕ). AtMeshBehind t s) (sym same.1) k.next)

pub file_once : (text : List ℕ) (r s : MeshRefusal) → IsRefusedFile text r → IsRefusedFile text s → r ≡ s
file_once text r s (inl h) (inl k) = mesh_refused_once text r s h.1 k.1
file_once text r s (inl h) (inr k) = absurd (h.0 k.value k.rest k.form k.front)
file_once text r s (inr h) (inl k) = absurd (k.0 h.value h.rest h.form h.front)
file_once text r s (inr h) (inr k) =
    let same = head_code h.value k.value h.rest k.rest h.form k.form (sym h.front ∙ k.front) in
    origin_once h.rest r s h.next (subst (λ (t : List ℕ). AtOrigin t s) (sym same.1) k.next)

-- ---- no text of a mesh
origin_passed : (text : List ℕ) (o : Origin) (ps : List Point) (fs : List (List ℕ)) (r : MeshRefusal) → IsOrigin o
    → IsPrinted ps fs → text ≡ origin_text o ++ text_after_format ps fs → AtOrigin text r → ⊥
origin_passed text o ps fs r form w e (inl h) = lines_passed text (text_after_format ps fs) o form e h.0 h.1
origin_passed text o ps fs r form w e (inr h) =
    let same = origin_code h.value o h.rest _ h.form form (sym h.front ∙ e) in
    printed_not_refused ps fs _ w
    (ap (λ (t : List ℕ). ply_line ++ (ascii_format_line ++ t)) same.1 ∙ sym (printed_parts ps fs)) h.next.1.0 h.next.1.1

pub file_passed : (p : Option Provenance) (ps : List Point) (fs : List (List ℕ)) (text : List ℕ) (r : MeshRefusal)
    → IsFile p ps fs → text ≡ file_text p ps fs → IsRefusedFile text r → ⊥
file_passed None ps fs text r w e (inl h) = printed_not_refused ps fs text w.1 e h.1.0 h.1.1
file_passed None ps fs text r w e (inr h) = head_not_printed h.value h.rest ps fs (sym h.front ∙ e)
file_passed (Some p) ps fs text r w e (inl h) = h.0 p.made _ w.0.made (e ∙ annotated_parts p ps fs)
file_passed (Some p) ps fs text r w e (inr h) =
    let same = head_code h.value p.made h.rest _ h.form w.0.made (sym h.front ∙ (e ∙ annotated_parts p ps fs)) in
    origin_passed h.rest (p.fine, p.digest) ps fs r (w.0.fine, w.0.digest) w.1 same.1 h.next

-- ---- an error after valid lines
pub behind_refused : (text rest : List ℕ) (o : Origin) (r : MeshRefusal) → IsOrigin o → text ≡ origin_text o ++ rest
    → (r ≡ NoMemory) ⊎ AtMeshBehind rest r → (r ≡ NoMemory) ⊎ AtOrigin text r
behind_refused text rest o r form front (inl none) = inl none
behind_refused text rest o r form front (inr h) =
    inr (inr (record { value = o; rest = rest; form = form; front = front; next = h }))

-- ---- what reading answers
-- the text of a mesh with its provenance, or its printed form
abbrev pub HasRead : List ℕ → AnnotatedMesh → Type 0
HasRead text new =
    IsFile new.provenance new.mesh.points.items new.mesh.faces.items
    × (text ≡ file_text new.provenance new.mesh.points.items new.mesh.faces.items)

pub stated_so : (o : Result AnnotatedMesh MeshRefusal) (text : List ℕ) → IfOk o (HasRead text)
    → IfErr o (λ r. (r ≡ NoMemory) ⊎ IsRefusedFile text r) → (p : Option Provenance) (ps : List Point) (fs : List (List ℕ))
    → IsFile p ps fs → text ≡ file_text p ps fs
    → MatchResult o (λ new. (new.provenance ≡ p) × (new.mesh.points.items ≡ ps) × (new.mesh.faces.items ≡ fs)) (λ r. r ≡ NoMemory)
stated_so (Ok new) text ok err p ps fs w e =
    file_code new.provenance p new.mesh.points.items ps new.mesh.faces.items fs ok.0 w (sym ok.1 ∙ e)
stated_so (Err r) text ok (inl none) p ps fs w e = none
stated_so (Err r) text ok (inr h) p ps fs w e = absurd (file_passed p ps fs text r w e h)

pub first_so : (o : Result AnnotatedMesh MeshRefusal) (text : List ℕ) → IfOk o (HasRead text)
    → IfErr o (λ r. (r ≡ NoMemory) ⊎ IsRefusedFile text r) → (r : MeshRefusal) → IsRefusedFile text r
    → IfErr o (λ s. (s ≡ NoMemory) ⊎ (s ≡ r)) × IsErr o
first_so (Ok new) text ok err r h = absurd (file_passed new.provenance _ _ text r ok.0 ok.1 h)
first_so (Err s) text ok (inl none) r h = (inl none, refl)
first_so (Err s) text ok (inr k) r h = (inr (file_once text s r k h), refl)
