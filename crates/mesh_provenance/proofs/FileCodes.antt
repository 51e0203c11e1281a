-- The text of a mesh with its provenance says which they are.
--
-- The lines of the digest differ from those of a certificate in their first word alone, so what holds of these is said of those
-- (digest_code, from_scan). The third line tells whether there is a provenance: it begins with another word (head_not_printed). With the
-- same options, scale and digest the rest is one, and so are the printed forms (file_code).
use Rattle.std.proofs.Common.{ℕ, ◌≡◌, refl, ap, sym, ◌∙◌, arith, Option, Some, None, List, [], ◌∷◌, ◌++◌, length, get_or}
use Rattle.std.proofs.Common.{append_assoc, IfNone}
use Rattle.geo_sign.specs.Point.{Point}
use Rattle.hex.specs.Hex.{encode_lower}
use Rattle.line_text.specs.Numbers.{counted, BeginsWithNone}
use Rattle.line_text.proofs.Codes.{IsCode, behind_same, counted_code}
use Rattle.mesh_ply.specs.Texts.{ply_line, ascii_format_line, vertex_word, mesh_text, IsPrinted}
use Rattle.mesh_ply.proofs.MeshCodes.{mesh_code}
use Rattle.certificate.specs.Stamps.{IsDigest}
use Rattle.cert_text.specs.Texts.{scan_word, scan_line}
use Rattle.cert_text.proofs.StampCodes.{scan_code, scan_parts}
use Rattle.finish_options.specs.declared.options.Made.{Made}
use Rattle.mesh_provenance.specs.declared.provenance.Provenance.{Provenance}
use Rattle.mesh_provenance.specs.Laws.{TextsTellFiles}
use Rattle.mesh_provenance.specs.Refusals.{head_text, Origin, IsOrigin, origin_text}
use Rattle.mesh_provenance.specs.Texts.{IsMade, scale_word, digest_word, digest_line, made_line, text_after_format}
use Rattle.mesh_provenance.specs.Texts.{annotated_text}
use Rattle.mesh_provenance.proofs.MadeCodes.{made_code, made_not_vertices}

-- ---- the first three lines
pub head_parts : (m : Made) (r : List ℕ) → head_text m ++ r ≡ ply_line ++ (ascii_format_line ++ (made_line m ++ r))
head_parts m r =
    append_assoc ply_line (ascii_format_line ++ made_line m) r
    ∙ ap (λ (t : List ℕ). ply_line ++ t) (append_assoc ascii_format_line (made_line m) r)

pub head_code : IsCode IsMade head_text
head_code v w r s a b e =
    made_code v w r s a b
    (behind_same ascii_format_line _ _ (behind_same ply_line _ _ (sym (head_parts v r) ∙ e ∙ head_parts w s)))

-- ---- texts that do not begin with these lines
pub no_format : (text rest : List ℕ) → text ≡ ply_line ++ rest → ((u : List ℕ) → ¬ (rest ≡ ascii_format_line ++ u))
    → BeginsWithNone IsMade head_text text
no_format text rest a other = λ o r h e. other _ (behind_same ply_line _ _ (sym a ∙ (e ∙ head_parts o r)))

pub no_made : {A : Type 0} (found : Option A) (text t u : List ℕ) → text ≡ ply_line ++ t → t ≡ ascii_format_line ++ u
    → IfNone found (BeginsWithNone IsMade made_line u)
    → IfNone found (BeginsWithNone IsMade head_text text)
no_made (Some x) text t u a b none = tt
no_made None text t u a b none = λ m r h e.
    none m r h (behind_same ascii_format_line _ _ (sym b ∙ behind_same ply_line _ _ (sym a ∙ (e ∙ head_parts m r))))

-- ---- the digest
pub digest_parts : (d r : List ℕ) → digest_line d ++ r ≡ digest_word ++ (encode_lower d ++ 10 ∷ r)
digest_parts d r =
    append_assoc digest_word (encode_lower d ++ 10 ∷ []) r
    ∙ ap (λ (t : List ℕ). digest_word ++ t) (append_assoc (encode_lower d) (10 ∷ []) r)

digest_code : IsCode IsDigest digest_line
digest_code v w r s a b e =
    scan_code v w r s a b
    (scan_parts v r ∙ (ap (λ (t : List ℕ). scan_word ++ t)
    (behind_same digest_word _ _ (sym (digest_parts v r) ∙ e ∙ digest_parts w s)) ∙ sym (scan_parts w s)))

pub from_scan : (text behind : List ℕ) → text ≡ digest_word ++ behind
    → BeginsWithNone IsDigest scan_line (scan_word ++ behind) → BeginsWithNone IsDigest digest_line text
from_scan text behind is none = λ d more h e.
    none d more h
    (ap (λ (t : List ℕ). scan_word ++ t) (behind_same digest_word _ _ (sym is ∙ (e ∙ digest_parts d more)))
    ∙ sym (scan_parts d more))

-- ---- scale and digest
pub origin_parts : (o : Origin) (r : List ℕ) → origin_text o ++ r ≡ counted scale_word o.0 ++ (digest_line o.1 ++ r)
origin_parts o r = append_assoc (counted scale_word o.0) (digest_line o.1) r

pub origin_code : IsCode IsOrigin origin_text
origin_code (m, d) (n, c) r s a b e =
    let scale =
    counted_code scale_word m n _ _ (omega (arith, a.0.1)) (omega (arith, b.0.1))
    (sym (origin_parts (m, d) r) ∙ e ∙ origin_parts (n, c) s) in
    let digest = digest_code d c r s a.1 b.1 scale.1 in
    (ap (λ (k : ℕ). (k, d)) scale.0 ∙ ap (λ (x : List ℕ). (n, x)) digest.0, digest.1)

-- ---- the whole text
pub printed_parts : (ps : List Point) (fs : List (List ℕ))
    → mesh_text ps fs ≡ ply_line ++ (ascii_format_line ++ text_after_format ps fs)
printed_parts ps fs = simp append_assoc

-- what stands after the first two lines of a printed form
pub rest_of_printed : (text : List ℕ) (ps : List Point) (fs : List (List ℕ))
    → ply_line ++ (ascii_format_line ++ text) ≡ mesh_text ps fs → text ≡ text_after_format ps fs
rest_of_printed text ps fs e = behind_same ascii_format_line _ _ (behind_same ply_line _ _ (e ∙ printed_parts ps fs))

pub origin_of : Provenance → Origin
origin_of p = (p.fine, p.digest)

pub annotated_parts : (p : Provenance) (ps : List Point) (fs : List (List ℕ))
    → annotated_text p ps fs ≡ head_text p.made ++ (origin_text (p.fine, p.digest) ++ text_after_format ps fs)
annotated_parts p ps fs =
    let rest : List ℕ = text_after_format ps fs in
    let origin : List ℕ = origin_text (p.fine, p.digest) in
    ap (λ (t : List ℕ). ply_line ++ (ascii_format_line ++ t)) (append_assoc (made_line p.made) origin rest)
    ∙ sym (append_assoc ply_line (ascii_format_line ++ made_line p.made) (origin ++ rest)
    ∙ ap (λ (t : List ℕ). ply_line ++ t) (append_assoc ascii_format_line (made_line p.made) (origin ++ rest)))

pub head_not_printed : (m : Made) (r : List ℕ) (ps : List Point) (fs : List (List ℕ))
    → head_text m ++ r ≡ mesh_text ps fs → ⊥
head_not_printed m r ps fs e =
    made_not_vertices m _ _ (length ps)
    (behind_same ascii_format_line _ _ (behind_same ply_line _ _ (sym (head_parts m r) ∙ (e ∙ printed_parts ps fs))))

-- texts with the same rest are of the same mesh
pub rest_code : (ps qs : List Point) (fs gs : List (List ℕ)) → IsPrinted ps fs → IsPrinted qs gs
    → text_after_format ps fs ≡ text_after_format qs gs → (ps ≡ qs) × (fs ≡ gs)
rest_code ps qs fs gs a b e =
    let texts =
    printed_parts ps fs ∙ (ap (λ (t : List ℕ). ply_line ++ (ascii_format_line ++ t)) e ∙ sym (printed_parts qs gs)) in
    let both = mesh_code ps qs fs gs [] [] a b (ap (λ (t : List ℕ). t ++ []) texts) in
    (both.0, both.1)

provenance_with : Made → Origin → Provenance
provenance_with m n = record { made = m; fine = n.0; digest = n.1 }

provenance_same : (p q : Provenance) → p.made ≡ q.made → origin_of p ≡ origin_of q → p ≡ q
unfolding provenance_with origin_of
provenance_same p q e f =
    ap (λ (m : Made). provenance_with m (origin_of p)) e ∙ ap (λ (n : Origin). provenance_with q.made n) f

pub file_code : TextsTellFiles
unfolding origin_of
file_code None None ps qs fs gs a b e =
    let both = mesh_code ps qs fs gs [] [] a.1 b.1 (ap (λ (t : List ℕ). t ++ []) e) in
    (refl, both.0, both.1)
file_code None (Some q) ps qs fs gs a b e =
    absurd (head_not_printed q.made _ ps fs (sym (annotated_parts q qs gs) ∙ sym e))
file_code (Some p) None ps qs fs gs a b e = absurd (head_not_printed p.made _ qs gs (sym (annotated_parts p ps fs) ∙ e))
file_code (Some p) (Some q) ps qs fs gs a b e =
    let head =
    head_code p.made q.made _ _ a.0.made b.0.made (sym (annotated_parts p ps fs) ∙ (e ∙ annotated_parts q qs gs)) in
    let origin =
    origin_code (origin_of p) (origin_of q) _ _ (a.0.fine, a.0.digest) (b.0.fine, b.0.digest) head.1 in
    let both = rest_code ps qs fs gs a.1 b.1 origin.1 in
    (ap Some (provenance_same p q head.0 origin.0), both.0, both.1)
