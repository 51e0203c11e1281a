-- A text is refused as no certificate in one way, and no printed text is refused.
--
-- A text is refused in its first part that is wrong, and what begins with a good part begins with no other (the codes of
-- CertCodes). So two refusals are in one part, and each part is refused in one way (the `_once` of line_text, put together
-- in certificate_once). In the same order a good certificate passes each part, and nothing is left to refuse (the `_passed`,
-- put together in good_passed).
use Rattle.std.proofs.Common.{ℕ, ◌≡◌, ◌+◌, ◌-◌, ◌^◌, refl, ap, sym, ◌∙◌, arith, List, [], ◌++◌, length, append_assoc}
use Rattle.std.specs.List.{flat_map}
use Rattle.std.proofs.lemmas.List.{map-id, append-nil}
use Rattle.line_text.specs.Numbers.{counted, BeginsWithNone}
use Rattle.line_text.specs.declared.refusal.LineRefusal.{LineRefusal}
use Rattle.line_text.specs.Refusals.{line_after, RefusedNumber, AreRows, IsBehindEnd}
use Rattle.line_text.specs.Lists.{WithMemory}
use Rattle.line_text.proofs.Fronts.{cut_or_bad_same}
use Rattle.line_text.proofs.Parts.{IsOnce, IsPassed, part_once, part_passed, word_once, word_passed, number_once, number_passed}
use Rattle.line_text.proofs.Parts.{list_once, list_passed, end_once, end_passed}
use Rattle.cert_text.specs.declared.refusal.CertRefusal.{CertRefusal}
use Rattle.certificate.specs.declared.certificate.FlowRow.{FlowRow}
use Rattle.certificate.specs.declared.certificate.SinkRow.{SinkRow}
use Rattle.certificate.specs.Rows.{IsCellRow, IsFlowRow, IsSinkRow, cell_order, flow_order, sink_order}
use Rattle.certificate.specs.Stamps.{IsVersion}
use Rattle.certificate.specs.Certificates.{Counts, Claim, FitCounts, AreCellRows, IsFlowList, IsSinkList, IsWellFormed}
use Rattle.cert_text.specs.Texts.{version_text, points_word, scanners_word, sights_word, vote_word, smooth_word, cost_word}
use Rattle.cert_text.specs.Texts.{inside_word, flow_word, sink_word, end_line, cell_line, flow_line, sink_line, counts_text}
use Rattle.cert_text.specs.Texts.{cert_text}
use Rattle.cert_text.specs.Refusals.{cert_refusal, OrNoMemory, RefusedVersion, RefusedCounts, counts_line, AtEnd, AtSink}
use Rattle.cert_text.specs.Refusals.{AtFlow, AtInside, AtCounts, AtCertificate, IsRefusedCertificate}
use Rattle.cert_text.proofs.CertCodes.{cell_code, flow_code, sink_code, counts_code, counts_parts, cert_parts}
use Rattle.cert_text.proofs.StampCodes.{version_code}
use Rattle.cert_text.proofs.StampRefused.{version_once, version_passed}

-- ---- from one list on
inside_once : (n : ℕ) → IsOnce (AtInside n)
inside_once n =
    list_once IsCellRow cell_line cell_order (cell_code 10 (omega arith)) inside_word n AtFlow (λ i.
    list_once IsFlowRow flow_line flow_order flow_code flow_word i AtSink (λ j.
    list_once IsSinkRow sink_line sink_order sink_code sink_word j AtEnd (λ k.
    word_once end_line k (IsBehindEnd (line_after k 1)) (end_once (line_after k 1)))))

-- ---- the lines of numbers
refused_counts_once : (n : ℕ) → IsOnce (RefusedCounts n)
refused_counts_once n =
    number_once points_word 0 (2 ^ 32 - 1) n _ (omega arith) (λ _ _.
    number_once scanners_word 0 (2 ^ 32 - 1) (n + 1) _ (omega arith) (λ _ _.
    number_once sights_word 0 (2 ^ 32 - 1) (n + 2) _ (omega arith) (λ _ _.
    number_once vote_word 0 (2 ^ 32 - 1) (n + 3) _ (omega arith) (λ _ _.
    number_once smooth_word 0 (2 ^ 32 - 1) (n + 4) _ (omega arith) (λ _ _ t r s h k. cut_or_bad_same (n + 5) t r s h.1 k.1)))))

-- good counts are not refused
refused_counts_passed : (n : ℕ) (text rest : List ℕ) (c : Counts) → FitCounts c → text ≡ counts_text c ++ rest
    → IsPassed (RefusedCounts n) text
refused_counts_passed n text rest c fit e =
    number_passed points_word 0 (2 ^ 32 - 1) n c.points _ text _ (omega arith) (omega arith, omega (arith, fit.points))
    (e ∙ counts_parts c rest)
    (number_passed scanners_word 0 (2 ^ 32 - 1) (n + 1) c.scanners _ _ _ (omega arith)
    (omega arith, omega (arith, fit.scanners)) refl
    (number_passed sights_word 0 (2 ^ 32 - 1) (n + 2) c.sights _ _ _ (omega arith) (omega arith, omega (arith, fit.sights)) refl
    (number_passed vote_word 0 (2 ^ 32 - 1) (n + 3) c.vote _ _ _ (omega arith) (omega arith, omega (arith, fit.vote)) refl
    (number_passed smooth_word 0 (2 ^ 32 - 1) (n + 4) c.smooth (λ _. RefusedNumber cost_word 0 (2 ^ 64 - 1) (n + 5)) _ _
    (omega arith) (omega arith, omega (arith, fit.smooth)) refl
    (λ r h. h.0 c.cost rest (omega arith, omega (arith, fit.cost)) refl)))))

counts_passed : (n : ℕ) (text : List ℕ) (r : LineRefusal) → RefusedCounts n text r → BeginsWithNone FitCounts counts_text text
counts_passed n text r h c rest fit e = refused_counts_passed n text rest c fit e r h

-- ---- the whole text
certificate_once : IsOnce AtCertificate
certificate_once =
    part_once IsVersion version_text version_code RefusedVersion (λ v. AtCounts (counts_line v)) version_once version_passed
    (λ v _. part_once FitCounts counts_text counts_code (RefusedCounts (counts_line v)) (λ _. AtInside (counts_line v + 6))
    (refused_counts_once (counts_line v)) (counts_passed (counts_line v)) (λ _ _. inside_once (counts_line v + 6)))

cell_list : (rows : List (List ℕ)) → AreCellRows rows → AreRows IsCellRow cell_order rows
cell_list rows l = grind (arith, map-id)

flow_list : (rows : List FlowRow) → IsFlowList rows → AreRows IsFlowRow flow_order rows
flow_list rows l = record { each = l.each; rising = l.rising }

sink_list : (rows : List SinkRow) → IsSinkList rows → AreRows IsSinkRow sink_order rows
sink_list rows l = record { each = l.each; rising = l.rising }

-- the texts of the lists and the last line, the counts apart from the rows
lists_parts : (c : Claim)
    → (counted inside_word (length c.inside) ++ flat_map cell_line c.inside)
    ++ ((counted flow_word (length c.flow) ++ flat_map flow_line c.flow)
    ++ ((counted sink_word (length c.sink) ++ flat_map sink_line c.sink) ++ (end_line ++ [])))
    ≡ counted inside_word (length c.inside)
    ++ (flat_map cell_line c.inside
    ++ (counted flow_word (length c.flow)
    ++ (flat_map flow_line c.flow ++ (counted sink_word (length c.sink) ++ (flat_map sink_line c.sink ++ (end_line ++ []))))))
lists_parts c = grind (arith, append_assoc)

lists_passed : (c : Claim) (n : ℕ) (text : List ℕ) → IsWellFormed c
    → text ≡ counted inside_word (length c.inside)
    ++ (flat_map cell_line c.inside
    ++ (counted flow_word (length c.flow)
    ++ (flat_map flow_line c.flow ++ (counted sink_word (length c.sink) ++ (flat_map sink_line c.sink ++ (end_line ++ []))))))
    → IsPassed (AtInside n) text
lists_passed c n text w e =
    list_passed IsCellRow cell_line cell_order (cell_code 10 (omega arith)) inside_word n AtFlow text _ c.inside w.inside.few
    (cell_list c.inside w.inside) e
    (list_passed IsFlowRow flow_line flow_order flow_code flow_word _ AtSink _ _ c.flow w.flow.few (flow_list c.flow w.flow) refl
    (list_passed IsSinkRow sink_line sink_order sink_code sink_word _ AtEnd _ _ c.sink w.sink.few (sink_list c.sink w.sink) refl
    (word_passed end_line _ (IsBehindEnd _) _ [] refl (end_passed _))))

good_passed : (c : Claim) (text : List ℕ) → IsWellFormed c → text ≡ cert_text c → IsPassed AtCertificate text
good_passed c text w e =
    part_passed IsVersion version_text version_code RefusedVersion (λ v. AtCounts (counts_line v)) version_passed text _ c.stamp
    w.stamp (e ∙ (sym (append-nil (cert_text c)) ∙ cert_parts c []))
    (part_passed FitCounts counts_text counts_code (RefusedCounts (counts_line c.stamp)) (λ _. AtInside (counts_line c.stamp + 6))
    (counts_passed (counts_line c.stamp)) _ _ c.counts w.counts refl
    (lists_passed c (counts_line c.stamp + 6) _ w (lists_parts c)))

pub refused_once : (text : List ℕ) (r s : CertRefusal) → IsRefusedCertificate text r → IsRefusedCertificate text s → r ≡ s
refused_once text r s h k = h.2 ∙ (ap cert_refusal (certificate_once text h.0 k.0 h.1 k.1) ∙ sym k.2)

pub printed_not_refused : (c : Claim) (r : CertRefusal) (text : List ℕ) → IsWellFormed c → text ≡ cert_text c → IsRefusedCertificate text r
    → ⊥
printed_not_refused c r text w e h = good_passed c text w e h.0 h.1

-- ---- what reading answers, by what its lines were refused for
pub refused_so : (l : LineRefusal) (text : List ℕ) (r : CertRefusal) → r ≡ cert_refusal l → WithMemory l (AtCertificate text l)
    → OrNoMemory r (IsRefusedCertificate text r)
refused_so l text r e h = grind arith
