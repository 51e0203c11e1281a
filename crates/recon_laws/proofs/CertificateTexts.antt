-- The text of a certificate by its lines.
--
-- A row of each list is the line of its numbers (cell_is, flow_is, sink_is), so a list is its lines (list_is), and a whole text, from the
-- counts on, is what these lines are together (rest_is). The lines before the counts are those of no fingerprint, or of one that has scale
-- 1 and no fixed scanner (head_is). A list has no more rows than bytes (few_rows).
use Rattle.std.proofs.Common.{ℕ, ◌≡◌, ◌≤◌, refl, ap, ap₂, sym, subst, ◌∙◌, arith, Bool, true, false, Option, Some, None}
use Rattle.std.proofs.Common.{List, [], ◌∷◌, ◌++◌, length, map, codes, decimal, All, append_assoc, map-id, length-append}
use Rattle.std.proofs.lemmas.List.{length-map}
use Rattle.std.proofs.lemmas.List.Elements.{All-head, All-tail}
use Rattle.std.specs.Fmt.{digits}
use Rattle.std.specs.List.{flat_map}
use Rattle.hex.specs.Hex.{encode_lower}
use Rattle.sha2.specs.Sha256.{sha256}
use Rattle.geo_sign.specs.Numbers.{IsFacetRow}
use Rattle.line_text.specs.Facets.{facet_fields}
use Rattle.line_text.specs.Numbers.{counted, ended}
use Rattle.certificate.specs.declared.certificate.FlowRow.{FlowRow}
use Rattle.certificate.specs.declared.certificate.SinkRow.{SinkRow}
use Rattle.certificate.specs.Certificates.{Claim, IsWellFormed}
use Rattle.certificate.specs.Rows.{IsCellRow, IsFlowRow, IsSinkRow}
use Rattle.certificate.specs.Stamps.{StampView}
use Rattle.cert_text.proofs.CertCodes.{Four, four, four_of}
use Rattle.cert_text.specs.Texts.{cert_text, cell_fields, cell_line, counts_text, end_line, flow_line, inside_word, flow_word, sink_line}
use Rattle.cert_text.specs.Texts.{sink_word, title, stamped_title, scan_word, unit_word, scanner_word, none_line, version_text}
use Rattle.scan.specs.PlainForm.{spaced}
use Rattle.recon_laws.specs.ExactChecks.{first_lines, list_lines, spaced_line}

-- ---- the rows

-- one number more
line_more : (n m : ℕ) (rest : List ℕ) → spaced_line (n ∷ m ∷ rest) ≡ ended n 32 ++ spaced_line (m ∷ rest)
line_more n m rest =
    ap (λ (tail : List ℕ). decimal n ++ (32 ∷ tail)) (append_assoc (decimal m) (spaced rest) (10 ∷ []))
    ∙ sym (append_assoc (decimal n) (32 ∷ []) (spaced_line (m ∷ rest)))

four_line : (a b c d : ℕ) → spaced_line (four a b c d) ≡ cell_fields (four a b c d) 10
four_line a b c d =
    line_more a b (c ∷ d ∷ [])
    ∙ ap (λ (tail : List ℕ). ended a 32 ++ tail)
    (line_more b c (d ∷ []) ∙ ap (λ (tail : List ℕ). ended b 32 ++ tail) (line_more c d []))

-- a facet's numbers, and one after them
facet_line : (a b c n : ℕ) → facet_fields (a ∷ b ∷ c ∷ []) 32 ++ ended n 10 ≡ spaced_line (four a b c n)
facet_line a b c n =
    append_assoc (ended a 32) (ended b 32 ++ ended c 32) (ended n 10)
    ∙ ap (λ (tail : List ℕ). ended a 32 ++ tail) (append_assoc (ended b 32) (ended c 32) (ended n 10))
    ∙ sym (four_line a b c n)

-- a cell's numbers, and one after them
five_line : (a b c d n : ℕ) → cell_fields (four a b c d) 32 ++ ended n 10 ≡ spaced_line (four a b c d ++ (n ∷ []))
five_line a b c d n =
    append_assoc (ended a 32) (ended b 32 ++ (ended c 32 ++ ended d 32)) (ended n 10)
    ∙ ap (λ (tail : List ℕ). ended a 32 ++ tail)
    (facet_line b c d n)
    ∙ sym (line_more a b (c ∷ d ∷ n ∷ []))

cell_is : (cell : List ℕ) → IsCellRow cell → cell_line cell ≡ spaced_line cell
cell_is cell is = by (four_of cell is)
  where
    by : Four cell → cell_line cell ≡ spaced_line cell
    by f = subst (λ (row : List ℕ). cell_line row ≡ spaced_line row) (sym f.is) (sym (four_line f.a f.b f.c f.d))

-- the numbers of a row of the flow over facets, and of one of the flow into sinks
abbrev pub flow_numbers : FlowRow → List ℕ
flow_numbers row = row.facet ++ (row.amount ∷ [])

abbrev pub sink_numbers : SinkRow → List ℕ
sink_numbers row = row.cell ++ (row.amount ∷ [])

flow : List ℕ → ℕ → FlowRow
flow facet amount = record { facet = facet; amount = amount }

facet_is : (facet : List ℕ) (amount : ℕ) → IsFacetRow facet
    → flow_line (flow facet amount) ≡ spaced_line (flow_numbers (flow facet amount))
unfolding flow
facet_is [] amount is = absurd is
facet_is (a ∷ []) amount is = absurd is
facet_is (a ∷ b ∷ []) amount is = absurd is
facet_is (a ∷ b ∷ c ∷ []) amount is = facet_line a b c amount
facet_is (a ∷ b ∷ c ∷ d ∷ rest) amount is = absurd is

flow_is : (row : FlowRow) → IsFlowRow row → flow_line row ≡ spaced_line (flow_numbers row)
unfolding flow
flow_is row is = facet_is row.facet row.amount is.facet

sink_is : (row : SinkRow) → IsSinkRow row → sink_line row ≡ spaced_line (sink_numbers row)
sink_is row is = by (four_of row.cell is.cell)
  where
    by : Four row.cell → sink_line row ≡ spaced_line (sink_numbers row)
    by f =
        subst (λ (cell : List ℕ).
        cell_fields cell 32 ++ ended row.amount 10 ≡ spaced_line (cell ++ (row.amount ∷ []))) (sym f.is)
        (five_line f.a f.b f.c f.d row.amount)

-- ---- the lists
lines_are : {Row : Type 0} (P : Row → Type 0) (line numbers : Row → List ℕ)
    → ((row : Row) → P row → line row ≡ spaced_line (numbers row)) → (rows : List Row) → All P rows
    → flat_map line rows ≡ flat_map spaced_line (map numbers rows)
lines_are P line numbers same [] all = refl
lines_are P line numbers same (row ∷ rows) all =
    ap₂ (λ (a b : List ℕ). a ++ b) (same row (All-head P row rows all)) (lines_are P line numbers same rows (All-tail P row rows all))

list_is : {Row : Type 0} (P : Row → Type 0) (line numbers : Row → List ℕ)
    → ((row : Row) → P row → line row ≡ spaced_line (numbers row)) → (word : List ℕ) (rows : List Row) → All P rows
    → counted word (length rows) ++ flat_map line rows ≡ list_lines word (map numbers rows)
list_is P line numbers same word rows all =
    ap₂ (λ (n : ℕ) (text : List ℕ). counted word n ++ text) (sym (length-map rows numbers)) (lines_are P line numbers same rows all)

cells_are : (word : List ℕ) (cells : List (List ℕ)) → All IsCellRow cells
    → counted word (length cells) ++ flat_map cell_line cells ≡ list_lines word cells
cells_are word cells all =
    list_is IsCellRow cell_line (λ cell. cell) cell_is word cells all ∙ ap (list_lines word) (map-id cells)

-- all lines from the counts on
abbrev pub rest_lines : Claim → List ℕ
rest_lines claim =
    counts_text claim.counts
    ++ (list_lines inside_word claim.inside
    ++ (list_lines flow_word (map flow_numbers claim.flow) ++ (list_lines sink_word (map sink_numbers claim.sink) ++ end_line)))

pub text_is : (claim : Claim) → IsWellFormed claim → cert_text claim ≡ version_text claim.stamp ++ rest_lines claim
text_is claim is =
    ap (λ (lists : List ℕ). version_text claim.stamp ++ (counts_text claim.counts ++ lists))
    (ap₂ (λ (a b : List ℕ). a ++ b) (cells_are inside_word claim.inside is.inside.each)
    (ap₂ (λ (a b : List ℕ). a ++ b) (list_is IsFlowRow flow_line flow_numbers flow_is flow_word claim.flow is.flow.each)
    (ap (λ (a : List ℕ). a ++ end_line) (list_is IsSinkRow sink_line sink_numbers sink_is sink_word claim.sink is.sink.each))))

-- ---- the lines before the counts
abbrev pub stamp_at_one : (bytes : List ℕ) → StampView
stamp_at_one bytes = record { digest = sha256 bytes; unit = 1; fixed = None }

-- a fingerprint of this file, or none
abbrev pub stamp_if : Bool → List ℕ → Option StampView
stamp_if false bytes = None
stamp_if true bytes = Some (stamp_at_one bytes)

pub head_is : (stamped : Bool) (bytes : List ℕ) → version_text (stamp_if stamped bytes) ≡ first_lines stamped bytes
unfolding digits title stamped_title scan_word unit_word scanner_word none_line
head_is false bytes = refl
head_is true bytes =
    ap (λ (rest : List ℕ). codes "recon certificate 2\nscan " ++ rest)
    (append_assoc (encode_lower (sha256 bytes)) (10 ∷ []) (codes "unit 1\nscanner none\n"))

-- ---- lengths
line_some : (row : List ℕ) → 1 ≤ length (spaced_line row)
line_some [] = omega arith
line_some (n ∷ rest) =
    let inner = length-append (flat_map (λ (m : ℕ). 32 ∷ decimal m) rest) (10 ∷ []) in
    let outer = length-append (decimal n) (flat_map (λ (m : ℕ). 32 ∷ decimal m) rest ++ (10 ∷ [])) in
    omega (arith, inner, outer)

few_lines : (rows : List (List ℕ)) → length rows ≤ length (flat_map spaced_line rows)
few_lines [] = omega arith
few_lines (row ∷ rows) =
    omega (arith, line_some row, few_lines rows, length-append (spaced_line row) (flat_map spaced_line rows))

pub few_rows : (word : List ℕ) (rows : List (List ℕ)) → length rows ≤ length (list_lines word rows)
few_rows word rows =
    omega (arith, few_lines rows, length-append (counted word (length rows)) (flat_map spaced_line rows))
