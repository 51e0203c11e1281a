-- Numbers in front of a text that are no cell, no row.
use Rattle.std.proofs.Common.{ℕ, ◌≡◌, ◌<◌, ◌^◌, ap, sym, ◌∙◌, arith, List, ◌++◌, append_assoc}
use Rattle.line_text.specs.Numbers.{ended, BeginsWithNone}
use Rattle.line_text.specs.Facets.{ArePairNumbers, pair_fields, facet_fields}
use Rattle.geo_sign.specs.Numbers.{IsFacetRow}
use Rattle.line_text.proofs.Codes.{none_first, none_second}
use Rattle.line_text.proofs.FacetForms.{pair_code, facet_code}
use Rattle.certificate.specs.Rows.{IsCellRow, IsAmount, IsFlowRow, IsSinkRow}
use Rattle.cert_text.specs.Texts.{cell_fields, flow_line, sink_line}
use Rattle.cert_text.proofs.CertCodes.{cell_code, four_of, four}

-- ---- cells
abbrev IsQuad : (ℕ × ℕ) × (ℕ × ℕ) → Type 0
IsQuad p = ArePairNumbers p.0 × ArePairNumbers p.1

abbrev quad_text : ℕ → (ℕ × ℕ) × (ℕ × ℕ) → List ℕ
quad_text end p = pair_fields p.0 32 ++ pair_fields p.1 end

quad_is : (a b c d end : ℕ) → cell_fields (four a b c d) end ≡ quad_text end ((a, b), (c, d))
quad_is a b c d end = sym (append_assoc (ended a 32) (ended b 32) (ended c 32 ++ ended d end))

no_quad : (text : List ℕ) (end : ℕ) → BeginsWithNone IsQuad (quad_text end) text
    → BeginsWithNone IsCellRow (λ c. cell_fields c end) text
no_quad text end none = λ cell rest h e.
    let p = four_of cell h in
    none ((p.a, p.b), (p.c, p.d)) rest (
      (omega (arith, p.cell.0, p.cell.1, p.cell.2, p.cell.3), omega (arith, p.cell.1, p.cell.2, p.cell.3)),
      (omega (arith, p.cell.2, p.cell.3), omega (arith, p.cell.3)),
    )
    (e ∙ ap (λ (t : List ℕ). t ++ rest) (ap (λ (f : List ℕ). cell_fields f end) p.is ∙ quad_is p.a p.b p.c p.d end))

pub no_cell_first : (text : List ℕ) (end : ℕ) → BeginsWithNone ArePairNumbers (λ p. pair_fields p 32) text
    → BeginsWithNone IsCellRow (λ c. cell_fields c end) text
no_cell_first text end none =
    no_quad text end (none_first ArePairNumbers ArePairNumbers (λ p. pair_fields p 32) (λ p. pair_fields p end) text none)

pub no_cell_second : (text behind : List ℕ) (a b end : ℕ) → a < 2 ^ 32 → b < 2 ^ 32
    → text ≡ (ended a 32 ++ ended b 32) ++ behind → BeginsWithNone ArePairNumbers (λ p. pair_fields p end) behind
    → BeginsWithNone IsCellRow (λ c. cell_fields c end) text
no_cell_second text behind a b end fa fb is none =
    no_quad text end
    (none_second ArePairNumbers ArePairNumbers (λ p. pair_fields p 32) (λ p. pair_fields p end) text behind (a, b)
    (pair_code 32 (omega arith)) (omega arith, omega arith) is none)

pub no_cell_rises : (text behind rest : List ℕ) (a b c d end : ℕ) → end < 48 → a < 2 ^ 32 → b < 2 ^ 32 → c < 2 ^ 32 → d < 2 ^ 32
    → text ≡ (ended a 32 ++ ended b 32) ++ behind → behind ≡ (ended c 32 ++ ended d end) ++ rest
    → ¬ ((a < b) × (b < c) × (c < d)) → BeginsWithNone IsCellRow (λ c. cell_fields c end) text
no_cell_rises text behind rest a b c d end low fa fb fc fd e f falls = λ cell tail h g.
    let p = four_of cell h in
    let front : text ≡ quad_text end ((p.a, p.b), (p.c, p.d)) ++ tail =
    g ∙ ap (λ (t : List ℕ). t ++ tail) (ap (λ (x : List ℕ). cell_fields x end) p.is ∙ quad_is p.a p.b p.c p.d end) in
    let first =
    pair_code 32 (omega arith) (a, b) (p.a, p.b) behind (pair_fields (p.c, p.d) end ++ tail) (omega arith, omega arith)
    (omega (arith, p.cell.0, p.cell.1, p.cell.2, p.cell.3), omega (arith, p.cell.1, p.cell.2, p.cell.3))
    (sym e ∙ (front ∙ append_assoc (pair_fields (p.a, p.b) 32) (pair_fields (p.c, p.d) end) tail)) in
    let second =
    pair_code end low (c, d) (p.c, p.d) rest tail (omega arith, omega arith)
    (omega (arith, p.cell.2, p.cell.3), omega (arith, p.cell.3)) (sym f ∙ first.1) in
    let at_a : a ≡ p.a = ap (λ (x : ℕ × ℕ). x.0) first.0 in
    let at_b : b ≡ p.b = ap (λ (x : ℕ × ℕ). x.1) first.0 in
    let at_c : c ≡ p.c = ap (λ (x : ℕ × ℕ). x.0) second.0 in
    let at_d : d ≡ p.d = ap (λ (x : ℕ × ℕ). x.1) second.0 in
    falls (omega (arith, at_a, at_b, p.cell.0), omega (arith, at_b, at_c, p.cell.1), omega (arith, at_c, at_d, p.cell.2))

-- ---- amounts and rows
pub no_flow_row : (text behind facet : List ℕ) → IsFacetRow facet → text ≡ facet_fields facet 32 ++ behind
    → BeginsWithNone IsAmount (λ m. ended m 10) behind → BeginsWithNone IsFlowRow flow_line text
no_flow_row text behind facet form is none = λ row rest h e.
    none_second IsFacetRow IsAmount (λ f. facet_fields f 32) (λ m. ended m 10) text behind facet (facet_code 32 (omega arith))
    form is none (row.facet, row.amount) rest (h.facet, (h.some, omega (arith, h.fits))) e

pub no_sink_row : (text behind cell : List ℕ) → IsCellRow cell → text ≡ cell_fields cell 32 ++ behind
    → BeginsWithNone IsAmount (λ m. ended m 10) behind → BeginsWithNone IsSinkRow sink_line text
no_sink_row text behind cell form is none = λ row rest h e.
    none_second IsCellRow IsAmount (λ c. cell_fields c 32) (λ m. ended m 10) text behind cell (cell_code 32 (omega arith)) form
    is none (row.cell, row.amount) rest (h.cell, (h.some, omega (arith, h.fits))) e
