-- The text of a certificate says which certificate it is.
--
-- A part is a code if two texts that begin with such parts and go on in any way are the same only where the parts are, and
-- what follows them (IsCode). A number with the byte behind it is one, since no digit is that byte; so are four of them
-- (four_code, cell_code), a row (flow_code, sink_code), a list behind its length (list_code) and the counts (counts_code).
-- cert_code puts the parts of a certificate together, one after the other.
use Rattle.std.proofs.Common.{ℕ, Option, ◌≡◌, ◌<◌, ◌^◌, ap, sym, ◌∙◌, arith, List, [], ◌∷◌, ◌++◌, length, append_assoc}
use Rattle.std.specs.List.{flat_map, All}
use Rattle.line_text.specs.Numbers.{ended, counted}
use Rattle.line_text.proofs.Codes.{IsCode, behind_same, ended_code, counted_code, code_list}
use Rattle.line_text.proofs.FacetForms.{facet_code}
use Rattle.certificate.specs.declared.certificate.FlowRow.{FlowRow}
use Rattle.certificate.specs.declared.certificate.SinkRow.{SinkRow}
use Rattle.certificate.specs.Rows.{IsCellRow, IsFlowRow, IsSinkRow}
use Rattle.certificate.specs.Stamps.{StampView}
use Rattle.certificate.specs.Certificates.{Counts, Claim, FitCounts, IsWellFormed}
use Rattle.cert_text.specs.Texts.{version_text, points_word, scanners_word, sights_word, vote_word, smooth_word, cost_word}
use Rattle.cert_text.specs.Texts.{inside_word, flow_word, sink_word, end_line, cell_fields, cell_line, flow_line, sink_line}
use Rattle.cert_text.specs.Texts.{counts_text, cert_text}
use Rattle.cert_text.proofs.StampCodes.{version_code}

-- ---- cells
abbrev pub four : (a b c d : ℕ) → List ℕ
four a b c d = a ∷ b ∷ c ∷ d ∷ []

four_parts : (a b c d end : ℕ) (r : List ℕ)
    → cell_fields (four a b c d) end ++ r ≡ ended a 32 ++ (ended b 32 ++ (ended c 32 ++ (ended d end ++ r)))
four_parts a b c d end r = simp append_assoc

four_code : (a b c d x y z w end : ℕ) (r s : List ℕ) → end < 48 → IsCellRow (four a b c d) → IsCellRow (four x y z w)
    → cell_fields (four a b c d) end ++ r ≡ cell_fields (four x y z w) end ++ s → (four a b c d ≡ four x y z w) × (r ≡ s)
four_code a b c d x y z w end r s low k l e = grind (arith, ended_code, four_parts)

pub record Four (f : List ℕ) : Type 0 where
  pub a : ℕ
  pub b : ℕ
  pub c : ℕ
  pub d : ℕ
  pub is : f ≡ four a b c d
  pub cell : IsCellRow (four a b c d)

pub four_of : (f : List ℕ) → IsCellRow f → Four f
four_of f h = grind arith

pub cell_code : (end : ℕ) → end < 48 → IsCode IsCellRow (λ c. cell_fields c end)
cell_code end low f g r s k l e = grind (arith, four_of, four_code)

-- ---- rows
flow_row : List ℕ → ℕ → FlowRow
flow_row f n = record { facet = f; amount = n }

sink_row : List ℕ → ℕ → SinkRow
sink_row c n = record { cell = c; amount = n }

pub flow_code : IsCode IsFlowRow flow_line
unfolding flow_row
flow_code v w r s a b e = grind (arith, facet_code, append_assoc, ended_code)

pub sink_code : IsCode IsSinkRow sink_line
unfolding sink_row
sink_code v w r s a b e = grind (arith, cell_code, append_assoc, ended_code)

-- ---- the whole text
pub list_code : {A : Type 0} (P : A → Type 0) (line : A → List ℕ) (word : List ℕ) → IsCode P line
    → (xs ys : List A) (r s : List ℕ) → length xs < 2 ^ 64 → length ys < 2 ^ 64 → All P xs → All P ys
    → (counted word (length xs) ++ flat_map line xs) ++ r ≡ (counted word (length ys) ++ flat_map line ys) ++ s
    → (xs ≡ ys) × (r ≡ s)
list_code P line word code xs ys r s a b h k e =
    let n =
    counted_code word (length xs) (length ys) _ _ a b
    (sym (append_assoc (counted word (length xs)) (flat_map line xs) r) ∙ e
    ∙ append_assoc (counted word (length ys)) (flat_map line ys) s) in
    code_list P line code xs ys r s n.0 h k n.1

counts : (a b c d e f : ℕ) → Counts
counts a b c d e f = record { points = a; scanners = b; sights = c; vote = d; smooth = e; cost = f }

pub counts_parts : (c : Counts) (r : List ℕ)
    → counts_text c ++ r
    ≡ counted points_word c.points
    ++ (counted scanners_word c.scanners
    ++ (counted sights_word c.sights
    ++ (counted vote_word c.vote ++ (counted smooth_word c.smooth ++ (counted cost_word c.cost ++ r)))))
counts_parts c r = simp append_assoc

pub counts_code : IsCode FitCounts counts_text
unfolding counts
counts_code v w r s a b e = grind (arith, counted_code, counts_parts)

claim : Option StampView → Counts → List (List ℕ) → List FlowRow → List SinkRow → Claim
claim v h i f s = record { stamp = v; counts = h; inside = i; flow = f; sink = s }

pub cert_parts : (c : Claim) (r : List ℕ)
    → cert_text c ++ r ≡ version_text c.stamp
    ++ (counts_text c.counts
    ++ ((counted inside_word (length c.inside) ++ flat_map cell_line c.inside)
    ++ ((counted flow_word (length c.flow) ++ flat_map flow_line c.flow)
    ++ ((counted sink_word (length c.sink) ++ flat_map sink_line c.sink) ++ (end_line ++ r)))))
cert_parts c r = grind (arith, append_assoc)

pub cert_code : IsCode IsWellFormed cert_text
unfolding claim
cert_code v w r s a b e =
    let n = version_code v.stamp w.stamp _ _ a.stamp b.stamp (sym (cert_parts v r) ∙ e ∙ cert_parts w s) in
    let h = counts_code v.counts w.counts _ _ a.counts b.counts n.1 in
    let i =
    list_code IsCellRow cell_line inside_word (cell_code 10 (omega arith)) v.inside w.inside _ _ a.inside.few b.inside.few
    a.inside.each b.inside.each h.1 in
    let f =
    list_code IsFlowRow flow_line flow_word flow_code v.flow w.flow _ _ a.flow.few b.flow.few a.flow.each b.flow.each i.1 in
    let k =
    list_code IsSinkRow sink_line sink_word sink_code v.sink w.sink _ _ a.sink.few b.sink.few a.sink.each b.sink.each f.1 in (
      ap (λ (x : Option StampView). claim x v.counts v.inside v.flow v.sink) n.0
          ∙ (ap (λ (x : Counts). claim w.stamp x v.inside v.flow v.sink) h.0
          ∙ (ap (λ (x : List (List ℕ)). claim w.stamp w.counts x v.flow v.sink) i.0
          ∙ (ap (λ (x : List FlowRow). claim w.stamp w.counts w.inside x v.sink) f.0
          ∙ ap (λ (x : List SinkRow). claim w.stamp w.counts w.inside w.flow x) k.0))),
      behind_same end_line r s k.1,
    )
