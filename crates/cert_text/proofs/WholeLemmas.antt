-- The parts of a whole text, one after another.
use Rattle.std.proofs.Common.{ℕ, Option, ◌≡◌, ◌+◌, inr, List, [], ◌++◌, length, arith}
use Rattle.std.proofs.lemmas.List.{map-id, append-nil}
use Rattle.line_text.specs.declared.refusal.LineRefusal.{LineRefusal}
use Rattle.line_text.specs.declared.refusal.LineRefusal.TheVariants.{BadLine}
use Rattle.line_text.specs.Refusals.{line_after}
use Rattle.line_text.specs.Lists.{list_text, IsList}
use Rattle.line_text.proofs.Parts.{list_good, word_good}
use Rattle.certificate.specs.declared.certificate.FlowRow.{FlowRow}
use Rattle.certificate.specs.declared.certificate.SinkRow.{SinkRow}
use Rattle.certificate.specs.Rows.{IsCellRow, IsFlowRow, IsSinkRow, cell_order, flow_order, sink_order}
use Rattle.certificate.specs.Stamps.{StampView, IsVersion}
use Rattle.certificate.specs.Certificates.{Counts, Claim, FitCounts, IsWellFormed}
use Rattle.cert_text.specs.Texts.{inside_word, flow_word, sink_word, end_line, cell_line, flow_line, sink_line, counts_text}
use Rattle.cert_text.specs.Texts.{version_text, cert_text}
use Rattle.cert_text.specs.Refusals.{AtEnd, AtSink, AtFlow, AtInside, AtCounts, AtCertificate, counts_line}
use Rattle.cert_text.proofs.CertCodes.{cert_parts}

-- a refusal further on is one of the whole
pub at_counts : (text t1 : List ℕ) (v : Option StampView) (n : ℕ) (r : LineRefusal)
    → IsVersion v × (text ≡ version_text v ++ t1) → n ≡ counts_line v → AtCounts n t1 r → AtCertificate text r
at_counts text t1 v n r h is k = grind arith

pub at_inside : (text t0 t1 : List ℕ) (v : Option StampView) (n : ℕ) (c : Counts) (r : LineRefusal)
    → IsVersion v × (text ≡ version_text v ++ t0) → n ≡ counts_line v → FitCounts c × (t0 ≡ counts_text c ++ t1)
    → AtInside (n + 6) t1 r → AtCertificate text r
at_inside text t0 t1 v n c r f is h k =
    at_counts text t0 v n r f is (inr (record { value = c; rest = t1; form = h.0; front = h.1; next = k }))

pub at_flow : (t1 t2 : List ℕ) (n m : ℕ) (cells : List (List ℕ)) (r : LineRefusal)
    → IsList IsCellRow cell_order cells × (t1 ≡ list_text cell_line inside_word cells ++ t2)
    × (m ≡ line_after n (1 + length cells)) → AtFlow m t2 r → AtInside n t1 r
at_flow t1 t2 n m cells r h k =
    list_good IsCellRow cell_line cell_order inside_word n m t1 t2 cells r (λ i t. AtFlow i t r) h.0 h.1 h.2 k

pub at_sink : (t1 t2 : List ℕ) (n m : ℕ) (rows : List FlowRow) (r : LineRefusal)
    → IsList IsFlowRow flow_order rows × (t1 ≡ list_text flow_line flow_word rows ++ t2) × (m ≡ line_after n (1 + length rows))
    → AtSink m t2 r → AtFlow n t1 r
at_sink t1 t2 n m rows r h k =
    list_good IsFlowRow flow_line flow_order flow_word n m t1 t2 rows r (λ i t. AtSink i t r) h.0 h.1 h.2 k

pub at_end : (t1 t2 : List ℕ) (n m : ℕ) (rows : List SinkRow) (r : LineRefusal)
    → IsList IsSinkRow sink_order rows × (t1 ≡ list_text sink_line sink_word rows ++ t2) × (m ≡ line_after n (1 + length rows))
    → AtEnd m t2 r → AtSink n t1 r
at_end t1 t2 n m rows r h k =
    list_good IsSinkRow sink_line sink_order sink_word n m t1 t2 rows r (λ i t. AtEnd i t r) h.0 h.1 h.2 k

-- something behind the last line, as the code has it
pub behind_end : (shown text rest : List ℕ) (n m : ℕ) → shown ≡ end_line → text ≡ shown ++ rest → ¬ (rest ≡ [])
    → m ≡ line_after n 1 → AtEnd n text (BadLine m)
behind_end shown text rest n m e f some is = grind (arith, word_good)

-- the whole text
pub whole : (c : Claim) (text t0 t1 t2 t3 t4 t5 : List ℕ) → IsVersion c.stamp × (text ≡ version_text c.stamp ++ t0)
    → FitCounts c.counts × (t0 ≡ counts_text c.counts ++ t1)
    → IsList IsCellRow cell_order c.inside → t1 ≡ list_text cell_line inside_word c.inside ++ t2
    → IsList IsFlowRow flow_order c.flow → t2 ≡ list_text flow_line flow_word c.flow ++ t3
    → IsList IsSinkRow sink_order c.sink → t3 ≡ list_text sink_line sink_word c.sink ++ t4
    → t4 ≡ end_line ++ t5 → t5 ≡ [] → IsWellFormed c × (text ≡ cert_text c)
whole c text t0 t1 t2 t3 t4 t5 v h i e1 f e2 s e3 e4 e5 = grind (arith, map-id, cert_parts, append-nil)
