-- Why a text is not a certificate: the first error in line order.
--
--   cert_refusal l            the error l of a line as an error of a certificate: a bad line or a row out of order,
--                             with the number of the line, a truncated text, or out of memory
--   OrNoMemory r P            P holds, or r is out of memory
--   RefusedLine IsForm line_of n text r
--                             the text does not begin with a valid line of this form, and r is the error of line n
--   AtLine IsForm line_of n text r Next
--                             line n is invalid with the error r (`RefusedLine`), or it is valid and the text after it
--                             has the property `Next`
--   RefusedStamp text r       r is the error of the first invalid line of a fingerprint, whose three lines begin at
--                             line 2
--   RefusedVersion text r     the first line is that of no certificate, or that of one with a fingerprint whose lines
--                             are not all valid; r is the first error
--   counts_line s             the number of the line with the first count of a certificate: 2 without a fingerprint, 5
--                             with one
--   RefusedCounts n text r    r is the error of the first invalid line of the six lines of numbers in a certificate,
--                             from line n on
--   AtInside n text r         r is the first error of the rest of a certificate from line n on, which begins with the
--                             list of inside cells
--   AtFlow n text r           r is the first error of the rest of a certificate from line n on, which begins with the
--                             list of flows over facets
--   AtSink n text r           r is the first error of the rest of a certificate from line n on, which begins with the
--                             list of flows into sinks
--   AtEnd n text r            r is the first error of the rest of a certificate from line n on, which has to be the
--                             last line, then nothing
--   AtCounts n text r         r is the first error of the rest of a certificate from line n on, which begins with the
--                             six lines of numbers
--   AtCertificate text r      the text is rejected as that of a certificate: r is its first error
--   IsRefusedCertificate bytes r   the first error of a text as a certificate, line by line
use Rattle.std.specs.Prelude.{ℕ, ◌≡◌, ◌+◌, ◌-◌, ◌^◌, ◌++◌, Option, Some, None, List}
use Rattle.line_text.specs.Numbers.{BeginsWithNone}
use Rattle.line_text.specs.declared.refusal.LineRefusal.{LineRefusal}
use Rattle.line_text.specs.declared.refusal.LineRefusal.TheVariants as lines
use Rattle.line_text.specs.Refusals.{line_after, IsCutOrBad, RefusedNumber, AtPart, AtWord, AtNumber, AtList, IsBehindEnd}
use Rattle.cert_text.specs.declared.refusal.CertRefusal.{CertRefusal}
use Rattle.cert_text.specs.declared.refusal.CertRefusal.TheVariants.{BadLine, Order, CertCut, NoMemory}
use Rattle.certificate.specs.declared.stamp.TheConstants.{UNIT_LIMIT}
use Rattle.certificate.specs.Stamps.{StampView, IsDigest, IsFixed, IsVersion}
use Rattle.certificate.specs.Rows.{IsCellRow, IsFlowRow, IsSinkRow, cell_order, flow_order, sink_order}
use Rattle.certificate.specs.Certificates.{FitCounts}
use Rattle.cert_text.specs.Texts.{title, stamped_title, unit_word, scan_line, fixed_line, version_text, points_word}
use Rattle.cert_text.specs.Texts.{scanners_word, sights_word, vote_word, smooth_word, cost_word, inside_word, flow_word}
use Rattle.cert_text.specs.Texts.{sink_word, end_line, cell_line, flow_line, sink_line, counts_text}

-- the error of a line as one of a certificate
abbrev pub cert_refusal : LineRefusal → CertRefusal
cert_refusal (lines.BadLine n) = BadLine n
cert_refusal (lines.Order n) = Order n
cert_refusal lines.Cut = CertCut
cert_refusal lines.NoMemory = NoMemory

-- a statement about the text, unless memory ran out
abbrev pub OrNoMemory : CertRefusal → Type 0 → Type 0
OrNoMemory NoMemory P = Unit {0}
OrNoMemory _ P = P

-- line n is invalid
abbrev pub RefusedLine : {A : Type 0} → (A → Type 0) → (A → List ℕ) → ℕ → List ℕ → LineRefusal → Type 0
RefusedLine IsForm line_of n text r = BeginsWithNone IsForm line_of text × IsCutOrBad n text r

-- line n is valid
abbrev pub AtLine : {A : Type 0} → (A → Type 0) → (A → List ℕ) → ℕ → List ℕ → LineRefusal → (A → List ℕ → Type 0) → Type 0
AtLine IsForm line_of n text r = AtPart IsForm line_of text (RefusedLine IsForm line_of n text r)

-- one of the lines of a fingerprint, from line 2 on, is rejected
abbrev pub RefusedStamp : List ℕ → LineRefusal → Type 0
RefusedStamp text r =
    AtLine IsDigest scan_line 2 text r (λ _ a.
    AtNumber unit_word 1 UNIT_LIMIT 3 a r (λ _ b.
    RefusedLine IsFixed fixed_line 4 b r))

-- the first line is of neither version, or of the second and its fingerprint is rejected
abbrev pub RefusedVersion : List ℕ → LineRefusal → Type 0
RefusedVersion text r = ((rest : List ℕ) → ¬ (text ≡ title ++ rest)) × AtWord stamped_title 1 text r (λ a. RefusedStamp a r)

-- the number of the line of the first count: a fingerprint has three lines
abbrev pub counts_line : Option StampView → ℕ
counts_line None = 2
counts_line (Some s) = 5

-- one of the six lines of numbers, from line n on, is rejected
abbrev pub RefusedCounts : ℕ → List ℕ → LineRefusal → Type 0
RefusedCounts n text r =
    AtNumber points_word 0 (2 ^ 32 - 1) n text r (λ _ b.
    AtNumber scanners_word 0 (2 ^ 32 - 1) (n + 1) b r (λ _ c.
    AtNumber sights_word 0 (2 ^ 32 - 1) (n + 2) c r (λ _ d.
    AtNumber vote_word 0 (2 ^ 32 - 1) (n + 3) d r (λ _ e.
    AtNumber smooth_word 0 (2 ^ 32 - 1) (n + 4) e r (λ _ f.
    RefusedNumber cost_word 0 (2 ^ 64 - 1) (n + 5) f r)))))

-- line n and the rest: the last line, and nothing after it
abbrev pub AtEnd : ℕ → List ℕ → LineRefusal → Type 0
AtEnd n text r = AtWord end_line n text r (λ rest. IsBehindEnd (line_after n 1) rest r)

-- line n and the rest, from one list on
abbrev pub AtSink : ℕ → List ℕ → LineRefusal → Type 0
AtSink n text r = AtList IsSinkRow sink_line sink_order sink_word n text r (λ m rest. AtEnd m rest r)

abbrev pub AtFlow : ℕ → List ℕ → LineRefusal → Type 0
AtFlow n text r = AtList IsFlowRow flow_line flow_order flow_word n text r (λ m rest. AtSink m rest r)

abbrev pub AtInside : ℕ → List ℕ → LineRefusal → Type 0
AtInside n text r = AtList IsCellRow cell_line cell_order inside_word n text r (λ m rest. AtFlow m rest r)

-- line n and the rest, from the first count on
abbrev pub AtCounts : ℕ → List ℕ → LineRefusal → Type 0
AtCounts n text r = AtPart FitCounts counts_text text (RefusedCounts n text r) (λ _ rest. AtInside (n + 6) rest r)

-- the whole text: the version and its fingerprint, the lines of numbers, the three lists, the last line
abbrev pub AtCertificate : List ℕ → LineRefusal → Type 0
AtCertificate text r =
    AtPart IsVersion version_text text (RefusedVersion text r) (λ stamp rest. AtCounts (counts_line stamp) rest r)

-- the text is rejected with this error: the first line, in order, that is truncated, invalid, out of order, or after the end
abbrev pub IsRefusedCertificate : List ℕ → CertRefusal → Type 0
IsRefusedCertificate text r = (l : LineRefusal) × AtCertificate text l × (r ≡ cert_refusal l)
