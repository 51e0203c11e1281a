-- What is read of the bytes, said from the printed text's side.
--
-- A certificate that was read has the bytes as its text, and no two have the same (cert_code): so reading a printed text
-- gives what was printed. A refusal of it can only be want of memory, since a printed text is refused for nothing
-- (printed_not_refused). Of bytes that are refused for a reason there is one such reason (refused_once), and nothing is
-- read of them.
use Rattle.std.proofs.Common.{◌≡◌, ◌∙◌, ◌++◌, List, ℕ, [], refl, ap, sym, Result, Ok, Err, IfOk, IfErr, IsErr, MatchResult}
use Rattle.std.proofs.Common.{arith}
use Rattle.certificate.specs.declared.certificate.Certificate.{Certificate}
use Rattle.cert_text.specs.declared.refusal.CertRefusal.{CertRefusal}
use Rattle.cert_text.specs.declared.refusal.CertRefusal.TheVariants.{BadLine, Order, CertCut, NoMemory}
use Rattle.certificate.specs.Certificates.{Claim, claim_of, IsWellFormed}
use Rattle.cert_text.specs.Texts.{cert_text}
use Rattle.cert_text.specs.Refusals.{OrNoMemory, IsRefusedCertificate}
use Rattle.cert_text.proofs.CertCodes.{cert_code}
use Rattle.cert_text.proofs.OneRefusal.{refused_once, printed_not_refused}
use Rattle.cert_text.proofs.read.read_cert.Goals as goal

only_memory : (r : CertRefusal) (P : Type 0) → (P → ⊥) → OrNoMemory r P → r ≡ NoMemory
only_memory r P none h = grind arith

printed_so : (o : Result Certificate CertRefusal) (text : List ℕ)
    → IfOk o (λ cert. IsWellFormed (claim_of cert) × (text ≡ cert_text (claim_of cert)))
    → IfErr o (λ r. OrNoMemory r (IsRefusedCertificate text r))
    → (c : Claim) → IsWellFormed c → text ≡ cert_text c → MatchResult o (λ cert. claim_of cert ≡ c) (λ r. r ≡ NoMemory)
printed_so (Ok cert) text ok err c w e =
    (cert_code (claim_of cert) c [] [] ok.0 w (ap (λ (t : List ℕ). t ++ []) (sym ok.1 ∙ e))).0
printed_so (Err r) text ok err c w e = only_memory r (IsRefusedCertificate text r) (printed_not_refused c r text w e) err

same_or_memory : (s r : CertRefusal) (text : List ℕ) → OrNoMemory s (IsRefusedCertificate text s) → IsRefusedCertificate text r
    → OrNoMemory s (s ≡ r)
same_or_memory (BadLine n) r text h k = refused_once text (BadLine n) r h k
same_or_memory (Order n) r text h k = refused_once text (Order n) r h k
same_or_memory CertCut r text h k = refused_once text CertCut r h k
same_or_memory NoMemory r text h k = tt

first_so : (o : Result Certificate CertRefusal) (text : List ℕ)
    → IfOk o (λ cert. IsWellFormed (claim_of cert) × (text ≡ cert_text (claim_of cert)))
    → IfErr o (λ r. OrNoMemory r (IsRefusedCertificate text r))
    → (r : CertRefusal) → IsRefusedCertificate text r → IfErr o (λ s. OrNoMemory s (s ≡ r)) × IsErr o
first_so (Ok cert) text ok err r h = absurd (printed_not_refused (claim_of cert) r text ok.0 ok.1 h)
first_so (Err s) text ok err r h = (same_or_memory s r text err h, refl)

pub returns-clause-printed : goal.returns-clause-printed
returns-clause-printed c =
    printed_so c.read_or_refuse.result c.args.bytes.now c.read_or_refuse.ensures.ok c.read_or_refuse.ensures.refused

pub returns-clause-first : goal.returns-clause-first
returns-clause-first c =
    first_so c.read_or_refuse.result c.args.bytes.now c.read_or_refuse.ensures.ok c.read_or_refuse.ensures.refused
