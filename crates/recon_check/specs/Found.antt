-- What a check of two texts found.
--
--   answer_found checked          the answer that the result of a check gives: Yes with its three numbers, or No with
--                                 the reason
--   IsTextOf cert text            the text is that of this well-formed certificate
--   IsParsedFrom text checked     if the answer is Yes, the parsed certificate is that of the text
use Rattle.std.specs.Prelude.{ℕ, ◌≡◌, List, ⊤}
use Rattle.certificate.specs.Certificates.{claim_of, IsWellFormed}
use Rattle.cert_text.specs.Texts.{cert_text}
use Rattle.certificate.specs.declared.certificate.Certificate.{Certificate}
use Rattle.recon_check.specs.declared.answer.Answer.{Answer}
use Rattle.recon_check.specs.declared.answer.Answer.TheVariants as answers
use Rattle.recon_check.specs.declared.checking.Checked.{Checked}
use Rattle.recon_check.specs.declared.checking.Checked.TheVariants.{Yes, No}

-- the answer
abbrev pub answer_found : Checked → Answer
answer_found (Yes shown) = answers.Yes shown.inside shown.faces shown.cost
answer_found (No reason) = answers.No reason

-- the text is that of this well-formed certificate
pub record IsTextOf (cert : Certificate) (text : List ℕ) : Type 0 where
  pub formed : IsWellFormed (claim_of cert)
  pub text_is : text ≡ cert_text (claim_of cert)

-- if the answer is Yes, the parsed certificate is that of the text
abbrev pub IsParsedFrom : (text : List ℕ) → Checked → Type 0
IsParsedFrom text (Yes shown) = IsTextOf shown.cert text
IsParsedFrom text (No reason) = ⊤
