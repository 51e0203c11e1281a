use Rattle.std.proofs.Common.{ℕ, ◌∙◌, ◌++◌, List, [], ap, sym}
use Rattle.std.proofs.lemmas.List.{append-nil}
use Rattle.cert_text.specs.Texts.{cert_text}
use Rattle.cert_text.proofs.CertCodes.{cert_code}
use Rattle.cert_text.proofs.laws.certificate_texts_are_distinct.Goals as goal

pub returns-clause-one_certificate : goal.returns-clause-one_certificate
returns-clause-one_certificate c = λ v w a b e. (cert_code v w [] [] a b (ap (λ (t : List ℕ). t ++ []) e)).0

pub returns-clause-no_prefix : goal.returns-clause-no_prefix
returns-clause-no_prefix c = λ v w rest a b e. (cert_code v w rest [] a b (e ∙ sym (append-nil (cert_text w)))).1
