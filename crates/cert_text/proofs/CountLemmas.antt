-- The six lines of numbers, one after another.
use Rattle.std.proofs.Common.{ℕ, ◌≡◌, subst, List, ◌++◌, arith}
use Rattle.line_text.specs.Numbers.{counted}
use Rattle.line_text.specs.declared.refusal.LineRefusal.{LineRefusal}
use Rattle.line_text.specs.Refusals.{RefusedNumber}
use Rattle.certificate.specs.Certificates.{Counts}
use Rattle.cert_text.specs.Texts.{points_word, scanners_word, sights_word, vote_word, smooth_word, cost_word, counts_text}
use Rattle.cert_text.proofs.CertCodes.{counts_parts}

-- a line that is refused, as the code has it
pub refused_at : (shown word : List ℕ) (least greatest n : ℕ) (text : List ℕ) (r : LineRefusal) → shown ≡ word
    → RefusedNumber shown least greatest n text r → RefusedNumber word least greatest n text r
refused_at shown word least greatest n text r e h = subst (λ (w : List ℕ). RefusedNumber w least greatest n text r) e h

-- the six lines make the counts
pub counts_are : (c : Counts) (t1 t2 t3 t4 t5 t6 t7 : List ℕ) → t1 ≡ counted points_word c.points ++ t2
    → t2 ≡ counted scanners_word c.scanners ++ t3 → t3 ≡ counted sights_word c.sights ++ t4
    → t4 ≡ counted vote_word c.vote ++ t5 → t5 ≡ counted smooth_word c.smooth ++ t6 → t6 ≡ counted cost_word c.cost ++ t7
    → t1 ≡ counts_text c ++ t7
counts_are c t1 t2 t3 t4 t5 t6 t7 e1 e2 e3 e4 e5 e6 = grind (arith, counts_parts)
