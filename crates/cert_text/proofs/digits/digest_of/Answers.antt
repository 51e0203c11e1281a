use Rattle.std.proofs.Common.{ℕ, List, ◌≡◌, ap, sym, ◌∙◌, arith}
use Rattle.std.specs.Cmp.Lexicographic.{other_text}
use Rattle.hex.specs.Hex.{encode_lower}
use Rattle.cert_text.proofs.StampRefused.{decoded}
use Rattle.cert_text.proofs.digits.digest_of.Goals as goal

pub returns-in-Err-clause-none : goal.returns-in-Err-clause-none
returns-in-Err-clause-none c = grind (arith, decoded)

pub returns-else-eq-clause-none : goal.returns-else-eq-clause-none
returns-else-eq-clause-none c = λ digest h e.
    let good = decoded c.args.token.now digest h e in
    let same : c.in-Ok.digest ≡ digest = cc in
    let digits : c.as_slice.result.now ≡ c.args.token.now =
    c.as_slice.ensures ∙ (c.digits_of-digits.ensures ∙ (ap (λ (d : List ℕ). encode_lower d) same ∙ sym e)) in
    other_text c.args.token.now c.as_slice.result.now c.if-eq.ensures (sym digits)
