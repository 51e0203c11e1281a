use Rattle.std.proofs.Common.{ℕ, ◌≡◌, ◌++◌, ◌∙◌, ap, arith, List, ℤ, to_z, of_z, append_assoc}
use mir.Syntax.{w64}
use Rattle.std.proofs.lemmas.Int.{ints}
use Rattle.line_text.specs.Numbers.{space, line_feed, ended, signed_ended}
use Rattle.solid_slice.specs.Texts.{numbers_line}
use Rattle.solid_slice.proofs.text.push_numbers.Goals as goal

-- four numbers one behind another
joined : (a b c d e : List ℕ) (f g : ℕ) (x y z u v w : ℤ) → b ≡ a ++ ended f space → c ≡ b ++ signed_ended x space
    → d ≡ c ++ signed_ended y space → e ≡ d ++ signed_ended z line_feed → f ≡ g → x ≡ u → y ≡ v → z ≡ w
    → e ≡ a ++ numbers_line g u v w
joined a b c d e f g x y z u v w eb ec ed ee ef ex ey ez =
    let F = ended f space in
    let X = signed_ended x space in
    let Y = signed_ended y space in
    let Z = signed_ended z line_feed in
    let all : e ≡ ((a ++ F) ++ X) ++ Y ++ Z =
    ee ∙ ap (λ (t : List ℕ). t ++ Z) (ed ∙ ap (λ (t : List ℕ). t ++ Y) (ec ∙ ap (λ (t : List ℕ). t ++ X) eb)) in
    let whole : ((a ++ F) ++ X) ++ Y ++ Z ≡ a ++ (F ++ (X ++ (Y ++ Z))) = simp append_assoc in
    let same : a ++ (F ++ (X ++ (Y ++ Z))) ≡ a ++ numbers_line g u v w = cc in
    all ∙ (whole ∙ same)

pub returns-clause-ok : goal.returns-clause-ok
returns-clause-ok c =
    let x : to_z w64 (of_z w64 c.args.x) ≡ c.args.x = omega (arith, ints) in
    let y : to_z w64 (of_z w64 c.args.y) ≡ c.args.y = omega (arith, ints) in
    let d : to_z w64 (of_z w64 c.args.d) ≡ c.args.d = omega (arith, ints) in
    joined _ _ _ _ _ _ _ _ _ _ _ _ _ c.in_ok-push_number.ensures.ok c.in_ok-push_signed.ensures.ok
    c.in_ok-push_signed-2.ensures.ok c.in_ok-push_signed-3.ensures.ok c.from.ensures x y d
