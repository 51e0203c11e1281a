use Rattle.std.proofs.Common.{◌≡◌, ap, ◌∙◌, ◌++◌, ℕ, ℤ, List, [], ◌∷◌, append_assoc, to_z-of_z}
use Rattle.std.specs.Fmt.{signed_decimal}
use Rattle.recon_cmd.proofs.commands.check.lines.push_three.Goals as goal

-- three numbers with a space between two, by values that are these
spaced_three : (l a b d e f : List ℕ) (x y z u v w : ℤ) → u ≡ x → v ≡ y → w ≡ z → a ≡ l ++ signed_decimal u → b ≡ a ++ 32 ∷ []
    → d ≡ b ++ signed_decimal v → e ≡ d ++ 32 ∷ [] → f ≡ e ++ signed_decimal w
    → f ≡ l ++ (signed_decimal x ++ (32 ∷ (signed_decimal y ++ (32 ∷ signed_decimal z))))
spaced_three l a b d e f x y z u v w ux vy wz h1 h2 h3 h4 h5 =
    let first : a ≡ l ++ signed_decimal x = h1 ∙ ap (λ (i : ℤ). l ++ signed_decimal i) ux in
    let second : d ≡ b ++ signed_decimal y = h3 ∙ ap (λ (i : ℤ). b ++ signed_decimal i) vy in
    let third : f ≡ e ++ signed_decimal z = h5 ∙ ap (λ (i : ℤ). e ++ signed_decimal i) wz in
    third
    ∙ (ap (λ (t : List ℕ). t ++ signed_decimal z)
    (h4 ∙ ap (λ (t : List ℕ). t ++ 32 ∷ [])
    (second ∙ ap (λ (t : List ℕ). t ++ signed_decimal y) (h2 ∙ ap (λ (t : List ℕ). t ++ 32 ∷ []) first))) ∙ simp append_assoc)

pub returns : goal.returns
returns c =
    spaced_three _ _ _ _ _ _ c.args.x c.args.y c.args.z _ _ _ (to_z-of_z c.ranges.x) (to_z-of_z c.ranges.y)
    (to_z-of_z c.ranges.z)
    c.in_ok-push_coordinate.ensures c.in_ok-push.ensures.items c.in_ok-push_coordinate-2.ensures c.in_ok-push-2.ensures.items
    c.in_ok-push_coordinate-3.ensures
