-- The scale of the finer grid.
--
-- The scale is doubled as long as it is less than 1,024 and twice the scale fits. A larger scale is at least twice the last one, so it
-- does not fit (`scale_found`). All points fit exactly if the greatest absolute coordinate does (`scale_of_points`).
use Rattle.std.proofs.Common.{ℕ, suc, ◌≡◌, ◌<◌, ◌≤◌, ◌*◌, ◌^◌, ◌⊎◌, max, unsigned_abs, ℤ, pos, ◌*ℤ◌, inl, inr, ap, ◌∙◌, arith, w32, List}
use Rattle.std.specs.List.{All}
use Rattle.std.proofs.Math.Nat.{pow-succ', mul-le-mul_right}
use Rattle.std.proofs.Math.Pow.{pow_mono}
use Rattle.std.proofs.lemmas.Nat.{pow_pos}
use Rattle.std.proofs.lemmas.Bool.{cases_lt}
use Rattle.std.proofs.lemmas.Int.{unsigned_abs-mul}
use Rattle.geo_sign.specs.Point.{Point, IsWithin}
use Rattle.geo_sign.specs.declared.point.TheConstants.{BOX_LIMIT}
use Rattle.geo_sign.proofs.Bounds.{kept, Held, held_kept}
use Rattle.mesh_smooth.specs.Smoothed.{magnified, IsScale, FitsTimes, IsLargestScale}
use Rattle.mesh_smooth.proofs.Scales.{magnified_within}

-- a scale is at least 1
pub scale_some : (k : ℕ) → IsScale k → 0 < k
scale_some k (n, few, is) = omega (arith, pow_pos n, is)

-- twice a scale below 1,024 is one
pub scale_twice : (k : ℕ) → IsScale k → k < 1024 → IsScale (k * 2)
scale_twice k (n, few, is) less =
    let lower : n < 10 = elim (cases_lt n 10) [
      | inl l ↦ l
      | inr h ↦
          let high : 2 ^ 10 ≤ 2 ^ n = pow_mono h in
          absurd (omega (arith, high, is))
    ] in
    (suc n, omega arith, omega (arith, pow-succ' 2 n, is))

-- a greater scale is at least twice as large
twice_or_less : (k fine : ℕ) → IsScale k → IsScale fine → fine < k → fine * 2 ≤ k
twice_or_less k fine (m, few, is) (n, small, was) more =
    let above : n < m = elim (cases_lt n m) [
      | inl l ↦ l
      | inr h ↦
          let low : 2 ^ m ≤ 2 ^ n = pow_mono h in
          absurd (omega (arith, low, is, was))
    ] in
    let step : 2 ^ suc n ≤ 2 ^ m = pow_mono above in
    omega (arith, step, pow-succ' 2 n, is, was)

-- a scale is at most 1,024
scale_few : (k : ℕ) → IsScale k → k ≤ 1024
scale_few k (n, few, is) =
    let top : 2 ^ n ≤ 2 ^ 10 = pow_mono few in
    omega (arith, top, is)

-- where doubling ends, the scale is the largest that fits
pub scale_found : (fine reach limit : ℕ) → IsScale fine → (fine ≡ 1) ⊎ (fine * reach ≤ limit)
    → (1024 ≤ fine) ⊎ (limit < 2 * (fine * reach)) → IsLargestScale (λ k. k * reach ≤ limit) fine
scale_found fine reach limit is fits end = record { scale = is; fits = fits; largest = largest }
  where
    largest : (k : ℕ) → IsScale k → k * reach ≤ limit → k ≤ fine
    largest k other fit =
        elim (cases_lt fine k) [
          | inr below ↦ below
          | inl more ↦
              elim end [
                | inl all ↦ omega (arith, scale_few k other)
                | inr over ↦
                    let two : fine * 2 ≤ k = twice_or_less k fine other is more in
                    let product : (fine * 2) * reach ≤ k * reach = mul-le-mul_right reach two in
                    absurd (grind (arith, product, over, fit))
              ]
        ]

-- the greatest of three numbers, times k
pub greatest_least : (k a b c limit : ℕ) → k * a ≤ limit → k * b ≤ limit → k * c ≤ limit → k * max (max a b) c ≤ limit
greatest_least k a b c limit p q r = of_two k (max a b) c limit (of_two k a b limit p q) r
  where
    of_two : (k a b limit : ℕ) → k * a ≤ limit → k * b ≤ limit → k * max a b ≤ limit
    of_two k a b limit p q =
        elim (cases_lt a b) [
          | inl l ↦ let e : max a b ≡ b = omega arith in rw e q
          | inr h ↦ let e : max a b ≡ a = omega arith in rw e p
        ]

-- the greatest absolute coordinate of a point, times k
pub reach_least : (k limit : ℕ) (p : Point) → IsWithin limit (magnified k p)
    → k * max (max (unsigned_abs p.x) (unsigned_abs p.y)) (unsigned_abs p.z) ≤ limit
reach_least k limit p w =
    greatest_least k (unsigned_abs p.x) (unsigned_abs p.y) (unsigned_abs p.z) limit (one p.x w.x_within) (one p.y w.y_within) (one p.z w.z_within)
  where
    one : (x : ℤ) → unsigned_abs (pos k *ℤ x) ≤ limit → k * unsigned_abs x ≤ limit
    one x l = omega (arith, unsigned_abs-mul (pos k) x, l)

-- an absolute coordinate, as the code computes it
pub absolute : (n : ℕ) (t x : ℤ) → n ≡ unsigned_abs (kept w32 t) → t ≡ x → unsigned_abs x ≤ BOX_LIMIT → n ≡ unsigned_abs x
absolute n t x value is within =
    let held : Held BOX_LIMIT (kept w32 t) x = held_kept w32 (record { is = is; within = within }) tt in
    value ∙ ap unsigned_abs held.is

-- points fit exactly if their greatest absolute coordinate does
pub scale_of_points : (points : List Point) (reach fine : ℕ) → All (IsWithin reach) points
    → ((k : ℕ) → FitsTimes points k → k * reach ≤ 4194304) → IsLargestScale (λ k. k * reach ≤ 4194304) fine
    → IsLargestScale (FitsTimes points) fine
scale_of_points points reach fine each least s =
    record {
      scale = s.scale;
      fits = elim s.fits [
        | inl one ↦ inl one
        | inr fit ↦ inr (λ i d l. magnified_within fine reach 4194304 _ (each i d l) fit)
      ];
      largest = λ k is fit. s.largest k is (least k fit);
    }
