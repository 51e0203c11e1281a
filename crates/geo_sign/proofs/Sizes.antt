-- How a sum of powers of a base is led by its highest one. P and Q are two powers of the base B.
--     Size B w P u     u is about P: short of it by at most w P / B, and at most w P
use Rattle.std.proofs.Common.{ℕ, ◌+◌, ◌-◌, ◌*◌, ◌<◌, ◌≤◌, ◌^◌, ◌≡◌, ap, ◌∙◌, arith, mul-add, add-mul, mul-le-mul_left}
use Rattle.std.proofs.Common.{mul-le-mul_right, mul_left_comm}
use Rattle.std.proofs.Math.Nat.{le_of_mul-le-mul_left, pow-le-pow_right, pow-succ'}

pub record Size (B w P u : ℕ) : Type 0 where
  pub low : B * P ≤ B * u + w * P
  pub high : u ≤ w * P

-- a size counts for more
pub size_more : (B w x P u : ℕ) → Size B w P u → Size B (w + x) P u
size_more B w x P u h = grind (arith, add-mul)

pub size_plus : (B w x P Q u t : ℕ) → Size B w P u → t ≤ x * Q → Q ≤ P → Size B (w + x) P (u + t)
size_plus B w x P Q u t h k q = grind (arith, add-mul, mul-add, mul-le-mul_left)

pub size_minus : (B w x P Q u t : ℕ) → 0 < B → w + x ≤ B → Size B w P u → t ≤ x * Q → B * Q ≤ P
    → (d : ℕ) × (u ≡ d + t) × Size B (w + x) P d
size_minus B w x P Q u t b s h k q =
    let e : (w + x) * P ≡ w * P + x * P = add-mul w x P in
    let l : B * P ≤ B * u + w * P = h.low in
    let g : u ≤ w * P = h.high in
    let r : x * (B * Q) ≤ x * P = mul-le-mul_left x q in
    let m : B * t ≤ B * (x * Q) = mul-le-mul_left B k in
    let n : B * (x * Q) ≡ x * (B * Q) = mul_left_comm B x Q in
    let o : (w + x) * P ≤ B * P = mul-le-mul_right P s in
    let y : B * t ≤ B * u = omega arith in
    let z : t ≤ u = le_of_mul-le-mul_left y b in
    let v : u ≡ (u - t) + t = omega arith in
    let f : B * u ≡ B * (u - t) + B * t = ap (λ a. B * a) v ∙ mul-add B (u - t) t in
    (u - t, v, record { low = omega arith; high = omega arith })

pub power_above : (B i j : ℕ) → 0 < B → j < i → B * B ^ j ≤ B ^ i
power_above B i j b h = rw (← (pow-succ' B j)) (pow-le-pow_right b h)
