-- Nodes over a place.
--
-- With w numbers under a node, those of node k are k w to (k + 1) w. So one node of a level is over a place (only_over), and the node
-- above it is half its number (over_half).
use Rattle.std.proofs.Common.{ℕ, zero, suc, ◌≡◌, ◌+◌, ◌*◌, ◌/◌, ◌%◌, ◌<◌, ◌≤◌, ◌^◌, ◌⊎◌, inl, inr, arith, add-one, sub-one, ◌-◌, refl, sym, subst}
use Rattle.std.proofs.Math.Nat.{mul-le-mul_right, mul-le-mul_left, pow-succ'}
use Rattle.std.proofs.lemmas.Nat.{pow_pos}
use Rattle.std.proofs.lemmas.Bool.{cases_lt}
use Rattle.triangles.specs.Trees.{IsNodeAbove}

-- the least of them
pub over_itself : (m : ℕ) → IsNodeAbove m 0 m
over_itself m = record { from = omega arith; to = omega arith }

halves : (q r w m : ℕ) → r < 2 → (2 * q + r) * w ≤ m → m < (2 * q + r + 1) * w → (q * (2 * w) ≤ m) × (m < (q + 1) * (2 * w))
halves q zero w m l from to = (omega arith, omega arith)
halves q (suc zero) w m l from to = (omega arith, omega arith)
halves q (suc (suc r)) w m l from to = absurd (omega arith)

not_after : (k l w m : ℕ) → k * w ≤ m → m < (l + 1) * w → k ≤ l
not_after k l w m from to =
    elim (cases_lt l k) [
      | inl h ↦ absurd (omega (arith, mul-le-mul_right w (let g : l + 1 ≤ k = omega arith in g)))
      | inr h ↦ omega arith
    ]

pub only_over : (k l s m : ℕ) → IsNodeAbove k s m → IsNodeAbove l s m → k ≡ l
only_over k l s m a b =
    let there = not_after k l (2 ^ s) m a.from b.to in
    let back = not_after l k (2 ^ s) m b.from a.to in
    omega (arith, there, back)

pub over_half : (k s m : ℕ) → IsNodeAbove k s m → IsNodeAbove (k / 2) (s + 1) m
over_half k s m o =
    let q = k / 2 in
    let r = k % 2 in
    let e : k ≡ 2 * q + r = omega arith in
    let from : (2 * q + r) * 2 ^ s ≤ m = subst (λ (t : ℕ). t * 2 ^ s ≤ m) e o.from in
    let to : m < (2 * q + r + 1) * 2 ^ s = subst (λ (t : ℕ). m < (t + 1) * 2 ^ s) e o.to in
    let w : 2 ^ (s + 1) ≡ 2 * 2 ^ s = rw add-one (pow-succ' 2 s) in
    let both = halves q r (2 ^ s) m (omega arith) from to in
    record {
      from = subst (λ (t : ℕ). q * t ≤ m) (sym w) both.0;
      to = subst (λ (t : ℕ). m < (q + 1) * t) (sym w) both.1;
    }

-- a level has half as many numbers under a node as the one above
pub doubled : (s : ℕ) → (s ≡ 0 → ⊥) → 2 ^ s ≡ 2 * 2 ^ (s - 1)
doubled zero h = absurd (h refl)
doubled (suc s) h = rw sub-one (pow-succ' 2 s)

-- a place below a node is below one of the two nodes under it
pub over_one_of : (k s m : ℕ) → (s ≡ 0 → ⊥) → IsNodeAbove k s m → IsNodeAbove (2 * k) (s - 1) m ⊎ IsNodeAbove (2 * k + 1) (s - 1) m
over_one_of k s m h o =
    let w = 2 ^ (s - 1) in
    let d : 2 ^ s ≡ 2 * w = doubled s h in
    let from : k * (2 * w) ≤ m = subst (λ (t : ℕ). k * t ≤ m) d o.from in
    let to : m < (k + 1) * (2 * w) = subst (λ (t : ℕ). m < (k + 1) * t) d o.to in
    elim (cases_lt m ((2 * k + 1) * w)) [
      | inl l ↦ inl (record { from = omega arith; to = l })
      | inr l ↦ inr (record { from = l; to = omega arith })
    ]

-- the bounds of a node, for the two under it
pub left_bounds : (k s n : ℕ) → (s ≡ 0 → ⊥) → n ≤ k * 2 ^ s → (k + 1) * 2 ^ s ≤ 2 * n
    → (n ≤ 2 * k * 2 ^ (s - 1)) × ((2 * k + 1) * 2 ^ (s - 1) ≤ 2 * n)
left_bounds k s n h from to =
    let w = 2 ^ (s - 1) in
    let d : 2 ^ s ≡ 2 * w = doubled s h in
    let from' : n ≤ k * (2 * w) = subst (λ (t : ℕ). n ≤ k * t) d from in
    let to' : (k + 1) * (2 * w) ≤ 2 * n = subst (λ (t : ℕ). (k + 1) * t ≤ 2 * n) d to in
    (omega arith, omega arith)

pub right_bounds : (k s n : ℕ) → (s ≡ 0 → ⊥) → n ≤ k * 2 ^ s → (k + 1) * 2 ^ s ≤ 2 * n
    → (n ≤ (2 * k + 1) * 2 ^ (s - 1)) × ((2 * k + 1 + 1) * 2 ^ (s - 1) ≤ 2 * n)
right_bounds k s n h from to =
    let w = 2 ^ (s - 1) in
    let d : 2 ^ s ≡ 2 * w = doubled s h in
    let from' : n ≤ k * (2 * w) = subst (λ (t : ℕ). n ≤ k * t) d from in
    let to' : (k + 1) * (2 * w) ≤ 2 * n = subst (λ (t : ℕ). (k + 1) * t ≤ 2 * n) d to in
    (omega arith, omega arith)

-- a node within the heap
pub node_within : (k s n : ℕ) → (k + 1) * 2 ^ s ≤ 2 * n → k < 2 * n
node_within k s n to =
    let some : 1 ≤ 2 ^ s = pow_pos s in
    omega (arith, mul-le-mul_left (k + 1) some)
