-- Inequalities of products, and the order of cells along a walk.
-- Stands on: the identities.
use Rattle.std.proofs.Common.{zero, suc, ◌≡◌, ◌*◌, ◌<◌, arith, ℤ, pos, negsuc, ◌-ℤ◌, ◌*ℤ◌, neg_ℤ, ◌≤ℤ◌, ◌<ℤ◌, zero-lt-suc}
use Rattle.std.proofs.Common.{mul-pos, [], ◌∷◌}
use Rattle.std.proofs.lemmas.Int.{ints, by_lt_z}
use Rattle.geo_sign.specs.Polynomial.{negation, product, variable}
use Rattle.geo_sign.proofs.Ring.{ring}
use Rattle.geo_sign.proofs.RingLaws.{*ℤ-neg, -ℤ-*ℤ}
use Rattle.geo_sign.specs.Orientation.{orientation}
use Rattle.geo_sign.specs.Point.{Point}
use Rattle.geo_sign.specs.Power.{power}
use Rattle.geo_sign.specs.Rational.{RationalPoint, side}
use Rattle.cell_laws.specs.Lifts.{lift}
use Rattle.cell_laws.proofs.Identities.{three_lifts}

pub mul_not_negative : (a b : ℤ) → pos 0 ≤ℤ a → pos 0 ≤ℤ b → pos 0 ≤ℤ (a *ℤ b)
mul_not_negative (pos m) (pos n) h k = omega (arith, ints)
mul_not_negative (pos m) (negsuc n) h k = absurd (omega (arith, ints))
mul_not_negative (negsuc m) b h k = absurd (omega (arith, ints))

pub mul_positive : (a b : ℤ) → pos 0 <ℤ a → pos 0 <ℤ b → pos 0 <ℤ (a *ℤ b)
mul_positive (pos zero) b h k = absurd (omega (arith, ints))
mul_positive (pos (suc m)) (pos zero) h k = absurd (omega (arith, ints))
mul_positive (pos (suc m)) (pos (suc n)) h k =
    let e : 0 < suc m * suc n = mul-pos (zero-lt-suc m) (zero-lt-suc n) in omega (arith, ints)
mul_positive (pos (suc m)) (negsuc n) h k = absurd (omega (arith, ints))
mul_positive (negsuc m) b h k = absurd (omega (arith, ints))

pub mul_le : (a b c : ℤ) → a ≤ℤ b → pos 0 ≤ℤ c → (a *ℤ c) ≤ℤ (b *ℤ c)
mul_le a b c h k =
    let d : pos 0 ≤ℤ (b -ℤ a) = omega (arith, ints) in
    let e : pos 0 ≤ℤ ((b -ℤ a) *ℤ c) = mul_not_negative (b -ℤ a) c d k in
    let f : (b -ℤ a) *ℤ c ≡ b *ℤ c -ℤ a *ℤ c = -ℤ-*ℤ b a c in
    omega (arith, ints)

pub mul_lt : (a b c : ℤ) → a <ℤ b → pos 0 <ℤ c → (a *ℤ c) <ℤ (b *ℤ c)
mul_lt a b c h k =
    let d : pos 0 <ℤ (b -ℤ a) = omega (arith, ints) in
    let e : pos 0 <ℤ ((b -ℤ a) *ℤ c) = mul_positive (b -ℤ a) c d k in
    let f : (b -ℤ a) *ℤ c ≡ b *ℤ c -ℤ a *ℤ c = -ℤ-*ℤ b a c in
    omega (arith, ints)

pub cancel_lt : (a b c : ℤ) → (a *ℤ c) <ℤ (b *ℤ c) → pos 0 ≤ℤ c → a <ℤ b
cancel_lt a b c h k =
    by_lt_z a b (λ l. l) (λ l. let e : (b *ℤ c) ≤ℤ (a *ℤ c) = mul_le b a c l k in absurd (omega (arith, ints)))

pub mul_below : (a b : ℤ) → pos 0 <ℤ a → b <ℤ pos 0 → (a *ℤ b) <ℤ pos 0
mul_below a b h k = grind (arith, ints, mul_positive, *ℤ-neg)

pub mul_not_above : (a b : ℤ) → pos 0 ≤ℤ a → b ≤ℤ pos 0 → (a *ℤ b) ≤ℤ pos 0
mul_not_above a b h k = grind (arith, ints, mul_not_negative, *ℤ-neg)

pub factor_above : (a b : ℤ) → pos 0 <ℤ a → pos 0 <ℤ (a *ℤ b) → pos 0 <ℤ b
factor_above a b h k = grind (arith, ints, by_lt_z, mul_not_above)

pub factor_below : (a b : ℤ) → pos 0 <ℤ a → (a *ℤ b) <ℤ pos 0 → b <ℤ pos 0
factor_below a b h k = grind (arith, ints, by_lt_z, mul_not_negative)

pub factor_not_above : (a b : ℤ) → pos 0 <ℤ a → (a *ℤ b) ≤ℤ pos 0 → b ≤ℤ pos 0
factor_not_above a b h k = by_lt_z (pos 0) b (λ l. let m = mul_positive a b h l in absurd (omega (arith, ints, m, k))) (λ l. l)

pub factor_none : (a b : ℤ) → pos 0 <ℤ a → a *ℤ b ≡ pos 0 → b ≡ pos 0
factor_none a b h k =
    by_lt_z (pos 0) b (λ l. let m = mul_positive a b h l in absurd (omega (arith, ints, m, k)))
    (λ l. by_lt_z b (pos 0) (λ n. let m = mul_below a b h n in absurd (omega (arith, ints, m, k)))
    (λ n. omega (arith, ints, l, n)))

-- ---- the order of cells along a walk to q: e / o is the height of the cell's plane at q
abbrev pub IsLater : (o e o' e' : ℤ) → Type 0
IsLater o e o' e' = (o' *ℤ e) <ℤ (o *ℤ e')

pub turn_products : (a b c : ℤ) → (a *ℤ b) *ℤ c ≡ (c *ℤ b) *ℤ a
turn_products a b c =
    ring (a ∷ b ∷ c ∷ []) (product (product (variable 0) (variable 1)) (variable 2))
    (product (product (variable 2) (variable 1)) (variable 0)) tt

pub later_trans :
    (o e o' e' o'' e'' : ℤ) → pos 0 <ℤ o → pos 0 <ℤ o' → pos 0 <ℤ o'' → IsLater o e o' e' → IsLater o' e' o'' e'' →
    IsLater o e o'' e''
later_trans o e o' e' o'' e'' p p' p'' h k =
    let a : ((o' *ℤ e) *ℤ o'') <ℤ ((o *ℤ e') *ℤ o'') = mul_lt (o' *ℤ e) (o *ℤ e') o'' h p'' in
    let b : ((o'' *ℤ e') *ℤ o) <ℤ ((o' *ℤ e'') *ℤ o) = mul_lt (o'' *ℤ e') (o' *ℤ e'') o k p in
    let c : (o' *ℤ e) *ℤ o'' ≡ (o'' *ℤ e) *ℤ o' = turn_products o' e o'' in
    let d : (o *ℤ e') *ℤ o'' ≡ (o'' *ℤ e') *ℤ o = turn_products o e' o'' in
    let f : (o' *ℤ e'') *ℤ o ≡ (o *ℤ e'') *ℤ o' = turn_products o' e'' o in
    let g : ((o'' *ℤ e) *ℤ o') <ℤ ((o *ℤ e'') *ℤ o') = omega (arith, ints) in
    cancel_lt (o'' *ℤ e) (o *ℤ e'') o' g (let q : pos 0 ≤ℤ o' = omega (arith, ints) in q)

-- a step across a facet that has q behind it, to a cell whose new vertex is not in conflict
pub walk_step :
    (a b c d e : Point) (q : RationalPoint) (ha hb hc hd he : ℤ) → pos 0 <ℤ power a b c d e ha hb hc hd he →
    side a b c q <ℤ pos 0 →
    IsLater (orientation a b c d) (lift a b c d ha hb hc hd q) (orientation a c b e) (lift a c b e ha hc hb he q)
walk_step a b c d e q ha hb hc hd he h k =
    let s = three_lifts a b c d e q ha hb hc hd he in
    let n : pos 0 <ℤ neg_ℤ (side a b c q) = omega (arith, ints) in
    let t = mul_positive (power a b c d e ha hb hc hd he) (neg_ℤ (side a b c q)) h n in
    let u : power a b c d e ha hb hc hd he *ℤ neg_ℤ (side a b c q) ≡ neg_ℤ (power a b c d e ha hb hc hd he *ℤ side a b c q) =
    ring (power a b c d e ha hb hc hd he ∷ side a b c q ∷ []) (product (variable 0) (negation (variable 1)))
    (negation (product (variable 0) (variable 1))) tt in
    omega (arith, ints, s, t, u)
