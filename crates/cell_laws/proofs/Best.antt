-- The least of some ratios over a list that pass a test. All that takes a cell from a finite list stands on it: the next cell
-- over a facet, the highest cell at a place and the lowest.
-- Stands on: Order (products).
use Rattle.std.proofs.Common.{◌≡◌, refl, ap, sym, subst, ◌∙◌, ◌⊎◌, arith, Bool, true, false, ℤ, pos, ◌*ℤ◌, ◌≤ℤ◌, ◌<ℤ◌, List, []}
use Rattle.std.proofs.Common.{◌∷◌, inl, inr, ⊎_elim, true≢false}
use Rattle.std.proofs.lemmas.Int.{ints, by_lt_z}
use Rattle.geo_sign.specs.Polynomial.{product, variable}
use Rattle.geo_sign.proofs.Ring.{ring}
use Rattle.cell_laws.specs.Lists.{IsIn}
use Rattle.cell_laws.proofs.Order.{mul_le, mul_lt}

-- x is in the list, passes, and no other that passes has a smaller rational
pub record IsBest {X : Type 0} (f : X → Bool) (num den : X → ℤ) (xs : List X) (x : X) : Type 0 where
  pub listed : IsIn xs x
  pub passes : f x ≡ true
  pub least : (y : X) → IsIn xs y → f y ≡ true → (num x *ℤ den y) ≤ℤ (num y *ℤ den x)

exchange : (a b c : ℤ) → (a *ℤ b) *ℤ c ≡ (a *ℤ c) *ℤ b
exchange a b c =
    ring (a ∷ b ∷ c ∷ []) (product (product (variable 0) (variable 1)) (variable 2))
    (product (product (variable 0) (variable 2)) (variable 1)) tt

same : (a : ℤ) → a ≤ℤ a
same a = omega (arith, ints)

pub cancel_le : (a b c : ℤ) → (a *ℤ c) ≤ℤ (b *ℤ c) → pos 0 <ℤ c → a ≤ℤ b
cancel_le a b c h k =
    by_lt_z b a (λ l. let e : (b *ℤ c) <ℤ (a *ℤ c) = mul_lt b a c l k in absurd (omega (arith, ints))) (λ l. l)

-- a / b ≤ c / d ≤ e / f
pub ratio_trans :
    (a b c d e f : ℤ) → pos 0 <ℤ b → pos 0 <ℤ d → pos 0 <ℤ f → (a *ℤ d) ≤ℤ (c *ℤ b) → (c *ℤ f) ≤ℤ (e *ℤ d) →
    (a *ℤ f) ≤ℤ (e *ℤ b)
ratio_trans a b c d e f p q r h k =
    let r' : pos 0 ≤ℤ f = omega (arith, ints) in
    let p' : pos 0 ≤ℤ b = omega (arith, ints) in
    let s : ((a *ℤ d) *ℤ f) ≤ℤ ((c *ℤ b) *ℤ f) = mul_le (a *ℤ d) (c *ℤ b) f h r' in
    let t : ((c *ℤ f) *ℤ b) ≤ℤ ((e *ℤ d) *ℤ b) = mul_le (c *ℤ f) (e *ℤ d) b k p' in
    let u = exchange a d f in
    let v = exchange c b f in
    let w = exchange e d b in
    cancel_le (a *ℤ f) (e *ℤ b) d (let g : ((a *ℤ f) *ℤ d) ≤ℤ ((e *ℤ b) *ℤ d) = omega (arith, ints, s, t, u, v, w) in g) q

-- none passes, or there is a best one
abbrev pub Found : {X : Type 0} (f : X → Bool) (num den : X → ℤ) → List X → Type 0
Found {X} f num den xs = ((x : X) → IsIn xs x → f x ≡ false) ⊎ ((x : X) × IsBest f num den xs x)

skip :
    {X : Type 0} (f : X → Bool) (num den : X → ℤ) (x : X) (xs : List X) → f x ≡ false → Found f num den xs →
    Found f num den (x ∷ xs)
skip {X} f num den x xs e (inl n) = inl (λ y i. ⊎_elim (λ (q : x ≡ y). ap f (sym q) ∙ e) (n y) i)
skip {X} f num den x xs e (inr z) = grind (arith, ints, true≢false)

take :
    {X : Type 0} (f : X → Bool) (num den : X → ℤ) (x : X) (xs : List X) →
    ((y : X) → IsIn (x ∷ xs) y → f y ≡ true → pos 0 <ℤ den y) → f x ≡ true → Found f num den xs → Found f num den (x ∷ xs)
take {X} f num den x xs h e (inl n) = grind (arith, ints, same, true≢false)
take {X} f num den x xs h e (inr z) =
    let b : IsBest f num den xs z.0 = z.1 in
    let w : X = z.0 in
    by_lt_z (num x *ℤ den w) (num w *ℤ den x)
    (λ l.
    let m : (num x *ℤ den w) ≤ℤ (num w *ℤ den x) = omega (arith, ints) in
    inr (
      x,
      record {
        listed = inl refl;
        passes = e;
        least =
            λ y i g. ⊎_elim (λ (q : x ≡ y). subst (λ (t : X). (num x *ℤ den t) ≤ℤ (num t *ℤ den x)) q (same (num x *ℤ den x)))
            (λ j. ratio_trans (num x) (den x) (num w) (den w) (num y) (den y) (h x (inl refl) e) (h w (inr b.listed) b.passes)
            (h y (inr j) g) m (b.least y j g)) i;
      },
    ))
    (λ l. inr (
      w,
      record {
        listed = inr b.listed;
        passes = b.passes;
        least =
            λ y i g. ⊎_elim (λ (q : x ≡ y). subst (λ (t : X). (num w *ℤ den t) ≤ℤ (num t *ℤ den w)) q l) (λ j. b.least y j g) i;
      },
    ))

pub best :
    {X : Type 0} (f : X → Bool) (num den : X → ℤ) → (xs : List X) → ((x : X) → IsIn xs x → f x ≡ true → pos 0 <ℤ den x) →
    Found f num den xs
best f num den [] h = inl (λ x i. absurd i)
best f num den (x ∷ xs) h = pick (f x) refl (best f num den xs (λ y i. h y (inr i)))
  where
    pick : (b : Bool) → f x ≡ b → Found f num den xs → Found f num den (x ∷ xs)
    pick true e r = take f num den x xs h e r
    pick false e r = skip f num den x xs e r
