-- Boxes that hold what they held.
use Rattle.std.proofs.Common.{ℕ, ◌≡◌, ◌≢◌, ◌+◌, ◌<◌, ◌⊎◌, inl, inr, arith, sym, subst, List, length, set, get_or-set_same, get_or-set_other}
use Rattle.std.proofs.lemmas.Int.{ints}
use Rattle.std.proofs.lemmas.Bool.{cases_lt}
use Rattle.geo_sign.specs.Point.{Point}
use Rattle.triangles.specs.Hulls.{HoldsHull, HoldsPoint, AreOff}
use Rattle.triangles.specs.Spans.{HoldsSpan, AreSpansOff}
use Rattle.triangles.specs.Trees.{IsNodeAbove, HasGrown, hull_in}
use Rattle.triangles.specs.declared.hull.Hull.{Hull}
use Rattle.triangles.specs.declared.span.Span.{Span}
use Rattle.triangles.proofs.Overs.{only_over}

holds_span_on : (r s t : Span) → HoldsSpan r s → HoldsSpan s t → HoldsSpan r t
holds_span_on r s t a b = record { low = omega (arith, ints, a.low, b.low); high = omega (arith, ints, a.high, b.high) }

-- a box that holds one that holds a third
pub holds_on : (f g h : Hull) → HoldsHull f g → HoldsHull g h → HoldsHull f h
holds_on f g h a b =
    record {
      x = holds_span_on f.x g.x h.x a.x b.x;
      y = holds_span_on f.y g.y h.y a.y b.y;
      z = holds_span_on f.z g.z h.z a.z b.z;
    }

-- one box of a list is replaced by one that holds it
pub grown_at : (hulls : List Hull) (n : ℕ) (g : Hull) → n < length hulls → HoldsHull g (hull_in hulls n)
    → HasGrown hulls (set hulls n g)
grown_at hulls n g within holds k h held =
    elim (cases k n) [
      | inl e ↦
          let here : HoldsHull (hull_in (set hulls n g) n) h =
          rw get_or-set_same (holds_on g (hull_in hulls n) h holds (subst (λ (i : ℕ). HoldsHull (hull_in hulls i) h) e held)) in
          subst (λ (i : ℕ). HoldsHull (hull_in (set hulls n g) i) h) (sym e) here
      | inr ne ↦ rw get_or-set_other held
    ]
  where
    cases : (k n : ℕ) → (k ≡ n) ⊎ (k ≢ n)
    cases k n =
        elim (cases_lt k n) [
          | inl l ↦ inr (λ e. omega arith)
          | inr l ↦ elim (cases_lt n k) [ inl m ↦ inr (λ e. omega arith) | inr m ↦ inl (omega arith) ]
        ]

-- the boxes below one level over a place hold h, and so do those up to it
pub insert_more : (hulls more : List Hull) (place node s : ℕ) (h : Hull)
    → ((t k : ℕ) → t < s → IsNodeAbove k t place → HoldsHull (hull_in hulls k) h) → HasGrown hulls more → IsNodeAbove node s place
    → HoldsHull (hull_in more node) h
    → (t k : ℕ) → t < s + 1 → IsNodeAbove k t place → HoldsHull (hull_in more k) h
insert_more hulls more place node s h below grown over here t k l o =
    elim (cases_lt t s) [
      | inl m ↦ grown k h (below t k m o)
      | inr m ↦
          let e : t ≡ s = omega arith in
          let o' : IsNodeAbove k s place = subst (λ (i : ℕ). IsNodeAbove k i place) e o in
          subst (λ (i : ℕ). HoldsHull (hull_in more i) h) (sym (only_over k node s place o' over)) here
    ]

-- what a box that is off holds is off
pub off_within : (g h k : Hull) → HoldsHull g h → AreOff g k → AreOff h k
off_within g h k holds off =
    elim off [
      | inl x ↦ inl (within_span g.x h.x k.x holds.x x)
      | inr more ↦ elim more [ inl y ↦ inr (inl (within_span g.y h.y k.y holds.y y)) | inr z ↦ inr (inr (within_span g.z h.z k.z holds.z z)) ]
    ]
  where
    within_span : (r s t : Span) → HoldsSpan r s → AreSpansOff r t → AreSpansOff s t
    within_span r s t a b =
        elim b [ inl l ↦ inl (omega (arith, ints, a.low, a.high)) | inr l ↦ inr (omega (arith, ints, a.low, a.high)) ]

-- a point of a box that another holds
pub point_in : (g h : Hull) (p : Point) → HoldsHull g h → HoldsPoint h p → HoldsPoint g p
point_in g h p a b =
    record {
      x_low = omega (arith, ints, a.x.low, b.x_low);
      x_high = omega (arith, ints, a.x.high, b.x_high);
      y_low = omega (arith, ints, a.y.low, b.y_low);
      y_high = omega (arith, ints, a.y.high, b.y_high);
      z_low = omega (arith, ints, a.z.low, b.z_low);
      z_high = omega (arith, ints, a.z.high, b.z_high);
    }
