-- The order of places.
--
-- It is that of three integers, so it is transitive and total (before_trans, same_if). Where each place is before the next,
-- every place is before all later ones (rises). What is neither before nor after a position is at it (not_there).
use Rattle.std.proofs.Common.{ℕ, zero, suc, ◌≡◌, ◌<◌, ◌≤◌, ◌+◌, ◌-◌, ◌⊎◌, inl, inr, ap, sym, subst, ◌∙◌, arith, ℤ, ◌<ℤ◌}
use Rattle.std.proofs.Common.{List, length, get_or, Contains, Option, Some, None, IfNone}
use Rattle.std.proofs.lemmas.Bool.{cases_lt, cases_order}
use Rattle.std.proofs.lemmas.Int.{ints}
use Rattle.std.proofs.lemmas.List.{get_or_default}
use Rattle.std.specs.Cmp.{int_ranks}
use Rattle.std.specs.Ordering.{int_cmp, MatchOrdering}
use Rattle.std.specs.declared.cmp.Ordering.{Ordering}
use Rattle.std.specs.declared.cmp.Ordering.TheVariants.{Less, Equal, Greater}
use Rattle.geo_sign.specs.Point.{Point, point, origin}
use Rattle.mesh.specs.Meshes.{point_at}
use Rattle.mesh_join.specs.Joins.{ArePlacesRising, IsPlaceBefore}

-- the same for the last two coordinates
abbrev IsTailBefore : Point → Point → Type 0
IsTailBefore p q = (p.y <ℤ q.y) ⊎ ((p.y ≡ q.y) × (p.z <ℤ q.z))

tail_trans : (p q r : Point) → IsTailBefore p q → IsTailBefore q r → IsTailBefore p r
tail_trans p q r (inl a) (inl b) = inl (omega (arith, ints, a, b))
tail_trans p q r (inl a) (inr b) = inl (omega (arith, ints, a, b.0))
tail_trans p q r (inr a) (inl b) = inl (omega (arith, ints, a.0, b))
tail_trans p q r (inr a) (inr b) = inr (a.0 ∙ b.0, omega (arith, ints, a.1, b.1))

pub before_trans : (p q r : Point) → IsPlaceBefore p q → IsPlaceBefore q r → IsPlaceBefore p r
before_trans p q r (inl a) (inl b) = inl (omega (arith, ints, a, b))
before_trans p q r (inl a) (inr b) = inl (omega (arith, ints, a, b.0))
before_trans p q r (inr a) (inl b) = inl (omega (arith, ints, a.0, b))
before_trans p q r (inr a) (inr b) = inr (a.0 ∙ b.0, tail_trans p q r a.1 b.1)

pub not_self : (p : Point) → ¬ IsPlaceBefore p p
not_self p (inl a) = omega (arith, ints, a)
not_self p (inr (e, inl a)) = omega (arith, ints, a)
not_self p (inr (e, inr (f, a))) = omega (arith, ints, a)

three_ways : (x y : ℤ) → (x <ℤ y) ⊎ ((x ≡ y) ⊎ (y <ℤ x))
three_ways x y = by (int_cmp x y) (int_ranks x y)
  where
    by : (o : Ordering) → MatchOrdering o (x <ℤ y) (x ≡ y) (y <ℤ x) → (x <ℤ y) ⊎ ((x ≡ y) ⊎ (y <ℤ x))
    by Less h = inl h
    by Equal h = inr (inl h)
    by Greater h = inr (inr h)

-- two points are equal if neither is before the other
pub same_if : (p q : Point) → (¬ IsPlaceBefore p q) → (¬ IsPlaceBefore q p) → p ≡ q
same_if p q a b = by_x (three_ways p.x q.x)
  where
    by_z : p.x ≡ q.x → p.y ≡ q.y → (p.z <ℤ q.z) ⊎ ((p.z ≡ q.z) ⊎ (q.z <ℤ p.z)) → p ≡ q
    by_z e f (inl l) = absurd (a (inr (e, inr (f, l))))
    by_z e f (inr (inl g)) = ap (λ (n : ℤ). point n p.y p.z) e ∙ (ap (λ (n : ℤ). point q.x n p.z) f ∙ ap (λ (n : ℤ). point q.x q.y n) g)
    by_z e f (inr (inr l)) = absurd (b (inr (sym e, inr (sym f, l))))

    by_y : p.x ≡ q.x → (p.y <ℤ q.y) ⊎ ((p.y ≡ q.y) ⊎ (q.y <ℤ p.y)) → p ≡ q
    by_y e (inl l) = absurd (a (inr (e, inl l)))
    by_y e (inr (inl f)) = by_z e f (three_ways p.z q.z)
    by_y e (inr (inr l)) = absurd (b (inr (sym e, inl l)))

    by_x : (p.x <ℤ q.x) ⊎ ((p.x ≡ q.x) ⊎ (q.x <ℤ p.x)) → p ≡ q
    by_x (inl l) = absurd (a (inl l))
    by_x (inr (inl e)) = by_y e (three_ways p.y q.y)
    by_x (inr (inr l)) = absurd (b (inl l))

-- each place is before all that follow it
pub rises : (places : List Point) → ArePlacesRising places → (i j : ℕ) → i < j → j < length places
    → IsPlaceBefore (point_at places i) (point_at places j)
rises places rising i zero l m = absurd (omega arith)
rises places rising i (suc j) l m =
    let next : j + 1 ≡ suc j = omega arith in
    let step : IsPlaceBefore (point_at places j) (point_at places (j + 1)) = rising j (omega arith) in
    subst (λ (k : ℕ). IsPlaceBefore (point_at places i) (point_at places k)) next (elim (cases_lt i j) [
      | inl less ↦ before_trans (point_at places i) (point_at places j) (point_at places (j + 1))
          (rises places rising i j less (omega arith)) step
      | inr le ↦ let same : j ≡ i = omega arith in
          subst (λ (k : ℕ). IsPlaceBefore (point_at places k) (point_at places (j + 1))) same step
    ])

-- a point that is after the places before a position, not after those behind it, and not at it, is at no place
pub not_there : (places : List Point) (p : Point) (n : ℕ) → ArePlacesRising places
    → ((k : ℕ) → k < n → IsPlaceBefore (point_at places k) p)
    → ((k : ℕ) → n ≤ k → k < length places → ¬ IsPlaceBefore (point_at places k) p)
    → (n < length places → ¬ (point_at places n ≡ p)) → ¬ Contains places p
not_there places p n rising before after none h = by (cases_order h.0 n)
  where
    is : point_at places h.0 ≡ p
    is = get_or_default places h.0 origin p h.1 ∙ h.2

    by : (h.0 ≡ n) ⊎ ((h.0 < n) ⊎ (n < h.0)) → ⊥
    by (inl e) = none (omega (arith, e, h.1)) (subst (λ (k : ℕ). point_at places k ≡ p) e is)
    by (inr (inl l)) = not_self p (subst (λ (q : Point). IsPlaceBefore q p) is (before h.0 l))
    by (inr (inr l)) =
        after n (omega arith) (omega (arith, l, h.1))
        (subst (λ (q : Point). IsPlaceBefore (point_at places n) q) is (rises places rising n h.0 l h.1))

-- what is before a point reaches to a place that is before it, and what is not before it begins at one that is not
pub before_more : (places : List Point) (p : Point) (n : ℕ) → ArePlacesRising places → n < length places
    → IsPlaceBefore (point_at places n) p → (k : ℕ) → k < n + 1 → IsPlaceBefore (point_at places k) p
before_more places p n rising within here k l = by (cases_lt k n)
  where
    by : (k < n) ⊎ (n ≤ k) → IsPlaceBefore (point_at places k) p
    by (inl less) =
        before_trans (point_at places k) (point_at places n) p (rises places rising k n less within) here
    by (inr le) =
        let same : n ≡ k = omega arith in subst (λ (j : ℕ). IsPlaceBefore (point_at places j) p) same here

pub after_less : (places : List Point) (p : Point) (n : ℕ) → ArePlacesRising places → (¬ IsPlaceBefore (point_at places n) p)
    → (k : ℕ) → n ≤ k → k < length places → ¬ IsPlaceBefore (point_at places k) p
after_less places p n rising here k le within before = by (cases_lt n k)
  where
    by : (n < k) ⊎ (k ≤ n) → ⊥
    by (inl less) = here (before_trans (point_at places n) (point_at places k) p (rises places rising n k less within) before)
    by (inr more) =
        let same : k ≡ n = omega arith in here (subst (λ (j : ℕ). IsPlaceBefore (point_at places j) p) same before)

-- where the number at a position is not that of the point's place, it has none
pub none_at : (found : Option ℕ) (places : List Point) (p : Point) (n : ℕ) → ArePlacesRising places
    → ((k : ℕ) → k < n → IsPlaceBefore (point_at places k) p)
    → ((k : ℕ) → n ≤ k → k < length places → ¬ IsPlaceBefore (point_at places k) p)
    → IfNone found (n < length places → ¬ (point_at places n ≡ p)) → IfNone found (¬ Contains places p)
none_at None places p n rising before after none = not_there places p n rising before after none
none_at (Some m) places p n rising before after none = tt
