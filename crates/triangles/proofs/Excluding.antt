-- What planes say of the corners of two triangles.
use Rattle.std.proofs.Common.{ℕ, ◌≡◌, ◌||◌, ap₂, sym, subst, ◌∙◌, arith, Bool, true, inl, inr, ℤ, pos, ◌-ℤ◌, ◌≤ℤ◌, ◌<ℤ◌, []}
use Rattle.std.proofs.lemmas.Bool.{or_cases}
use Rattle.std.proofs.lemmas.Int.{ints}
use mir.Syntax.{w128}
use mir.Val.{SFits, to_z, of_z}
use lib.Signed.{le_z}
use Rattle.geo_sign.specs.Point.{Point, cross, dot, step}
use Rattle.geo_sign.specs.Polynomial.{Polynomial, variable, difference}
use Rattle.geo_sign.proofs.Ring.{ring}
use Rattle.geo_sign.proofs.Written.{Symbols, symbols, coordinates, step', cross', dot'}
use Rattle.triangles.specs.Shared.{weighted_sum, Weights, IsShared, AreExcluded, AreExcludedOff}
use Rattle.triangles.specs.declared.corners.Triangle.{Triangle}
use Rattle.triangles.specs.declared.corners.Excluded.{Excluded}
use Rattle.triangles.specs.declared.corners.Marks.{Marks}
use Rattle.triangles.specs.declared.heights.Heights.{Heights}
use Rattle.triangles.proofs.Separations.{same_height, sums_with, weights_gone, Gone}

-- of two marks the one was there before, and the other says that the weight is 0
either : (new old more : Bool) (u : ℕ) → new ≡ (old || more) → (old ≡ true → u ≡ 0) → (more ≡ true → u ≡ 0) → new ≡ true → u ≡ 0
either new old more u e before now h = elim (or_cases old more (sym e ∙ h)) [ inl p ↦ before p | inr p ↦ now p ]

-- heights of a triangle's corners over one plane
pub record AreHeights (n o : Point) (t : Triangle) (h : Heights) : Type 0 where
  pub p : h.p ≡ dot n (step o t.p)
  pub q : h.q ≡ dot n (step o t.q)
  pub r : h.r ≡ dot n (step o t.r)

-- the height is at most that of each corner, or at least
pub record IsUnder (m : ℤ) (h : Heights) : Type 0 where
  pub p : m ≤ℤ h.p
  pub q : m ≤ℤ h.q
  pub r : m ≤ℤ h.r

pub record IsOver (m : ℤ) (h : Heights) : Type 0 where
  pub p : h.p ≤ℤ m
  pub q : h.q ≤ℤ m
  pub r : h.r ≤ℤ m

module _ (n o : Point) (s t : Triangle) (g h : Heights) (of_s : AreHeights n o s g) (of_t : AreHeights n o t h) (w : Weights)
    (shared : IsShared s t w) where
  -- both triangles give the place one height
  pub level : weighted_sum g.p g.q g.r w.p w.q w.r ≡ weighted_sum h.p h.q h.r w.x w.y w.z
  level =
      sym (sums_with w.p w.q w.r of_s.p of_s.q of_s.r)
      ∙ (same_height n o s.p s.q s.r t.p t.q t.r w.p w.q w.r w.x w.y w.z shared.total shared.place
      ∙ sums_with w.x w.y w.z of_t.p of_t.q of_t.r)

  -- no corner of the first is below m, and none of the other above
  pub gone_at : (m : ℤ) → IsUnder m g → IsOver m h → Gone m g.p g.q g.r h.p h.q h.r w.p w.q w.r w.x w.y w.z
  gone_at m under over =
      weights_gone m g.p g.q g.r h.p h.q h.r w.p w.q w.r w.x w.y w.z under.p under.q under.r over.p over.q over.r shared.total level

-- comparisons of numbers as the code holds them

pub plain_le : (a b : ℤ) → SFits w128 a → SFits w128 b → le_z (to_z w128 (of_z w128 a)) (to_z w128 (of_z w128 b)) ≡ true → a ≤ℤ b
plain_le a b f g h = omega (arith, ints)

pub plain_above : (m : ℤ) (x : ℤ) → SFits w128 m → to_z w128 (of_z w128 m) <ℤ x → m <ℤ x
plain_above m x f h = omega (arith, ints)

pub plain_below : (m : ℤ) (x : ℤ) → SFits w128 m → x <ℤ to_z w128 (of_z w128 m) → x <ℤ m
plain_below m x f h = omega (arith, ints)

-- marked corners lie above a height, or below
pub record AreAbove (m : ℤ) (h : Heights) (k : Marks) : Type 0 where
  pub p : k.p ≡ true → m <ℤ h.p
  pub q : k.q ≡ true → m <ℤ h.q
  pub r : k.r ≡ true → m <ℤ h.r

pub record AreBelow (m : ℤ) (h : Heights) (k : Marks) : Type 0 where
  pub p : k.p ≡ true → h.p <ℤ m
  pub q : k.q ≡ true → h.q <ℤ m
  pub r : k.r ≡ true → h.r <ℤ m

-- the marks are those that were, and more
pub record AreJoined (f k : Excluded) (m n : Marks) : Type 0 where
  pub p : k.one.p ≡ (f.one.p || m.p)
  pub q : k.one.q ≡ (f.one.q || m.q)
  pub r : k.one.r ≡ (f.one.r || m.r)
  pub x : k.other.p ≡ (f.other.p || n.p)
  pub y : k.other.q ≡ (f.other.q || n.q)
  pub z : k.other.r ≡ (f.other.r || n.r)

under_lower : (m n : ℤ) (h : Heights) → m ≤ℤ n → IsUnder n h → IsUnder m h
under_lower m n h l u = record { p = omega (arith, ints, u.p); q = omega (arith, ints, u.q); r = omega (arith, ints, u.r) }

over_higher : (m n : ℤ) (h : Heights) → m ≤ℤ n → IsOver m h → IsOver n h
over_higher m n h l u = record { p = omega (arith, ints, u.p); q = omega (arith, ints, u.q); r = omega (arith, ints, u.r) }

module _ (n o : Point) (s t : Triangle) (g h : Heights) (of_s : AreHeights n o s g) (of_t : AreHeights n o t h) (f k : Excluded)
    (before : AreExcluded s t f) (low high : Marks) (floor roof : ℤ) (fits : roof ≤ℤ floor) where
  -- the first is the upper one
  pub excluded_above : IsUnder floor g → IsOver roof h → AreAbove roof g high → AreBelow floor h low → AreJoined f k high low
      → AreExcluded s t k
  excluded_above under over above below joined w shared =
      let was = before w shared in
      let at_roof = gone_at n o s t g h of_s of_t w shared roof (under_lower roof floor g fits under) over in
      let at_floor = gone_at n o s t g h of_s of_t w shared floor under (over_higher roof floor h fits over) in
      record {
        p = either _ _ _ w.p joined.p was.p (λ e. at_roof.a_gone (above.p e));
        q = either _ _ _ w.q joined.q was.q (λ e. at_roof.b_gone (above.q e));
        r = either _ _ _ w.r joined.r was.r (λ e. at_roof.c_gone (above.r e));
        x = either _ _ _ w.x joined.x was.x (λ e. at_floor.d_gone (below.p e));
        y = either _ _ _ w.y joined.y was.y (λ e. at_floor.e_gone (below.q e));
        z = either _ _ _ w.z joined.z was.z (λ e. at_floor.f_gone (below.r e));
      }

  -- the other one is
  pub excluded_below : IsUnder floor h → IsOver roof g → AreBelow floor g low → AreAbove roof h high → AreJoined f k low high
      → AreExcluded s t k
  excluded_below under over below above joined w shared =
      let was = before w shared in
      let turned : Weights = record { p = w.x; q = w.y; r = w.z; x = w.p; y = w.q; z = w.r } in
      let back : IsShared t s turned = record { total = sym shared.total; place = sym shared.place } in
      let at_roof = gone_at n o t s h g of_t of_s turned back roof (under_lower roof floor h fits under) over in
      let at_floor = gone_at n o t s h g of_t of_s turned back floor under (over_higher roof floor g fits over) in
      record {
        p = either _ _ _ w.p joined.p was.p (λ e. at_floor.d_gone (below.p e));
        q = either _ _ _ w.q joined.q was.q (λ e. at_floor.e_gone (below.q e));
        r = either _ _ _ w.r joined.r was.r (λ e. at_floor.f_gone (below.r e));
        x = either _ _ _ w.x joined.x was.x (λ e. at_roof.a_gone (above.p e));
        y = either _ _ _ w.y joined.y was.y (λ e. at_roof.b_gone (above.q e));
        z = either _ _ _ w.z joined.z was.z (λ e. at_roof.c_gone (above.r e));
      }

-- the two triangles in the other order

abbrev pub turned : Weights → Weights
turned w = record { p = w.x; q = w.y; r = w.z; x = w.p; y = w.q; z = w.r }

pub shared_turned : (s t : Triangle) (w : Weights) → IsShared s t w → IsShared t s (turned w)
shared_turned s t w shared = record { total = sym shared.total; place = sym shared.place }

-- the plane of a triangle

abbrev own_normal : (p q r : Point) → Point
own_normal p q r = cross (step p q) (step q r)

-- the same heights, by the same normal
pub by_own_normal : {n u v p : Point} (q r : Point) (t : Triangle) (h : Heights) → n ≡ cross u v → u ≡ step p q → v ≡ step q r
    → AreHeights n p t h → AreHeights (own_normal p q r) p t h
by_own_normal {n} {u} {v} {p} q r t h whole first second heights =
    subst (λ (m : Point). AreHeights m p t h) (whole ∙ ap₂ (λ (x y : Point). cross x y) first second) heights

-- its three corners have the height 0
flat : (p q r : Point)
    → (dot (own_normal p q r) (step p p) ≡ pos 0) × (dot (own_normal p q r) (step p q) ≡ pos 0) × (dot (own_normal p q r) (step p r) ≡ pos 0)
flat p q r =
    let P : Symbols = symbols 0 in
    let Q : Symbols = symbols 3 in
    let R : Symbols = symbols 6 in
    let N : Symbols = cross' (step' P Q) (step' Q R) in
    let zero : Polynomial = difference (variable 0) (variable 0) in
    let none : p.x -ℤ p.x ≡ pos 0 = omega (arith, ints) in
    let numbers = coordinates p (coordinates q (coordinates r [])) in (
      ring numbers (dot' N (step' P P)) zero tt ∙ none,
      ring numbers (dot' N (step' P Q)) zero tt ∙ none,
      ring numbers (dot' N (step' P R)) zero tt ∙ none,
    )

module _ (s t : Triangle) (h : Heights) (of_t : AreHeights (own_normal s.p s.q s.r) s.p t h) (m : Marks) where
  abbrev Level : Heights
  Level = record { p = pos 0; q = pos 0; r = pos 0 }

  level_heights : AreHeights (own_normal s.p s.q s.r) s.p s Level
  level_heights =
      let f = flat s.p s.q s.r in
      record { p = sym f.0; q = sym f.1; r = sym f.2 }

  -- no corner of the other is above the plane
  pub excluded_under : (roof : ℤ) → roof ≤ℤ pos 0 → IsOver roof h → AreBelow (pos 0) h m → AreExcludedOff s t m
  excluded_under roof low over below w shared =
      let gone = gone_at _ s.p s t Level h level_heights of_t w shared (pos 0)
      (record { p = omega (arith, ints); q = omega (arith, ints); r = omega (arith, ints) }) (over_higher roof (pos 0) h low over) in
      record { p = λ e. gone.d_gone (below.p e); q = λ e. gone.e_gone (below.q e); r = λ e. gone.f_gone (below.r e) }

  -- none is below it
  pub excluded_over : (floor : ℤ) → pos 0 ≤ℤ floor → IsUnder floor h → AreAbove (pos 0) h m → AreExcludedOff s t m
  excluded_over floor high under above w shared =
      let gone = gone_at _ s.p t s h Level of_t level_heights (turned w) (shared_turned s t w shared) (pos 0) (under_lower (pos 0) floor h high under)
      (record { p = omega (arith, ints); q = omega (arith, ints); r = omega (arith, ints) }) in
      record { p = λ e. gone.a_gone (above.p e); q = λ e. gone.b_gone (above.q e); r = λ e. gone.c_gone (above.r e) }
