-- The distinct points of rows, and a row more.
--
-- The distinct points are the first row's point and then those of the other rows, without that point. So a place is among
-- them exactly where it is a row's (any_distinct: what is left out is the first point alone), they differ in pairs
-- (distinct), and hold what all rows hold (keep). A row more, behind the others, adds its point where it is none of them and
-- changes nothing else (distinct_push, by whether it is the first row's point).
use Rattle.std.proofs.Common.{ℤ, ◌≡◌, ◌≢◌, ◌≤◌, ◌&&◌, ◌||◌, not, Bool, true, false, cond, refl, ap, sym, subst, ◌∙◌, arith}
use Rattle.std.proofs.Common.{List, [], ◌∷◌, ◌++◌, length, filter, All, AllPairs, Contains}
use Rattle.std.specs.Cmp.{IsEquivalence}
use Rattle.std.specs.List.{list_any}
use Rattle.std.specs.Ordering.{int_eq}
use Rattle.std.proofs.lemmas.Bool.{false≢true, not-true}
use Rattle.std.proofs.lemmas.List.{append-nil}
use Rattle.std.proofs.lemmas.Bool.Decides.{Decides-int_eq}
use Rattle.std.proofs.lemmas.List.Elements.{filter-append, filter_passes, All-filter, All-weaker, All-cons, All-head, All-tail}
use Rattle.std.proofs.lemmas.List.Kept.{AllPairs-cons, AllPairs-filter}
use Rattle.std.proofs.lemmas.Map.Views.{any-filter_same, Contains-from_any, All-from_any}
use Rattle.indexmap.specs.IndexSet.{insert_key}
use Rattle.geo_sign.specs.Point.{Point, point}
use Rattle.merge.specs.Merging.{is_same_point, distinct_points}
use Rattle.merge.specs.Laws.{MergedPointsAreFew}

-- ---- places that are one

three : (a b c : Bool) → (a && b && c) ≡ true → (a ≡ true) × (b ≡ true) × (c ≡ true)
three a b c e = grind arith

pub same_is : (a b : Point) → is_same_point a b ≡ true → a ≡ b
same_is a b e =
    let each = three (int_eq a.x b.x) (int_eq a.y b.y) (int_eq a.z b.z) e in
    let x : a.x ≡ b.x = (Decides-int_eq a.x b.x).0 each.0 in
    let y : a.y ≡ b.y = (Decides-int_eq a.y b.y).0 each.1 in
    let z : a.z ≡ b.z = (Decides-int_eq a.z b.z).0 each.2 in
    ap (λ (x : ℤ). point x a.y a.z) x ∙ (ap (λ (y : ℤ). point b.x y a.z) y ∙ ap (λ (z : ℤ). point b.x b.y z) z)

pub same_self : (a : Point) → is_same_point a a ≡ true
same_self a = rw ((Decides-int_eq a.x a.x).1 refl, (Decides-int_eq a.y a.y).1 refl, (Decides-int_eq a.z a.z).1 refl) refl

-- places that differ are not one
pub differ_is : (a b : Point) → is_same_point a b ≡ false → a ≢ b
differ_is a b e h = false≢true (sym e ∙ subst (λ (p : Point). is_same_point a p ≡ true) h (same_self a))

pub same_flips : (a b : Point) → is_same_point a b ≡ is_same_point b a
same_flips a b = grind (arith, differ_is, same_is)

pub same_equivalence : IsEquivalence is_same_point
same_equivalence =
    record {
      refl = same_self;
      symm = same_flips;
      congr = λ a b c e. subst (λ (p : Point). is_same_point a c ≡ is_same_point p c) (same_is a b e) refl;
    }

-- ---- what the distinct points have

-- the test that leaves a point's other rows out
abbrev pub is_other : Point → Point → Bool
is_other p q = not (is_same_point p q)

-- a place other than a left out one is as much among the points as before
any_other : (p q : Point) (points : List Point) → is_same_point q p ≡ false
    → list_any (is_same_point q) (filter (is_other p) points) ≡ list_any (is_same_point q) points
any_other p q points differ =
    any-filter_same (is_same_point q) (is_other p) true
    (λ r e. subst (λ (z : Point). is_other p z ≡ true) (same_is q r e) (ap not (same_flips p q ∙ differ)))
    points

-- a place is among the distinct points exactly where it is a row's
pub any_distinct : (q : Point) (rows : List Point)
    → list_any (is_same_point q) (distinct_points rows) ≡ list_any (is_same_point q) rows
any_distinct q [] = refl
any_distinct q (p ∷ rest) = grind (arith, any_other, any_distinct q rest)

pub each_row : (rows : List Point) → All (Contains (distinct_points rows)) rows
each_row rows =
    All-from_any same_equivalence (Contains (distinct_points rows)) rows
    (λ q h. Contains-from_any same_is q (distinct_points rows) (any_distinct q rows ∙ h))

pub keep : (Holds : Point → Type 0) (rows : List Point) → All Holds rows → All Holds (distinct_points rows)
keep Holds [] h = h
keep Holds (p ∷ rest) h =
    All-cons Holds p (filter (is_other p) (distinct_points rest)) (All-head Holds p rest h)
    (All-filter (is_other p) Holds (distinct_points rest) (keep Holds rest (All-tail Holds p rest h)))

-- the other points are none of p
pub others : (p : Point) (points : List Point) → All (λ q. is_same_point p q ≡ false) (filter (is_other p) points)
others p points = grind (arith, All-weaker, not-true, filter_passes)

pub distinct : (rows : List Point) → AllPairs (λ p q. p ≢ q) (distinct_points rows)
distinct [] = λ i j d l m. absurd (omega (arith, m))
distinct (p ∷ rest) =
    AllPairs-cons (λ a b. a ≢ b) p (filter (is_other p) (distinct_points rest))
    (All-weaker (λ q. is_same_point p q ≡ false) (λ q. p ≢ q) (differ_is p) (filter (is_other p) (distinct_points rest))
    (others p (distinct_points rest)))
    (AllPairs-filter (λ a b. a ≢ b) (is_other p) (distinct_points rest) (distinct rest))

few_kept : (test : Point → Bool) (points : List Point) → length (filter test points) ≤ length points
few_kept test [] = omega arith
few_kept test (p ∷ rest) = grind (arith, few_kept test rest)

pub few : MergedPointsAreFew
few [] = omega arith
few (p ∷ rest) = omega (arith, few_kept (is_other p) (distinct_points rest), few rest)

-- ---- a row more

-- the distinct points, with the new row's point behind them where it is none of them
pub distinct_push : (rows : List Point) (p : Point)
    → distinct_points (rows ++ p ∷ []) ≡ insert_key is_same_point (distinct_points rows) p
distinct_push [] p = refl
distinct_push (first ∷ rest) p =
    ap (λ (points : List Point). first ∷ filter (is_other first) points) (distinct_push rest p)
    ∙ at_head (is_same_point p first) refl
  where
    points : List Point
    points = distinct_points rest

    others_of : List Point → List Point
    others_of list = filter (is_other first) list

    -- with p left out
    left_out : (b : Bool) → is_same_point first p ≡ true
        → first ∷ others_of (cond b points (points ++ p ∷ [])) ≡ first ∷ others_of points
    left_out true same = refl
    left_out false same = grind (arith, filter-append, append-nil)

    -- with p kept
    kept : (b : Bool) → is_same_point first p ≡ false
        → first ∷ others_of (cond b points (points ++ p ∷ []))
        ≡ cond b (first ∷ others_of points) ((first ∷ others_of points) ++ p ∷ [])
    kept true other = refl
    kept false other = grind (arith, filter-append)

    at_head : (b : Bool) → is_same_point p first ≡ b
        → first ∷ others_of (cond (list_any (is_same_point p) points) points (points ++ p ∷ []))
        ≡ cond (b || list_any (is_same_point p) (others_of points)) (first ∷ others_of points)
        ((first ∷ others_of points) ++ p ∷ [])
    at_head true e = left_out (list_any (is_same_point p) points) (same_flips first p ∙ e)
    at_head false e = grind (arith, kept, same_flips, any_other)
