-- A walk to a place ends. A step goes across a facet that has the place behind it, and the plane of the cell across is higher
-- over the place than that of the cell. So each cell that is higher there than the new one is higher than the old one, and the
-- new one itself is too:
-- fewer are higher at each step.
-- Stands on: Fan and Order.
use Rattle.std.proofs.Common.{ℕ, ◌≡◌, ◌<◌, ◌≤◌, refl, sym, subst, inl, inr, arith, Bool, true, false, int_lt, ℤ, pos, ◌*ℤ◌}
use Rattle.std.proofs.Common.{◌<ℤ◌, List, [], ◌∷◌}
use Rattle.std.proofs.lemmas.Int.{ints}
use Rattle.geo_sign.specs.Rational.{RationalPoint}
use Rattle.geo_sign.specs.Cells.{IsCell}
use Rattle.geo_sign.specs.Tetrahedron.{Tetrahedron, tetrahedron}
use Rattle.geo_sign.specs.Vertices.{orientation_of, Vertices}
use Rattle.cell_laws.specs.Lifts.{is_higher, lift_of}
use Rattle.cell_laws.specs.Lists.{count, IsIn}
use Rattle.geo_sign.specs.Edges.{one_if}
use Rattle.geo_sign.specs.Writings.{IsRewritten}
use Rattle.geo_sign.proofs.Rewritings.{IsCellOf, orientation_at, same_cell, same_orientation}
use Rattle.cell_laws.proofs.Fan.{across_above}
use Rattle.cell_laws.proofs.Flood.{move}
use Rattle.cell_laws.proofs.Order.{IsLater, later_trans, walk_step}
use Rattle.cell_laws.proofs.Regions.{IsGeneric}
use Rattle.cell_laws.proofs.Ways.{beside, same_lift}

one_le : (a b : Bool) → (a ≡ true → b ≡ true) → one_if a ≤ one_if b
one_le true b h = subst (λ t. 1 ≤ one_if t) (sym (h refl)) (omega arith)
one_le false b h = omega arith

count_le : {X : Type 0} (f g : X → Bool) (xs : List X) → ((x : X) → IsIn xs x → f x ≡ true → g x ≡ true)
    → count f xs ≤ count g xs
count_le f g [] h = omega arith
count_le f g (x ∷ xs) h =
    let a = one_le (f x) (g x) (h x (inl refl)) in let b = count_le f g xs (λ y i. h y (inr i)) in omega (arith, a, b)

pub count_lt :
    {X : Type 0} (f g : X → Bool) (xs : List X) (y : X) → IsIn xs y → f y ≡ false → g y ≡ true →
    ((x : X) → IsIn xs x → f x ≡ true → g x ≡ true) → count f xs < count g xs
count_lt f g [] y i e k h = absurd i
count_lt f g (x ∷ xs) y (inl q) e k h = grind (arith, count_le)
count_lt f g (x ∷ xs) y (inr i) e k h =
    let a = one_le (f x) (g x) (h x (inl refl)) in
    let b = count_lt f g xs y i e k (λ z j. h z (inr j)) in
    omega (arith, a, b)

lt_true : (a b : ℤ) → int_lt a b ≡ true → a <ℤ b
lt_true a b h = grind (arith, ints)

lt_is : (a b : ℤ) → a <ℤ b → int_lt a b ≡ true
lt_is a b h = grind (arith, ints)

lt_same : (a : ℤ) → int_lt a a ≡ false
lt_same a = grind (arith, ints)

-- a step across a facet that has q behind it
pub walk_falls :
    {X : Type 0} (v : Vertices) → IsGeneric v → (q : RationalPoint) (live : List X) (cell : X → Tetrahedron)
    → ((x : X) → IsIn live x → IsCellOf v (cell x)) → (x y : X) (a b c d e : ℕ) → IsIn live x → IsIn live y
    → IsRewritten (cell x) (tetrahedron a b c d) → IsRewritten (cell y) (tetrahedron a c b e) → beside v a b c q <ℤ pos 0
    → count (λ z. is_higher v q (cell y) (cell z)) live < count (λ z. is_higher v q (cell x) (cell z)) live
walk_falls {X} v g q live cell cells x y a b c d e i j w w' l =
    let f : IsCell v a b c d = same_cell v (cell x) (tetrahedron a b c d) w (cells x i) in
    let z : IsCell v a c b e = same_cell v (cell y) (tetrahedron a c b e) w' (cells y j) in
    let n : IsLater (orientation_at v (cell x)) (lift_of v (cell x) q) (orientation_at v (cell y)) (lift_of v (cell y) q) =
    move (orientation_at v (cell x)) (lift_of v (cell x) q) (orientation_at v (cell y)) (lift_of v (cell y) q)
    (orientation_of v a b c d) (lift_of v (tetrahedron a b c d) q) (orientation_of v a c b e)
    (lift_of v (tetrahedron a c b e) q)
    (same_orientation v (cell x) (tetrahedron a b c d) w) (same_lift v q (cell x) (tetrahedron a b c d) w)
    (same_orientation v (cell y) (tetrahedron a c b e) w') (same_lift v q (cell y) (tetrahedron a c b e) w')
    (walk_step (v.at a) (v.at b) (v.at c) (v.at d) (v.at e) q (v.high a) (v.high b) (v.high c) (v.high d) (v.high e)
    (across_above v g a b c d e f z) l) in
    count_lt (λ z. is_higher v q (cell y) (cell z)) (λ z. is_higher v q (cell x) (cell z)) live y j
    (lt_same (orientation_at v (cell y) *ℤ lift_of v (cell y) q))
    (lt_is (orientation_at v (cell y) *ℤ lift_of v (cell x) q) (orientation_at v (cell x) *ℤ lift_of v (cell y) q) n)
    (λ t k h. lt_is (orientation_at v (cell t) *ℤ lift_of v (cell x) q) (orientation_at v (cell x) *ℤ lift_of v (cell t) q)
    (later_trans (orientation_at v (cell x)) (lift_of v (cell x) q) (orientation_at v (cell y)) (lift_of v (cell y) q)
    (orientation_at v (cell t)) (lift_of v (cell t) q) (cells x i).positive (cells y j).positive (cells t k).positive n
    (lt_true (orientation_at v (cell t) *ℤ lift_of v (cell y) q) (orientation_at v (cell y) *ℤ lift_of v (cell t) q) h)))
