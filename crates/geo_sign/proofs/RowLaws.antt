-- What a row is good for.
--
-- One row: a vertex of t is one of the row's numbers and back, so the least of two rows are equal, then the second, and so on.
-- Of the row and the row with its last two exchanged only one is positive, and that is what `written` takes; so t is written
-- anew as `written` makes it. Each facet of a rising row has its smallest number first, and no other rotation of it has; so a
-- rotation of a facet of `written` that has its smallest number first is that facet, as it stands.
use Rattle.std.proofs.Common.{ℕ, zero, suc, ◌<◌, ◌≤◌, ◌≡◌, ◌<ℤ◌, refl, ap, ap₂, sym, subst, ◌∙◌, ◌⊎◌, inl, inr, ⊎_elim, arith}
use Rattle.std.proofs.Common.{Bool, true, false, int_lt, ℤ, pos, neg_ℤ, List, [], ◌∷◌, if◌then◌else◌}
use Rattle.std.proofs.lemmas.Int.{ints}
use Rattle.geo_sign.specs.Tetrahedron.{Tetrahedron, tetrahedron, facet_of}
use Rattle.geo_sign.specs.Vertices.{Vertices, orientation_of}
use Rattle.geo_sign.specs.Cells.{IsCell, IsRisingCell, written}
use Rattle.geo_sign.specs.Writings.{IsRewritten, IsVertexOf}
use Rattle.geo_sign.specs.RowLaws.{IsRowOf, IsFirstLeast, RowsExist, RowsAreWritten, RowsAreKept, RowsTell, CellsAreRows}
use Rattle.geo_sign.specs.RowLaws.{WrittenFacets}
use Rattle.geo_sign.proofs.Exchanges.{exchanged_orientation}
use Rattle.geo_sign.proofs.Rewritings.{IsCellOf, same_cell, same_vertex, rewritten_after, rewritten_back}
use Rattle.geo_sign.proofs.CellRows.{same_positive, row_there}
use Rattle.geo_sign.proofs.SignTests.{above_is}

-- ---- a row has four numbers
pub by_row : (t : Tetrahedron) (P : List ℕ → Type 0) → ((a b c d : ℕ) → IsRowOf t (a ∷ b ∷ c ∷ d ∷ []) → P (a ∷ b ∷ c ∷ d ∷ []))
    → (row : List ℕ) → IsRowOf t row → P row
by_row t P f [] h = absurd h
by_row t P f (a ∷ []) h = absurd h
by_row t P f (a ∷ b ∷ []) h = absurd h
by_row t P f (a ∷ b ∷ c ∷ []) h = absurd h
by_row t P f (a ∷ b ∷ c ∷ d ∷ []) h = f a b c d h
by_row t P f (a ∷ b ∷ c ∷ d ∷ e ∷ row) h = absurd h

pub by_rising : (v : Vertices) (P : List ℕ → Type 0)
    → ((a b c d : ℕ) → IsRisingCell v (a ∷ b ∷ c ∷ d ∷ []) → P (a ∷ b ∷ c ∷ d ∷ [])) → (row : List ℕ) → IsRisingCell v row
    → P row
by_rising v P f [] h = absurd h
by_rising v P f (a ∷ []) h = absurd h
by_rising v P f (a ∷ b ∷ []) h = absurd h
by_rising v P f (a ∷ b ∷ c ∷ []) h = absurd h
by_rising v P f (a ∷ b ∷ c ∷ d ∷ []) h = f a b c d h
by_rising v P f (a ∷ b ∷ c ∷ d ∷ e ∷ row) h = absurd h

-- ---- there is one row
-- u is one of four numbers
abbrev IsOneOf : (a b c d u : ℕ) → Type 0
IsOneOf a b c d u = IsVertexOf (tetrahedron a b c d) u

record AreRising (a b c d : ℕ) : Type 0 where
  ab : a < b
  bc : b < c
  cd : c < d

-- of rising numbers none lies between two that follow one another
first_least : (a b c d u : ℕ) → AreRising a b c d → IsOneOf a b c d u → a ≤ u
first_least a b c d u r (inl e) = omega (arith, e)
first_least a b c d u r (inr (inl e)) = omega (arith, e)
first_least a b c d u r (inr (inr (inl e))) = omega (arith, e)
first_least a b c d u r (inr (inr (inr e))) = omega (arith, e)

second_least : (a b c d u : ℕ) → AreRising a b c d → IsOneOf a b c d u → a < u → b ≤ u
second_least a b c d u r (inl e) l = omega (arith, e)
second_least a b c d u r (inr (inl e)) l = omega (arith, e)
second_least a b c d u r (inr (inr (inl e))) l = omega (arith, e)
second_least a b c d u r (inr (inr (inr e))) l = omega (arith, e)

third_least : (a b c d u : ℕ) → AreRising a b c d → IsOneOf a b c d u → b < u → c ≤ u
third_least a b c d u r (inl e) l = omega (arith, e)
third_least a b c d u r (inr (inl e)) l = omega (arith, e)
third_least a b c d u r (inr (inr (inl e))) l = omega (arith, e)
third_least a b c d u r (inr (inr (inr e))) l = omega (arith, e)

fourth_least : (a b c d u : ℕ) → AreRising a b c d → IsOneOf a b c d u → c < u → d ≤ u
fourth_least a b c d u r (inl e) l = omega (arith, e)
fourth_least a b c d u r (inr (inl e)) l = omega (arith, e)
fourth_least a b c d u r (inr (inr (inl e))) l = omega (arith, e)
fourth_least a b c d u r (inr (inr (inr e))) l = omega (arith, e)

-- rising numbers with the same members are the same
same_numbers : (a b c d i j k l : ℕ) → i ≡ a → j ≡ b → k ≡ c → l ≡ d → i ∷ j ∷ k ∷ l ∷ [] ≡ a ∷ b ∷ c ∷ d ∷ []
same_numbers a b c d i j k l e f g h = ap₂ (λ x y. x ∷ y ∷ k ∷ l ∷ []) e f ∙ ap₂ (λ x y. a ∷ b ∷ x ∷ y ∷ []) g h

rising_equal : (a b c d i j k l : ℕ) → AreRising a b c d → AreRising i j k l → ((u : ℕ) → IsOneOf a b c d u → IsOneOf i j k l u)
    → ((u : ℕ) → IsOneOf i j k l u → IsOneOf a b c d u) → i ∷ j ∷ k ∷ l ∷ [] ≡ a ∷ b ∷ c ∷ d ∷ []
rising_equal a b c d i j k l r s f g = same_numbers a b c d i j k l first second third fourth
  where
    first : i ≡ a
    first =
        let x = first_least a b c d i r (g i (inl refl)) in
        let y = first_least i j k l a s (f a (inl refl)) in
        omega (arith, x, y)

    second : j ≡ b
    second =
        let p = r.ab in let q = s.ab in let e = first in
        let x = second_least a b c d j r (g j (inr (inl refl))) (omega (arith, q, e)) in
        let y = second_least i j k l b s (f b (inr (inl refl))) (omega (arith, p, e)) in
        omega (arith, x, y)

    third : k ≡ c
    third =
        let p = r.bc in let q = s.bc in let e = second in
        let x = third_least a b c d k r (g k (inr (inr (inl refl)))) (omega (arith, q, e)) in
        let y = third_least i j k l c s (f c (inr (inr (inl refl)))) (omega (arith, p, e)) in
        omega (arith, x, y)

    fourth : l ≡ d
    fourth =
        let p = r.cd in let q = s.cd in let e = third in
        let x = fourth_least a b c d l r (g l (inr (inr (inr refl)))) (omega (arith, q, e)) in
        let y = fourth_least i j k l d s (f d (inr (inr (inr refl)))) (omega (arith, p, e)) in
        omega (arith, x, y)

-- the order of the last two does not matter
last_two : (a b c d u : ℕ) → IsOneOf a b c d u → IsOneOf a b d c u
last_two a b c d u (inl e) = inl e
last_two a b c d u (inr (inl e)) = inr (inl e)
last_two a b c d u (inr (inr (inl e))) = inr (inr (inr e))
last_two a b c d u (inr (inr (inr e))) = inr (inr (inl e))

-- the vertices of t are the row's numbers
row_member : (t : Tetrahedron) (a b c d : ℕ) → IsRowOf t (a ∷ b ∷ c ∷ d ∷ []) → (u : ℕ) → IsVertexOf t u → IsOneOf a b c d u
row_member t a b c d h u o = pick h.3
  where
    pick : IsRewritten t (tetrahedron a b c d) ⊎ IsRewritten t (tetrahedron a b d c) → IsOneOf a b c d u
    pick (inl e) = same_vertex u t (tetrahedron a b c d) e o
    pick (inr e) = last_two a b d c u (same_vertex u t (tetrahedron a b d c) e o)

member_row : (t : Tetrahedron) (a b c d : ℕ) → IsRowOf t (a ∷ b ∷ c ∷ d ∷ []) → (u : ℕ) → IsOneOf a b c d u → IsVertexOf t u
member_row t a b c d h u o = pick h.3
  where
    pick : IsRewritten t (tetrahedron a b c d) ⊎ IsRewritten t (tetrahedron a b d c) → IsVertexOf t u
    pick (inl e) = same_vertex u (tetrahedron a b c d) t (rewritten_back t (tetrahedron a b c d) e) o
    pick (inr e) = same_vertex u (tetrahedron a b d c) t (rewritten_back t (tetrahedron a b d c) e) (last_two a b c d u o)

pub one_row : (t : Tetrahedron) (row other : List ℕ) → IsRowOf t row → IsRowOf t other → other ≡ row
one_row t row other h = by_row t (λ row. IsRowOf t other → other ≡ row) outer row h
  where
    outer : (a b c d : ℕ) → IsRowOf t (a ∷ b ∷ c ∷ d ∷ []) → IsRowOf t other → other ≡ a ∷ b ∷ c ∷ d ∷ []
    outer a b c d x = by_row t (λ other. other ≡ a ∷ b ∷ c ∷ d ∷ []) inner other
      where
        inner : (i j k l : ℕ) → IsRowOf t (i ∷ j ∷ k ∷ l ∷ []) → i ∷ j ∷ k ∷ l ∷ [] ≡ a ∷ b ∷ c ∷ d ∷ []
        inner i j k l y =
            rising_equal a b c d i j k l (record { ab = x.0; bc = x.1; cd = x.2 }) (record { ab = y.0; bc = y.1; cd = y.2 })
            (λ u o. row_member t i j k l y u (member_row t a b c d x u o))
            (λ u o. row_member t a b c d x u (member_row t i j k l y u o))

pub rows_exist : RowsExist
rows_exist v t h = let z = row_there v t h in (z.0, record { is = z.1; one = λ other k. one_row t z.0 other z.1 k })

-- ---- which of the two orders is written
not_above : (y z : ℤ) → y ≡ neg_ℤ z → pos 0 <ℤ y → int_lt (pos 0) z ≡ false
not_above y z e h = grind (arith, ints)

pub written_straight : (v : Vertices) (a b c d : ℕ) → pos 0 <ℤ orientation_of v a b c d
    → written v (a ∷ b ∷ c ∷ d ∷ []) ≡ tetrahedron a b c d
unfolding written
written_straight v a b c d h =
    ap (λ x. if x then tetrahedron a b c d else tetrahedron a b d c) (above_is (orientation_of v a b c d) h)

pub written_exchanged : (v : Vertices) (a b c d : ℕ) → pos 0 <ℤ orientation_of v a b d c
    → written v (a ∷ b ∷ c ∷ d ∷ []) ≡ tetrahedron a b d c
unfolding written
written_exchanged v a b c d h =
    ap (λ x. if x then tetrahedron a b c d else tetrahedron a b d c)
    (not_above (orientation_of v a b d c) (orientation_of v a b c d)
    (exchanged_orientation (v.at a) (v.at b) (v.at c) (v.at d)) h)

pub written_either : (v : Vertices) (a b c d : ℕ)
    → (written v (a ∷ b ∷ c ∷ d ∷ []) ≡ tetrahedron a b c d) ⊎ (written v (a ∷ b ∷ c ∷ d ∷ []) ≡ tetrahedron a b d c)
unfolding written
written_either v a b c d = pick (int_lt (pos 0) (orientation_of v a b c d))
  where
    pick : (x : Bool) → ((if x then tetrahedron a b c d else tetrahedron a b d c) ≡ tetrahedron a b c d)
        ⊎ ((if x then tetrahedron a b c d else tetrahedron a b d c) ≡ tetrahedron a b d c)
    pick true = inl refl
    pick false = inr refl

pub rows_are_written : RowsAreWritten
rows_are_written v t row k = by_row t (λ row. IsRewritten t (written v row)) at row
  where
    at : (a b c d : ℕ) → IsRowOf t (a ∷ b ∷ c ∷ d ∷ []) → IsRewritten t (written v (a ∷ b ∷ c ∷ d ∷ []))
    at a b c d h =
        ⊎_elim
        (λ (e : IsRewritten t (tetrahedron a b c d)).
        subst (IsRewritten t) (sym (written_straight v a b c d (same_positive v t (tetrahedron a b c d) e k))) e)
        (λ (e : IsRewritten t (tetrahedron a b d c)).
        subst (IsRewritten t) (sym (written_exchanged v a b c d (same_positive v t (tetrahedron a b d c) e k))) e) h.3

pub rows_are_kept : RowsAreKept
rows_are_kept t r row e = by_row t (IsRowOf r) at row
  where
    at : (a b c d : ℕ) → IsRowOf t (a ∷ b ∷ c ∷ d ∷ []) → IsRowOf r (a ∷ b ∷ c ∷ d ∷ [])
    at a b c d h =
        let back = rewritten_back t r e in (
          h.0,
          h.1,
          h.2,
          ⊎_elim (λ x. inl (rewritten_after r t (tetrahedron a b c d) back x))
              (λ x. inr (rewritten_after r t (tetrahedron a b d c) back x)) h.3,
        )

pub rows_tell : RowsTell
rows_tell v t r row h k x y =
    rewritten_after t (written v row) r (rows_are_written v t row h x)
    (rewritten_back r (written v row) (rows_are_written v r row k y))

-- ---- cells
cell_row : (v : Vertices) (t : Tetrahedron) (row : List ℕ) → IsCellOf v t → IsRowOf t row → IsRisingCell v row
cell_row v t row k = by_row t (IsRisingCell v) at row
  where
    at : (a b c d : ℕ) → IsRowOf t (a ∷ b ∷ c ∷ d ∷ []) → IsRisingCell v (a ∷ b ∷ c ∷ d ∷ [])
    at a b c d h = (
      h.0,
      h.1,
      h.2,
      ⊎_elim (λ e. inl (same_cell v t (tetrahedron a b c d) e k)) (λ e. inr (same_cell v t (tetrahedron a b d c) e k)) h.3,
    )

row_cell : (v : Vertices) (row : List ℕ) → IsRisingCell v row → IsCellOf v (written v row)
row_cell v row = by_rising v (λ row. IsCellOf v (written v row)) at row
  where
    at : (a b c d : ℕ) → IsRisingCell v (a ∷ b ∷ c ∷ d ∷ []) → IsCellOf v (written v (a ∷ b ∷ c ∷ d ∷ []))
    at a b c d h =
        ⊎_elim
        (λ (k : IsCell v a b c d). subst (IsCellOf v) (sym (written_straight v a b c d k.positive)) k)
        (λ (k : IsCell v a b d c). subst (IsCellOf v) (sym (written_exchanged v a b c d k.positive)) k) h.3

row_back : (v : Vertices) (row : List ℕ) → IsRisingCell v row → IsRowOf (written v row) row
row_back v row = by_rising v (λ row. IsRowOf (written v row) row) at row
  where
    at : (a b c d : ℕ) → IsRisingCell v (a ∷ b ∷ c ∷ d ∷ []) → IsRowOf (written v (a ∷ b ∷ c ∷ d ∷ [])) (a ∷ b ∷ c ∷ d ∷ [])
    at a b c d h = (h.0, h.1, h.2, ⊎_elim (λ e. inl ([], e)) (λ e. inr ([], e)) (written_either v a b c d))

pub cells_are_rows : CellsAreRows
cells_are_rows = record { row = cell_row; cell = row_cell; back = row_back }

-- ---- facets
-- the first number is least, and the others are apart from it
least_first : (a b c d : ℕ) → a < b → a < c → a < d → b < c → b < d → (k : ℕ) → IsFirstLeast (facet_of (tetrahedron a b c d) k)
least_first a b c d ab ac ad bc bd zero = (bd, bc)
least_first a b c d ab ac ad bc bd (suc zero) = (ac, ad)
least_first a b c d ab ac ad bc bd (suc (suc zero)) = (ad, ab)
least_first a b c d ab ac ad bc bd (suc (suc (suc k))) = (ab, ac)

pub written_facets : WrittenFacets
written_facets v t row h k = by_row t (λ row. IsFirstLeast (facet_of (written v row) k)) at row h
  where
    at : (a b c d : ℕ) → IsRowOf t (a ∷ b ∷ c ∷ d ∷ []) → IsFirstLeast (facet_of (written v (a ∷ b ∷ c ∷ d ∷ [])) k)
    at a b c d h =
        let ab : a < b = h.0 in let bc : b < c = h.1 in let cd : c < d = h.2 in
        let ac : a < c = omega (arith, ab, bc) in
        let bd : b < d = omega (arith, bc, cd) in
        let ad : a < d = omega (arith, ab, bd) in
        ⊎_elim
        (λ (e : written v (a ∷ b ∷ c ∷ d ∷ []) ≡ tetrahedron a b c d).
        subst (λ (x : Tetrahedron). IsFirstLeast (facet_of x k)) (sym e) (least_first a b c d ab ac ad bc bd k))
        (λ (e : written v (a ∷ b ∷ c ∷ d ∷ []) ≡ tetrahedron a b d c).
        subst (λ (x : Tetrahedron). IsFirstLeast (facet_of x k)) (sym e) (least_first a b d c ab ad ac bd bc k))
        (written_either v a b c d)
