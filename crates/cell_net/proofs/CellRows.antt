-- The row of a cell and the facets of its sides, as the code makes them.
--
-- Each of the five exchanges keeps the four numbers of the cell, in an even order or with the last two exchanged, and after the
-- last they rise. So they are the cell's row in the words of geo_sign, which says that there is one and what `written` makes of
-- it. The facets of the cell so written begin with their least number, and a facet has one rotation that does.
use Rattle.std.proofs.Common.{ℕ, ◌<◌, ◌≤◌, ◌≡◌, ◌≢◌, refl, sym, subst, ◌∙◌, ◌⊎◌, inl, inr, ⊎_elim, arith, Bool, true, false}
use Rattle.std.proofs.Common.{List, [], ◌∷◌}
use Rattle.std.proofs.lemmas.Bool.{ltb-true, ltb-false, lt-ltb, le-ltb}
use Rattle.geo_sign.specs.Tetrahedron.{Tetrahedron, tetrahedron, DirectedFacet, facet_of, turned, is_among, IsRotated}
use Rattle.geo_sign.specs.Vertices.{Vertices}
use Rattle.geo_sign.specs.Cells.{written}
use Rattle.geo_sign.specs.RowLaws.{IsRowOf, IsPositive, IsFirstLeast}
use Rattle.geo_sign.specs.Writings.{IsRewritten, after_steps}
use Rattle.geo_sign.proofs.Among.{own_facet, found}
use Rattle.geo_sign.proofs.CellRows.{distinct, same_positive}
use Rattle.geo_sign.proofs.Rewritings.{rewritten_after, rewritten_back, same_facets}
use Rattle.geo_sign.proofs.Rotations.{rotated_back}
use Rattle.geo_sign.proofs.RowLaws.{rows_are_written, written_facets}
use Rattle.visibility.specs.Complexes.{has_facet}
use Rattle.cell_net.specs.CellRows.{low, high, order_ab, order_cd, order_ac, order_bd, order_bc, risen, row_from, least_first}

-- ---- exchanges keep the four numbers
-- t is written anew in the order of r, or with the last two exchanged
AreFour : Tetrahedron → Tetrahedron → Type 0
AreFour t r = IsRewritten t r ⊎ IsRewritten t (tetrahedron r.a r.b r.d r.c)

after : (t r u : Tetrahedron) (steps : List Bool) → IsRewritten t r → after_steps steps r ≡ u → IsRewritten t u
after t r u steps h e = rewritten_after t r u h (steps, e)

take_ab : (t r : Tetrahedron) → AreFour t r → AreFour t (tetrahedron r.b r.a r.c r.d)
unfolding AreFour
take_ab t r (inl h) = inr (after t r (tetrahedron r.b r.a r.d r.c) (false ∷ []) h refl)
take_ab t r (inr h) = inl (after t (tetrahedron r.a r.b r.d r.c) (tetrahedron r.b r.a r.c r.d) (false ∷ []) h refl)

take_cd : (t r : Tetrahedron) → AreFour t r → AreFour t (tetrahedron r.a r.b r.d r.c)
unfolding AreFour
take_cd t r h = grind arith

take_ac : (t r : Tetrahedron) → AreFour t r → AreFour t (tetrahedron r.c r.b r.a r.d)
unfolding AreFour
take_ac t r (inl h) = inr (after t r (tetrahedron r.c r.b r.d r.a) (false ∷ true ∷ []) h refl)
take_ac t r (inr h) =
    inl (after t (tetrahedron r.a r.b r.d r.c) (tetrahedron r.c r.b r.a r.d) (true ∷ true ∷ false ∷ []) h refl)

take_bd : (t r : Tetrahedron) → AreFour t r → AreFour t (tetrahedron r.a r.d r.c r.b)
unfolding AreFour
take_bd t r (inl h) = inr (after t r (tetrahedron r.a r.d r.b r.c) (true ∷ false ∷ []) h refl)
take_bd t r (inr h) =
    inl (after t (tetrahedron r.a r.b r.d r.c) (tetrahedron r.a r.d r.c r.b) (false ∷ true ∷ true ∷ []) h refl)

take_bc : (t r : Tetrahedron) → AreFour t r → AreFour t (tetrahedron r.a r.c r.b r.d)
unfolding AreFour
take_bc t r (inl h) = inr (after t r (tetrahedron r.a r.c r.d r.b) (false ∷ true ∷ true ∷ []) h refl)
take_bc t r (inr h) = inl (after t (tetrahedron r.a r.b r.d r.c) (tetrahedron r.a r.c r.b r.d) (true ∷ false ∷ []) h refl)

-- whether the two are exchanged or not
keep_ab : (t r : Tetrahedron) → AreFour t r → AreFour t (order_ab r)
keep_ab t r h = grind (arith, take_ab)

keep_cd : (t r : Tetrahedron) → AreFour t r → AreFour t (order_cd r)
keep_cd t r h = grind (arith, take_cd)

keep_ac : (t r : Tetrahedron) → AreFour t r → AreFour t (order_ac r)
keep_ac t r h = grind (arith, take_ac)

keep_bd : (t r : Tetrahedron) → AreFour t r → AreFour t (order_bd r)
keep_bd t r h = grind (arith, take_bd)

keep_bc : (t r : Tetrahedron) → AreFour t r → AreFour t (order_bc r)
keep_bc t r h = grind (arith, take_bc)

risen_four : (t : Tetrahedron) → AreFour t (risen t)
unfolding risen AreFour
risen_four t =
    let r1 = order_ab t in
    let r2 = order_cd r1 in
    let r3 = order_ac r2 in
    let r4 = order_bd r3 in
    keep_bc t r4 (keep_bd t r3 (keep_ac t r2 (keep_cd t r1 (keep_ab t t (inl ([], refl))))))

-- ---- they rise
record IsInOrder (x y m n : ℕ) : Type 0 where
  below : m ≤ n
  low_x : m ≤ x
  low_y : m ≤ y
  high_x : x ≤ n
  high_y : y ≤ n
  low_is : (m ≡ x) ⊎ (m ≡ y)
  high_is : (n ≡ x) ⊎ (n ≡ y)

in_order : (x y : ℕ) → IsInOrder x y (low x y) (high x y)
in_order x y = grind (arith, ltb-true, ltb-false)

record IsRising (r : Tetrahedron) : Type 0 where
  a_below : r.a < r.b
  b_below : r.b < r.c
  c_below : r.c < r.d

record IsOrdered (r : Tetrahedron) : Type 0 where
  a_below : r.a ≤ r.b
  b_below : r.b ≤ r.c
  c_below : r.c ≤ r.d

risen_ordered : (t : Tetrahedron) → IsOrdered (risen t)
unfolding risen
risen_ordered t =
    let p = low t.a t.b in let q = high t.a t.b in let r = low t.c t.d in let s = high t.c t.d in
    let one = in_order t.a t.b in let two = in_order t.c t.d in
    let three = in_order p r in let four = in_order q s in
    let five = in_order (low q s) (high p r) in
    let lows : low p r ≤ low q s =
    ⊎_elim (λ (e : low q s ≡ q). omega (arith, e, one.below, three.low_x))
    (λ (e : low q s ≡ s). omega (arith, e, two.below, three.low_y)) four.low_is in
    let highs : high p r ≤ high q s =
    ⊎_elim (λ (e : high p r ≡ p). omega (arith, e, one.below, four.high_x))
    (λ (e : high p r ≡ r). omega (arith, e, two.below, four.high_y)) three.high_is in
    record {
      a_below =
          ⊎_elim (λ (e : low (low q s) (high p r) ≡ low q s). omega (arith, e, lows))
          (λ (e : low (low q s) (high p r) ≡ high p r). omega (arith, e, three.below)) five.low_is;
      b_below = five.below;
      c_below =
          ⊎_elim (λ (e : high (low q s) (high p r) ≡ low q s). omega (arith, e, four.below))
          (λ (e : high (low q s) (high p r) ≡ high p r). omega (arith, e, highs)) five.high_is;
    }

strict : (r : Tetrahedron) → IsOrdered r → r.b ≢ r.a → r.c ≢ r.b → r.d ≢ r.c → IsRising r
strict r o e f g = grind arith

risen_rising : (v : Vertices) (t : Tetrahedron) → IsPositive v t → IsRising (risen t)
unfolding AreFour
risen_rising v t h = by (risen_four t)
  where
    r : Tetrahedron
    r = risen t

    by : IsRewritten t r ⊎ IsRewritten t (tetrahedron r.a r.b r.d r.c) → IsRising r
    by (inl w) = let d = distinct v r (same_positive v t r w h) in strict r (risen_ordered t) d.b_a d.c_b d.d_c
    by (inr w) =
        let u = tetrahedron r.a r.b r.d r.c in
        let d = distinct v u (same_positive v t u w h) in
        strict r (risen_ordered t) d.b_a d.d_b (λ e. d.d_c (sym e))

-- the cell's row
pub risen_row : (v : Vertices) (t : Tetrahedron) → IsPositive v t → IsRowOf t (row_from (risen t))
unfolding AreFour
risen_row v t h = let i = risen_rising v t h in (i.a_below, i.b_below, i.c_below, risen_four t)

pub risen_written : (v : Vertices) (t : Tetrahedron) → IsPositive v t → IsRewritten t (written v (row_from (risen t)))
risen_written v t h = rows_are_written v t (row_from (risen t)) h (risen_row v t h)

-- ---- the least number first
-- the facet written so is the one rotation that begins with its least number
pub least_rotated : (f : DirectedFacet) → IsRotated f (least_first f)
unfolding least_first
least_rotated f = grind arith

pub least_of : (f g : DirectedFacet) → IsRotated f g → IsFirstLeast g → least_first f ≡ g
unfolding least_first
least_of f g (inl e) h = grind (arith, lt-ltb)
least_of f g (inr (inl e)) h = grind (arith, le-ltb, lt-ltb)
least_of f g (inr (inr e)) h = grind (arith, le-ltb)

pub turned_least : (f : DirectedFacet) → IsFirstLeast f → IsFirstLeast (turned f)
turned_least f h = (h.1, h.0)

-- ---- the facets of the row are the cell's four, so written
-- a facet of the cell, and of its row
record IsWrittenSide (v : Vertices) (t : Tetrahedron) (k : ℕ) : Type 0 where
  side : ℕ
  is : least_first (facet_of t k) ≡ facet_of (written v (row_from (risen t))) side

row_facets : (v : Vertices) (t : Tetrahedron) (k : ℕ) → IsPositive v t
    → IsFirstLeast (facet_of (written v (row_from (risen t))) k)
row_facets v t k h = written_facets v t (row_from (risen t)) (risen_row v t h) k

written_side : (v : Vertices) (t : Tetrahedron) (k : ℕ) → IsPositive v t → IsWrittenSide v t k
written_side v t k h =
    let w : Tetrahedron = written v (row_from (risen t)) in
    let j = same_facets w t (rewritten_back t w (risen_written v t h)) k in
    record {
      side = j.0;
      is = least_of (facet_of t k) (facet_of w j.0) (rotated_back (facet_of w j.0) (facet_of t k) j.2) (row_facets v t j.0 h);
    }

pub side_least : (v : Vertices) (t : Tetrahedron) (k : ℕ) → IsPositive v t → IsFirstLeast (least_first (facet_of t k))
side_least v t k h =
    let p : IsWrittenSide v t k = written_side v t k h in
    subst IsFirstLeast (sym p.is) (row_facets v t p.side h)

pub row_has_side : (v : Vertices) (t : Tetrahedron) (k : ℕ) → IsPositive v t → has_facet v (row_from (risen t))
    (least_first (facet_of t k)) ≡ true
row_has_side v t k h =
    let w : Tetrahedron = written v (row_from (risen t)) in
    let p : IsWrittenSide v t k = written_side v t k h in
    subst (λ (f : DirectedFacet). is_among w f ≡ true) (sym p.is) (own_facet w p.side)

-- some side of the cell has the facet
abbrev pub IsSideOf : Tetrahedron → DirectedFacet → Type 0
IsSideOf t f = (k : ℕ) × (k < 4) × (least_first (facet_of t k) ≡ f)

pub row_side_is : (v : Vertices) (t : Tetrahedron) (f : DirectedFacet) → IsPositive v t
    → has_facet v (row_from (risen t)) f ≡ true → IsSideOf t f
row_side_is v t f h e =
    let w : Tetrahedron = written v (row_from (risen t)) in
    let j = found w f e in
    let k = same_facets t w (risen_written v t h) j.0 in
    (k.0, k.1, least_of (facet_of t k.0) (facet_of w j.0) k.2 (row_facets v t j.0 h) ∙ j.2)
