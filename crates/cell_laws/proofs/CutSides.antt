-- Sides of cells: the directed edges of their facets, all sides of some names, each once, and tests of turned facets.
--
--   edges_turned        a facet and the turned one have the opposite edges
--   boundary            a cell's four facets have each edge as often as its reverse
--   all_sides xs        the four sides of each name
--   is_turned f g       whether g is f in the other direction
--   is_inside           whether there is an inside cell
--
-- Stands on: the definitions, and Sums (nothing twice).
use Rattle.std.proofs.Common.{ℕ, zero, suc, ◌+◌, ◌<◌, ◌≡◌, ◌≢◌, refl, sym, ap, subst, inl, inr, ⊎_elim, arith, Bool, true}
use Rattle.std.proofs.Common.{false, ◌&&◌, ◌==◌, cond, eqb, Option, Some, None, List, [], ◌∷◌}
use Rattle.std.proofs.lemmas.Bool.{eqb-true, eq-eqb, and_from}
use Rattle.std.proofs.Math.Bool.{and_comm}
use Rattle.geo_sign.specs.Tetrahedron.{Tetrahedron, DirectedFacet, facet, facet_of, vertex_of, IsTurned, is_same_facet}
use Rattle.geo_sign.specs.Edges.{one_edge, edges_of}
use Rattle.cell_laws.specs.Links.{Side}
use Rattle.cell_laws.specs.Lists.{IsIn}
use Rattle.geo_sign.specs.Edges.{one_if}
use Rattle.geo_sign.proofs.Among.{same_itself, same_means}
use Rattle.cell_laws.proofs.Sums.{IsOnce}

-- ---- edges
pub flip : (u w x y : ℕ) → one_edge u w x y ≡ one_edge w u y x
flip u w x y = ap one_if (and_comm (eqb x u) (eqb y w))

pub edges_turned : (u w : ℕ) (f g : DirectedFacet) → IsTurned f g → edges_of u w f ≡ edges_of w u g
edges_turned u w f g h = grind (arith, flip)

-- each of the six edges of a cell is there in its two directions
pub boundary :
    (u w : ℕ) (t : Tetrahedron) →
    edges_of u w (facet_of t 0) + (edges_of u w (facet_of t 1) + (edges_of u w (facet_of t 2) + edges_of u w (facet_of t 3))) ≡
    edges_of w u (facet_of t 0) + (edges_of w u (facet_of t 1) + (edges_of w u (facet_of t 2) + edges_of w u (facet_of t 3)))
boundary u w t =
    let n = λ (x y : ℕ). one_edge u w x y in
    let m = λ (x y : ℕ). one_edge w u x y in
    twelve (n t.a t.b) (n t.b t.a) (n t.a t.c) (n t.c t.a) (n t.a t.d) (n t.d t.a) (n t.b t.c) (n t.c t.b) (n t.b t.d)
    (n t.d t.b) (n t.c t.d) (n t.d t.c)
    (m t.a t.b) (m t.b t.a) (m t.a t.c) (m t.c t.a) (m t.a t.d) (m t.d t.a) (m t.b t.c) (m t.c t.b) (m t.b t.d) (m t.d t.b)
    (m t.c t.d) (m t.d t.c)
    (flip u w t.a t.b) (flip u w t.b t.a) (flip u w t.a t.c) (flip u w t.c t.a) (flip u w t.a t.d) (flip u w t.d t.a)
    (flip u w t.b t.c) (flip u w t.c t.b) (flip u w t.b t.d) (flip u w t.d t.b) (flip u w t.c t.d) (flip u w t.d t.c)
  where
    twelve : (ab ba ac ca ad da bc cb bd db cd dc ab' ba' ac' ca' ad' da' bc' cb' bd' db' cd' dc' : ℕ)
        → ab ≡ ba' → ba ≡ ab' → ac ≡ ca' → ca ≡ ac' → ad ≡ da' → da ≡ ad' → bc ≡ cb' → cb ≡ bc' → bd ≡ db' → db ≡ bd' → cd ≡ dc'
        → dc ≡ cd'
        → (bd + dc + cb) + ((ac + cd + da) + ((ad + db + ba) + (ab + bc + ca)))
        ≡ (bd' + dc' + cb') + ((ac' + cd' + da') + ((ad' + db' + ba') + (ab' + bc' + ca')))
    twelve ab ba ac ca ad da bc cb bd db cd dc ab' ba' ac' ca' ad' da' bc' cb' bd' db' cd' dc' a b c d e f g h i j k l =
        omega (arith, a, b, c, d, e, f, g, h, i, j, k, l)

-- ---- all sides of some names
abbrev pub side_at : ℕ → ℕ → Side
side_at x k = record { at = x; side = k }

abbrev pub all_sides : List ℕ → List Side
all_sides [] = []
all_sides (x ∷ xs) = side_at x 0 ∷ side_at x 1 ∷ side_at x 2 ∷ side_at x 3 ∷ all_sides xs

pub side_listed : (xs : List ℕ) (s : Side) → IsIn (all_sides xs) s → IsIn xs s.at × (s.side < 4)
side_listed [] s h = absurd h
side_listed (x ∷ xs) s (inl e) = (inl (ap (λ (z : Side). z.at) e), let i = ap (λ (z : Side). z.side) e in omega (arith, i))
side_listed (x ∷ xs) s (inr (inl e)) =
    (inl (ap (λ (z : Side). z.at) e), let i = ap (λ (z : Side). z.side) e in omega (arith, i))
side_listed (x ∷ xs) s (inr (inr (inl e))) =
    (inl (ap (λ (z : Side). z.at) e), let i = ap (λ (z : Side). z.side) e in omega (arith, i))
side_listed (x ∷ xs) s (inr (inr (inr (inl e)))) =
    (inl (ap (λ (z : Side). z.at) e), let i = ap (λ (z : Side). z.side) e in omega (arith, i))
side_listed (x ∷ xs) s (inr (inr (inr (inr h)))) = let z = side_listed xs s h in (inr z.0, z.1)

pub listed_side : (xs : List ℕ) (x k : ℕ) → IsIn xs x → k < 4 → IsIn (all_sides xs) (side_at x k)
listed_side [] x k h l = absurd h
listed_side (y ∷ ys) x zero (inl e) l = inl (ap (λ n. side_at n 0) e)
listed_side (y ∷ ys) x (suc zero) (inl e) l = inr (inl (ap (λ n. side_at n 1) e))
listed_side (y ∷ ys) x (suc (suc zero)) (inl e) l = inr (inr (inl (ap (λ n. side_at n 2) e)))
listed_side (y ∷ ys) x (suc (suc (suc zero))) (inl e) l = inr (inr (inr (inl (ap (λ n. side_at n 3) e))))
listed_side (y ∷ ys) x (suc (suc (suc (suc k)))) (inl e) l = absurd (omega (arith, l))
listed_side (y ∷ ys) x k (inr h) l = inr (inr (inr (inr (listed_side ys x k h l))))

pub sides_once : (xs : List ℕ) → IsOnce xs → IsOnce (all_sides xs)
sides_once [] o = tt
sides_once (x ∷ xs) o = (
  (λ h. ⊎_elim (other 1 0 (λ e. omega (arith, e)))
      (⊎_elim (other 2 0 (λ e. omega (arith, e))) (⊎_elim (other 3 0 (λ e. omega (arith, e))) (later 0))) h),
  (
    (λ h. ⊎_elim (other 2 1 (λ e. omega (arith, e))) (⊎_elim (other 3 1 (λ e. omega (arith, e))) (later 1)) h),
    ((λ h. ⊎_elim (other 3 2 (λ e. omega (arith, e))) (later 2) h), (later 3, sides_once xs o.1)),
  ),
)
  where
    other : (j k : ℕ) → j ≢ k → side_at x j ≡ side_at x k → ⊥
    other j k n e = n (ap (λ (z : Side). z.side) e)

    later : (k : ℕ) → IsIn (all_sides xs) (side_at x k) → ⊥
    later k h = o.0 (side_listed xs (side_at x k) h).0

-- ---- the turned facet, and the same side, as tests
means_same : (f g : DirectedFacet) → g ≡ f → is_same_facet f g ≡ true
means_same f g e = subst (λ h. is_same_facet f h ≡ true) (sym e) (same_itself f)

abbrev pub is_turned : DirectedFacet → DirectedFacet → Bool
is_turned f g =
    cond (is_same_facet (facet f.a f.c f.b) g) true
    (cond (is_same_facet (facet f.c f.b f.a) g) true (is_same_facet (facet f.b f.a f.c) g))

pub turned_means : (f g : DirectedFacet) → is_turned f g ≡ true → IsTurned f g
turned_means f g e = first (is_same_facet (facet f.a f.c f.b) g) refl e
  where
    second :
        (b : Bool) → is_same_facet (facet f.c f.b f.a) g ≡ b → cond b true (is_same_facet (facet f.b f.a f.c) g) ≡ true →
        IsTurned f g
    second true i h = inr (inl (sym (same_means (facet f.c f.b f.a) g i)))
    second false i h = inr (inr (sym (same_means (facet f.b f.a f.c) g h)))

    first :
        (b : Bool) → is_same_facet (facet f.a f.c f.b) g ≡ b →
        cond b true (cond (is_same_facet (facet f.c f.b f.a) g) true (is_same_facet (facet f.b f.a f.c) g)) ≡ true →
        IsTurned f g
    first true i h = inl (sym (same_means (facet f.a f.c f.b) g i))
    first false i h = second (is_same_facet (facet f.c f.b f.a) g) refl h

pub means_turned : (f g : DirectedFacet) → IsTurned f g → is_turned f g ≡ true
means_turned f g (inl e) = grind (arith, means_same)
means_turned f g (inr (inl e)) = grind (arith, means_same)
means_turned f g (inr (inr e)) = grind (arith, means_same)

abbrev pub is_same_side : Side → Side → Bool
is_same_side s t = (s.at == t.at) && (s.side == t.side)

pub same_side_means : (s t : Side) → is_same_side s t ≡ true → s ≡ t
same_side_means s t e = grind (arith, eqb-true)

pub same_side_is : (s : Side) → is_same_side s s ≡ true
same_side_is s = and_from (eqb s.at s.at) (eqb s.side s.side) (eq-eqb s.at s.at refl) (eq-eqb s.side s.side refl)

-- whether there is an inside cell
abbrev pub is_inside : (inside : ℕ → Bool) → Option ℕ → Bool
is_inside inside None = false
is_inside inside (Some y) = inside y

-- a facet with a corner first
pub corner_first : (t : Tetrahedron) (k : ℕ) → k < 4 → (j : ℕ) × (j < 4) × (vertex_of t j ≡ (facet_of t k).a)
corner_first t zero l = (1, omega arith, refl)
corner_first t (suc zero) l = (0, omega arith, refl)
corner_first t (suc (suc zero)) l = (0, omega arith, refl)
corner_first t (suc (suc (suc k))) l = (0, omega arith, refl)
