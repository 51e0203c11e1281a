-- Closed facets stay closed when their vertices are renumbered, even if two get one number. What a function of two vertices
-- gives along all edges is a sum over all pairs of vertices, each as often as there is such an edge. For closed facets the sum
-- over all edges is thus that over all reverses. The function that counts the edges whose new numbers are i and j is one.
use Rattle.std.proofs.Common.{ℕ, zero, suc, ◌+◌, ◌*◌, ◌<◌, ◌≤◌, ◌≡◌, ◌≢◌, refl, sym, ap, ap₂, ◌∙◌, ⊎_elim, arith, Bool, ◌&&◌}
use Rattle.std.proofs.Common.{eqb, List, [], ◌∷◌, ◌++◌, map}
use Rattle.std.specs.List.{sum_by}
use Rattle.std.proofs.lemmas.Bool.{cases_eq, eqb-true, eq-eqb, false_from_ne_true}
use Rattle.std.proofs.lemmas.List.Sums.{sum_by-cons}
use Rattle.geo_sign.specs.Tetrahedron.{DirectedFacet, facet}
use Rattle.geo_sign.specs.Edges.{one_edge, edges_of, edge_count}
use Rattle.cell_laws.specs.Lists.{IsIn}
use Rattle.geo_sign.specs.Edges.{one_if}
use Rattle.cell_laws.proofs.Sums.{total, pick, sum_same, sum_plus, sum_sum}
use Rattle.cell_laws.proofs.CutSides.{flip}
use Rattle.mesh.specs.Meshes.{below}

-- ---- sums
pub total_is : {X : Type 0} (f : X → ℕ) (xs : List X) → sum_by f xs ≡ total f xs
total_is f [] = refl
total_is f (x ∷ xs) = sum_by-cons f x xs ∙ ap (λ (n : ℕ). f x + n) (total_is f xs)

total_append : {X : Type 0} (f : X → ℕ) (xs ys : List X) → total f (xs ++ ys) ≡ total f xs + total f ys
total_append f [] ys = omega arith
total_append f (x ∷ xs) ys = let e = total_append f xs ys in omega (arith, e)

total_map : {X Y : Type 0} (h : Y → ℕ) (k : X → Y) (xs : List X) → total h (map k xs) ≡ total (λ x. h (k x)) xs
total_map h k [] = refl
total_map h k (x ∷ xs) = ap (λ (n : ℕ). h (k x) + n) (total_map h k xs)

times : {X : Type 0} (m : ℕ) (h : X → ℕ) (xs : List X) → total (λ x. m * h x) xs ≡ m * total h xs
times m h [] = omega arith
times m h (x ∷ xs) = ap (λ (n : ℕ). m * h x + n) (times m h xs) ∙ both m (h x) (total h xs)
  where
    both : (m x y : ℕ) → m * x + m * y ≡ m * (x + y)
    both m x y = omega arith

-- ---- the one number below n that is a
none_number : (h : ℕ → ℕ) (a n : ℕ) → n ≤ a → total (λ u. pick (h u) (eqb a u)) (below n) ≡ 0
none_number h a zero l = refl
none_number h a (suc n) l = grind (arith, false_from_ne_true, eqb-true, total_append, none_number h a n (omega (arith, l)))

one_number : (h : ℕ → ℕ) (a n : ℕ) → a < n → total (λ u. pick (h u) (eqb a u)) (below n) ≡ h a
one_number h a zero l = absurd (omega (arith, l))
one_number h a (suc n) l =
    let s = total_append (λ u. pick (h u) (eqb a u)) (below n) (n ∷ []) in
    ⊎_elim
    (λ (i : a ≡ n).
    let first = none_number h a n (omega (arith, i)) in
    let last : pick (h n) (eqb a n) ≡ h a = ap (pick (h n)) (eq-eqb a n i) ∙ ap h (sym i) in
    let z : 0 + (h a + 0) ≡ h a = omega arith in
    s ∙ ap₂ (λ (x y : ℕ). x + (y + 0)) first last ∙ z)
    (λ (i : a ≢ n).
    let first = one_number h a n (omega (arith, l, i)) in
    let last : pick (h n) (eqb a n) ≡ 0 = ap (pick (h n)) (false_from_ne_true (eqb a n) (λ t. i (eqb-true a n t))) in
    let z : h a + (0 + 0) ≡ h a = omega arith in
    s ∙ ap₂ (λ (x y : ℕ). x + (y + 0)) first last ∙ z)
    (cases_eq a n)

pick_total : {X : Type 0} (h : X → ℕ) (c : Bool) (xs : List X) → pick (total h xs) c ≡ total (λ x. pick (h x) c) xs
pick_total h c [] = none c
  where
    none : (c : Bool) → pick 0 c ≡ 0
    none c = grind arith
pick_total h c (x ∷ xs) = grind (arith, pick_total h c xs)

-- ---- what two vertices give, as a sum over all pairs
pick_edge : (m u w a b : ℕ) → pick (pick m (eqb b w)) (eqb a u) ≡ m * one_edge u w a b
pick_edge m u w a b = by (eqb a u) (eqb b w)
  where
    by : (c d : Bool) → pick (pick m d) c ≡ m * one_if (c && d)
    by c d = grind arith

pair_sum : (g : ℕ → ℕ → ℕ) (n a b : ℕ) → a < n → b < n → g a b ≡ total (λ u. total (λ w. g u w * one_edge u w a b) (below n))
    (below n)
pair_sum g n a b la lb =
    sym (one_number (λ u. g u b) a n la)
    ∙ sum_same (λ u. pick (g u b) (eqb a u)) (λ u. total (λ w. g u w * one_edge u w a b) (below n)) (below n)
    (λ u c.
    ap (λ (m : ℕ). pick m (eqb a u)) (sym (one_number (λ w. g u w) b n lb))
    ∙ pick_total (λ w. pick (g u w) (eqb b w)) (eqb a u) (below n)
    ∙ sum_same (λ w. pick (pick (g u w) (eqb b w)) (eqb a u)) (λ w. g u w * one_edge u w a b) (below n)
    (λ w d. pick_edge (g u w) u w a b))

-- what the three edges of a facet give
weight : (ℕ → ℕ → ℕ) → DirectedFacet → ℕ
weight g f = g f.a f.b + g f.b f.c + g f.c f.a

pub record IsBelow (n : ℕ) (f : DirectedFacet) : Type 0 where
  pub a : f.a < n
  pub b : f.b < n
  pub c : f.c < n

weight_sum : (g : ℕ → ℕ → ℕ) (n : ℕ) (f : DirectedFacet) → IsBelow n f
    → weight g f ≡ total (λ u. total (λ w. g u w * edges_of u w f) (below n)) (below n)
unfolding weight
weight_sum g n f h =
    let ab = λ (u w : ℕ). g u w * one_edge u w f.a f.b in
    let bc = λ (u w : ℕ). g u w * one_edge u w f.b f.c in
    let ca = λ (u w : ℕ). g u w * one_edge u w f.c f.a in
    ap₂ (λ (x y : ℕ). x + y) (ap₂ (λ (x y : ℕ). x + y) (pair_sum g n f.a f.b h.a h.b) (pair_sum g n f.b f.c h.b h.c))
    (pair_sum g n f.c f.a h.c h.a)
    ∙ ap (λ (x : ℕ). x + total (λ u. total (ca u) (below n)) (below n))
    (sym (sum_plus (λ u. total (ab u) (below n)) (λ u. total (bc u) (below n)) (below n)))
    ∙ sym (sum_plus (λ u. total (ab u) (below n) + total (bc u) (below n)) (λ u. total (ca u) (below n)) (below n))
    ∙ sum_same (λ u. total (ab u) (below n) + total (bc u) (below n) + total (ca u) (below n))
    (λ u. total (λ w. g u w * edges_of u w f) (below n)) (below n)
    (λ u d.
    ap (λ (x : ℕ). x + total (ca u) (below n)) (sym (sum_plus (ab u) (bc u) (below n)))
    ∙ sym (sum_plus (λ w. ab u w + bc u w) (ca u) (below n))
    ∙ sum_same (λ w. ab u w + bc u w + ca u w) (λ w. g u w * edges_of u w f) (below n)
    (λ w e. spread (g u w) (one_edge u w f.a f.b) (one_edge u w f.b f.c) (one_edge u w f.c f.a)))
  where
    spread : (m x y z : ℕ) → m * x + m * y + m * z ≡ m * (x + y + z)
    spread m x y z = omega arith

-- and those of all facets
weights : (g : ℕ → ℕ → ℕ) (n : ℕ) (facets : List DirectedFacet) → ((f : DirectedFacet) → IsIn facets f → IsBelow n f)
    → total (weight g) facets ≡ total (λ u. total (λ w. g u w * total (edges_of u w) facets) (below n)) (below n)
weights g n facets h =
    sum_same (weight g) (λ f. total (λ u. total (λ w. g u w * edges_of u w f) (below n)) (below n)) facets
    (λ f c. weight_sum g n f (h f c))
    ∙ sum_sum (λ f u. total (λ w. g u w * edges_of u w f) (below n)) facets (below n)
    ∙ sum_same (λ u. total (λ f. total (λ w. g u w * edges_of u w f) (below n)) facets)
    (λ u. total (λ w. g u w * total (edges_of u w) facets) (below n)) (below n)
    (λ u c.
    sum_sum (λ f w. g u w * edges_of u w f) facets (below n)
    ∙ sum_same (λ w. total (λ f. g u w * edges_of u w f) facets) (λ w. g u w * total (edges_of u w) facets) (below n)
    (λ w d. times (g u w) (edges_of u w) facets))

even_weights : (g : ℕ → ℕ → ℕ) (n : ℕ) (facets : List DirectedFacet) → ((f : DirectedFacet) → IsIn facets f → IsBelow n f)
    → ((u w : ℕ) → total (edges_of u w) facets ≡ total (edges_of w u) facets) → total (weight g) facets ≡ total
    (weight (λ u w. g w u)) facets
even_weights g n facets h even =
    weights g n facets h
    ∙ sum_same (λ u. total (λ w. g u w * total (edges_of u w) facets) (below n))
    (λ u. total (λ w. g u w * total (edges_of w u) facets) (below n)) (below n)
    (λ u c. sum_same (λ w. g u w * total (edges_of u w) facets) (λ w. g u w * total (edges_of w u) facets) (below n)
    (λ w d. ap (λ (m : ℕ). g u w * m) (even u w)))
    ∙ sum_sum (λ u w. g u w * total (edges_of w u) facets) (below n) (below n)
    ∙ sym (weights (λ u w. g w u) n facets h)

-- ---- facets with new numbers
abbrev pub renamed : (ℕ → ℕ) → DirectedFacet → DirectedFacet
renamed number f = facet (number f.a) (number f.b) (number f.c)

back : (number : ℕ → ℕ) (i j : ℕ) (f : DirectedFacet)
    → weight (λ a b. one_edge i j (number b) (number a)) f ≡ edges_of j i (renamed number f)
unfolding weight
back number i j f = grind (arith, flip)

pub renumbered : (number : ℕ → ℕ) (n : ℕ) (facets : List DirectedFacet) → ((f : DirectedFacet) → IsIn facets f → IsBelow n f)
    → ((u w : ℕ) → edge_count u w facets ≡ edge_count w u facets) → (i j : ℕ) → edge_count i j
    (map (renamed number) facets) ≡ edge_count j i (map (renamed number) facets)
unfolding weight
renumbered number n facets each even i j =
    total_is (edges_of i j) (map (renamed number) facets)
    ∙ total_map (edges_of i j) (renamed number) facets
    ∙ even_weights (λ a b. one_edge i j (number a) (number b)) n facets each
    (λ u w. sym (total_is (edges_of u w) facets) ∙ even u w ∙ total_is (edges_of w u) facets)
    ∙ sum_same (weight (λ a b. one_edge i j (number b) (number a))) (λ f. edges_of j i (renamed number f)) facets
    (λ f c. back number i j f)
    ∙ sym (total_map (edges_of j i) (renamed number) facets)
    ∙ sym (total_is (edges_of j i) (map (renamed number) facets))
