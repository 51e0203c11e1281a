-- New numbers of used vertices rise, so rising facets make a valid mesh with rising faces.
use Rattle.std.proofs.Common.{ℕ, zero, suc, ◌≡◌, ◌≢◌, ◌+◌, ◌==◌, ◌<◌, ◌≤◌, ◌^◌, ◌⊎◌, inl, inr, refl, ap, sym, subst, ◌∙◌, arith}
use Rattle.std.proofs.Common.{Bool, true, false, cond, List, [], ◌∷◌, length, get_or, map, length-append}
use Rattle.std.specs.List.{All, AllPairs}
use Rattle.std.proofs.lemmas.Bool.{or_left, or_right, eq-eqb, cases_lt}
use Rattle.std.proofs.lemmas.List.{get_or-map, length-map}
use Rattle.std.proofs.lemmas.List.Elements.{All-map, filter-append}
use Rattle.std.proofs.lemmas.List.Folds.{list_any_at}
use Rattle.geo_sign.specs.Rising.{IsBefore}
use Rattle.geo_sign.specs.Point.{Point}
use Rattle.mesh.specs.Meshes.{below, is_vertex_of, is_used, used, new_number, point_at, mesh_of, IsFace, IsFaceList, IsMesh}
use Rattle.mesh.proofs.Vertices.{length_filter_below}

number_step : (facets : List (List ℕ)) (v : ℕ) → new_number facets (suc v) ≡ new_number facets v + cond (is_used facets v) 1 0
number_step facets v =
    ap length (filter-append (is_used facets) (below v) (v ∷ []))
    ∙ (length-append (used facets v) (cond (is_used facets v) (v ∷ []) [])
    ∙ ap (λ (i : ℕ). new_number facets v + i) (last (is_used facets v)))
  where
    last : (b : Bool) → length (cond b (v ∷ []) []) ≡ cond b 1 0
    last true = refl
    last false = refl

number_le : (facets : List (List ℕ)) (u v : ℕ) → u ≤ v → new_number facets u ≤ new_number facets v
number_le facets u zero l = let same : u ≡ 0 = omega arith in omega (arith, ap (new_number facets) same)
number_le facets u (suc v) l = by (number_le facets u v) (cases_lt u (suc v))
  where
    by : (u ≤ v → new_number facets u ≤ new_number facets v) → (u < suc v) ⊎ (suc v ≤ u)
        → new_number facets u ≤ new_number facets (suc v)
    by before (inl m) = omega (arith, before (omega arith), number_step facets v)
    by before (inr m) = let same : u ≡ suc v = omega arith in omega (arith, ap (new_number facets) same)

-- the new number of a used vertex is below those of all later ones
pub number_less : (facets : List (List ℕ)) (u v : ℕ) → u < v → is_used facets u ≡ true
    → new_number facets u < new_number facets v
number_less facets u v l h =
    let one : cond (is_used facets u) 1 0 ≡ 1 = ap (λ (b : Bool). cond {A = ℕ} b 1 0) h in
    omega (arith, number_step facets u, number_le facets (suc u) v (omega arith), one)

number_apart : (facets : List (List ℕ)) (u v : ℕ) → u ≢ v → is_used facets u ≡ true → is_used facets v ≡ true
    → new_number facets u ≢ new_number facets v
number_apart facets u v apart h k e = grind (arith, number_less)

-- all vertices of the facet are used
abbrev AreUsed : List (List ℕ) → List ℕ → Type 0
AreUsed facets facet = (v : ℕ) → is_vertex_of v facet ≡ true → is_used facets v ≡ true

are_used : (facets : List (List ℕ)) (k : ℕ) (d : List ℕ) → k < length facets → AreUsed facets (get_or facets k d)
are_used facets k d l v h = list_any_at (is_vertex_of v) facets k d l h

new_facet : (n : ℕ) (facets : List (List ℕ)) (facet : List ℕ) → IsFace n facet → AreUsed facets facet
    → IsFace (new_number facets n) (map (new_number facets) facet)
new_facet n facets [] o h = absurd o
new_facet n facets (a ∷ []) o h = absurd o
new_facet n facets (a ∷ b ∷ []) o h = absurd o
new_facet n facets (a ∷ b ∷ c ∷ []) o h =
    let has_a : is_used facets a ≡ true = h a (or_left (a == a) _ (eq-eqb a a refl)) in
    let has_b : is_used facets b ≡ true = h b (or_right (a == b) _ (or_left (b == b) _ (eq-eqb b b refl))) in
    let has_c : is_used facets c ≡ true =
    h c (or_right (a == c) _ (or_right (b == c) _ (or_left (c == c) _ (eq-eqb c c refl)))) in (
      number_less facets a b o.0 has_a,
      number_less facets a c o.1 has_a,
      number_apart facets b c o.2 has_b has_c,
      number_less facets b n o.3 has_b,
      number_less facets c n o.4 has_c,
    )
new_facet n facets (a ∷ b ∷ c ∷ d ∷ t) o h = absurd o

before_new : (facets : List (List ℕ)) (f g : List ℕ) → IsBefore f g → AreUsed facets f
    → IsBefore (map (new_number facets) f) (map (new_number facets) g)
before_new facets [] [] h u = absurd h
before_new facets [] (b ∷ ys) h u = absurd h
before_new facets (a ∷ xs) [] h u = absurd h
before_new facets (a ∷ xs) (b ∷ ys) (inl l) u = inl (number_less facets a b l (u a (or_left (a == a) _ (eq-eqb a a refl))))
before_new facets (a ∷ xs) (b ∷ ys) (inr h) u =
    inr (ap (new_number facets) h.0, before_new facets xs ys h.1 (λ v m. u v (or_right (a == v) (is_vertex_of v xs) m)))

pub new_facets : (n : ℕ) (facets : List (List ℕ)) → All (IsFace n) facets
    → All (IsFace (new_number facets n)) (map (map (new_number facets)) facets)
new_facets n facets o =
    All-map (IsFace (new_number facets n)) (map (new_number facets)) facets
    (λ k d l. new_facet n facets (get_or facets k d) (o k d l) (are_used facets k d l))

pub faces_rise : (facets : List (List ℕ)) → AllPairs IsBefore facets → AllPairs IsBefore (map (map (new_number facets)) facets)
faces_rise facets rising i j d l m =
    let new : List ℕ → List ℕ = map (new_number facets) in
    let inside : j < length facets = omega (arith, length-map facets new) in
    let at_i : get_or (map new facets) i d ≡ new (get_or facets i []) = get_or-map new facets i [] d (omega arith) in
    let at_j : get_or (map new facets) j d ≡ new (get_or facets j []) = get_or-map new facets j [] d inside in
    let before : IsBefore (new (get_or facets i [])) (new (get_or facets j [])) =
    before_new facets (get_or facets i []) (get_or facets j []) (rising i j [] l inside) (are_used facets i [] (omega arith)) in
    subst (λ (f : List ℕ). IsBefore f (get_or (map new facets) j d)) (sym at_i)
    (subst (λ (f : List ℕ). IsBefore (new (get_or facets i [])) f) (sym at_j) before)

pub mesh_valid : (places : List Point) (facets : List (List ℕ)) → length places < 2 ^ 32 → length facets < 2 ^ 32
    → IsFaceList (length places) facets → IsMesh (mesh_of places facets).points (mesh_of places facets).faces
mesh_valid places facets a b o =
    let n : ℕ = length places in
    let points : length (map (point_at places) (used facets n)) ≡ new_number facets n =
    length-map (used facets n) (point_at places) in
    record {
      few_points = omega (arith, points, length_filter_below (is_used facets) n);
      few_faces = omega (arith, length-map facets (map (new_number facets)));
      each = subst (λ (k : ℕ). All (IsFace k) (map (map (new_number facets)) facets)) (sym points) (new_facets n facets o.each);
    }
