-- Numbers below a bound, and the vertices that facets have.
use Rattle.std.proofs.Common.{ℕ, zero, suc, ◌≡◌, ◌+◌, ◌-◌, ◌<◌, ◌≤◌, refl, ap, sym, ◌∙◌, arith, Bool, false, cond, List, []}
use Rattle.std.proofs.Common.{◌∷◌, ◌++◌, length, get_or, map, filter, length-append, add-one, inl, inr, ◌⊎◌}
use Rattle.std.proofs.lemmas.Bool.{cases_lt}
use Rattle.std.proofs.lemmas.List.{get_or-map, length-map, ext_get_or, get_or_append_left, get_or-append_right}
use Rattle.std.proofs.lemmas.List.Elements.{filter-append}
use Rattle.std.proofs.lemmas.List.Sums.{length-filter, count_by-le-length}
use Rattle.mesh.specs.Meshes.{below, is_used, used, new_number, IsFace}
use Rattle.mesh.specs.Marks.{marked, number_among}
use Rattle.std.specs.List.{All}

pub length_below : (n : ℕ) → length (below n) ≡ n
length_below zero = refl
length_below (suc n) = omega (arith, length-append (below n) (n ∷ []), length_below n)

pub get_or-below : (n k d : ℕ) → k < n → get_or (below n) k d ≡ k
get_or-below zero k d l = absurd (omega arith)
get_or-below (suc n) k d l = by (get_or-below n k d) (cases_lt k n)
  where
    by : (k < n → get_or (below n) k d ≡ k) → (k < n) ⊎ (n ≤ k) → get_or (below n ++ n ∷ []) k d ≡ k
    by before (inl m) = get_or_append_left (below n) (n ∷ []) d k (omega (arith, length_below n)) ∙ before m
    by before (inr m) =
        let same : k ≡ n = omega arith in
        let none : k - n ≡ 0 = omega arith in
        get_or-append_right (below n) (n ∷ []) n k d (length_below n) m ∙ ap (λ (i : ℕ). get_or (n ∷ []) i d) none ∙ sym same

-- one vertex more
pub below_more : (n : ℕ) → below (n + 1) ≡ below n ++ n ∷ []
below_more n = ap below (add-one n)

pub filter_below_more : (p : ℕ → Bool) (n : ℕ) → filter p (below (n + 1)) ≡ filter p (below n) ++ cond (p n) (n ∷ []) []
filter_below_more p n = ap (filter p) (below_more n) ∙ filter-append p (below n) (n ∷ [])

pub length_filter_below : (p : ℕ → Bool) (n : ℕ) → length (filter p (below n)) ≤ n
length_filter_below p n = omega (arith, length-filter p (below n), count_by-le-length p (below n), length_below n)

-- two tests that agree below n keep the same numbers
pub filter_below_same : (p q : ℕ → Bool) (n : ℕ) → ((v : ℕ) → v < n → p v ≡ q v) → filter p (below n) ≡ filter q (below n)
filter_below_same p q zero h = refl
filter_below_same p q (suc n) h =
    filter-append p (below n) (n ∷ [])
    ∙ (ap (λ (t : List ℕ). t ++ cond (p n) (n ∷ []) []) (filter_below_same p q n (λ v l. h v (omega arith)))
    ∙ (ap (λ (b : Bool). filter q (below n) ++ cond b (n ∷ []) []) (h n (omega arith))
    ∙ sym (filter-append q (below n) (n ∷ []))))

-- the marks say which vertices are used
pub marked_used : (facets : List (List ℕ)) (marks : List Bool) (n m : ℕ) → marks ≡ map (is_used facets) (below n) → m ≤ n
    → marked marks m ≡ used facets m
marked_used facets marks n m e le =
    filter_below_same (λ v. get_or marks v false) (is_used facets) m (λ v l.
    let inside : v < length (below n) = omega (arith, length_below n) in
    ap (λ (t : List Bool). get_or t v false) e
    ∙ (get_or-map (is_used facets) (below n) v 0 false inside ∙ ap (is_used facets) (get_or-below n v 0 (omega arith))))

-- the number in the table is the vertex's new number
pub number_in_table : (facets : List (List ℕ)) (marks : List Bool) (numbers : List ℕ) (n v : ℕ)
    → marks ≡ map (is_used facets) (below n) → numbers ≡ map (number_among marks) (below n) → v < n
    → get_or numbers v 0 ≡ new_number facets v
number_in_table facets marks numbers n v e f l =
    let inside : v < length (below n) = omega (arith, length_below n) in
    ap (λ (t : List ℕ). get_or t v 0) f
    ∙ (get_or-map (number_among marks) (below n) v 0 0 inside
    ∙ (ap (number_among marks) (get_or-below n v 0 l) ∙ ap length (marked_used facets marks n v e (omega arith))))

-- two numberings that agree below n renumber the facets among n vertices alike
facet_same : (n : ℕ) (f g : ℕ → ℕ) (facet : List ℕ) → IsFace n facet → ((v : ℕ) → v < n → f v ≡ g v) → map f facet ≡ map g facet
facet_same n f g [] o h = refl
facet_same n f g (a ∷ []) o h = absurd o
facet_same n f g (a ∷ b ∷ []) o h = absurd o
facet_same n f g (a ∷ b ∷ c ∷ []) o h = grind arith
facet_same n f g (a ∷ b ∷ c ∷ d ∷ t) o h = absurd o

pub facets_same : (n : ℕ) (f g : ℕ → ℕ) (facets : List (List ℕ)) → All (IsFace n) facets → ((v : ℕ) → v < n → f v ≡ g v)
    → map (map f) facets ≡ map (map g) facets
facets_same n f g [] o h = refl
facets_same n f g (facet ∷ facets) o h =
    let first : map f facet ≡ map g facet = facet_same n f g facet (o 0 [] (omega arith)) h in
    let rest : map (map f) facets ≡ map (map g) facets = facets_same n f g facets (λ k d l. o (suc k) d (omega arith)) h in
    ap (λ (x : List ℕ). x ∷ map (map f) facets) first ∙ ap (λ (t : List (List ℕ)). map g facet ∷ t) rest

-- the marks by places are those by the test
pub marks_are : (facets : List (List ℕ)) (marks : List Bool) (n : ℕ) → length marks ≡ n
    → ((v : ℕ) → v < n → get_or marks v false ≡ is_used facets v) → marks ≡ map (is_used facets) (below n)
marks_are facets marks n len h =
    let same : length marks ≡ length (map (is_used facets) (below n)) =
    omega (arith, length-map (below n) (is_used facets), length_below n) in
    ext_get_or false marks (map (is_used facets) (below n)) same (λ v l.
    h v (omega arith) ∙ (ap (is_used facets) (sym (get_or-below n v 0 (omega arith)))
    ∙ sym (get_or-map (is_used facets) (below n) v 0 false (omega (arith, length_below n)))))
