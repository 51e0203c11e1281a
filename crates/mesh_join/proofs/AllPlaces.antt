-- Sorted points, each once, are the places of all vertices.
use Rattle.std.proofs.Common.{ℕ, ◌≡◌, ◌≤◌, ◌<◌, ◌+◌, ◌-◌, ◌↔◌, ◌⊎◌, inl, inr, ap, sym, subst, ◌∙◌, arith, List, [], ◌∷◌, ◌++◌}
use Rattle.std.proofs.Common.{Result, Ok, Err, IfOk, length, length-append, get_or, below_more, Contains}
use Rattle.std.proofs.Math.Seq.{get_or-append_seam}
use Rattle.std.proofs.lemmas.Bool.{false≢true, cases_lt}
use Rattle.std.proofs.lemmas.List.{get_or_append_left, get_or_default}
use Rattle.std.proofs.lemmas.List.Elements.{Contains-get_or, Contains-append_left, Contains-push, Contains-push_cases}
use Rattle.std.proofs.lemmas.List.Sorted.{Contains-permutation, IsPermutation-sym}
use Rattle.std.specs.Cmp.{int_cmp_is}
use Rattle.std.specs.List.{flat_map}
use Rattle.std.specs.List.Sorted.{IsPermutation, IsSorted}
use Rattle.std.specs.Ordering.{int_cmp, is_lt, ordering_then}
use Rattle.std.specs.Global.{Vec}
use Rattle.std.specs.declared.cmp.Ordering.{Ordering}
use Rattle.std.specs.declared.cmp.Ordering.TheVariants.{Less, Equal}
use Rattle.geo_sign.specs.Point.{Point, origin}
use Rattle.geo_sign.proofs.Members.{IsInOne, flat_map_has, flat_map_gets}
use Rattle.mesh.specs.Meshes.{point_at}
use Rattle.mesh.specs.declared.mesh.Mesh.{Mesh}
use Rattle.mesh_join.specs.Joins.{ArePlacesRising, IsPlaceBefore}
use Rattle.mesh_join.specs.Places.{mesh_points, NeverFall}
use Rattle.mesh_join.specs.Refusals.{ArePlacesOf, IsPlaceOf, IsFlatMesh, IsFlatTile, LacksPlace}
use Rattle.mesh_join.proofs.PlaceOrder.{same_if}

-- places that are sorted points are those of all vertices
pub are_places : (meshes : List Mesh) (points sorted places : List Point) → points ≡ flat_map mesh_points meshes
    → IsPermutation points sorted → ArePlacesRising places → ((p : Point) → Contains places p ↔ Contains sorted p)
    → ArePlacesOf meshes places
are_places meshes points sorted places is moved rising same =
    record {
      rising = rising;
      has = λ p h. (same p).1 (Contains-permutation points sorted p moved
          (subst (λ (ps : List Point). Contains ps p) (sym is) (flat_map_gets mesh_points meshes h.0 p h.1 h.2)));
      only = λ p h. vertex p (flat_map_has mesh_points meshes p (subst (λ (ps : List Point). Contains ps p) is
          (Contains-permutation sorted points p (IsPermutation-sym points sorted moved) ((same p).0 h))));
    }
  where
    vertex : (p : Point) → IsInOne mesh_points meshes p → IsPlaceOf meshes p
    vertex p h = (h.from, h.listed, h.has)

pub are_places_if : {E : Type 0} (meshes : List Mesh) (points sorted : List Point) (r : Result (Vec Point) E)
    → points ≡ flat_map mesh_points meshes → IsPermutation points sorted → IfOk r (λ v. ArePlacesRising v.items)
    → IfOk r (λ v. (p : Point) → Contains v.items p ↔ Contains sorted p) → IfOk r (λ v. ArePlacesOf meshes v.items)
are_places_if meshes points sorted (Err e) is moved rising same = tt
are_places_if meshes points sorted (Ok v) is moved rising same = are_places meshes points sorted v.items is moved rising same

-- ---- sorted points
abbrev tail_order : Point → Point → Ordering
tail_order p q = ordering_then (int_cmp p.y q.y) (int_cmp p.z q.z)

-- the order of points that `Ord` derives
abbrev pub point_order : Point → Point → Ordering
point_order p q = ordering_then (int_cmp p.x q.x) (tail_order p q)

less_if : (p q : Point) → IsPlaceBefore p q → point_order p q ≡ Less
less_if p q (inl l) = ap (λ (o : Ordering). ordering_then o (tail_order p q)) (sym (int_cmp_is p.x q.x Less l))
less_if p q (inr (e, inl l)) =
    ap (λ (o : Ordering). ordering_then o (tail_order p q)) (sym (int_cmp_is p.x q.x Equal e))
    ∙ ap (λ (o : Ordering). ordering_then o (int_cmp p.z q.z)) (sym (int_cmp_is p.y q.y Less l))
less_if p q (inr (e, inr (f, l))) =
    ap (λ (o : Ordering). ordering_then o (tail_order p q)) (sym (int_cmp_is p.x q.x Equal e))
    ∙ (ap (λ (o : Ordering). ordering_then o (int_cmp p.z q.z)) (sym (int_cmp_is p.y q.y Equal f)) ∙ sym (int_cmp_is p.z q.z Less l))

pub never_fall : (points : List Point) → IsSorted point_order points → NeverFall points
never_fall points sorted k l before =
    false≢true (sym (sorted k origin (omega arith) l) ∙ ap is_lt (less_if (point_at points (k + 1)) (point_at points k) before))

-- ---- each once
-- the places of the first i of some points
pub record ArePlaced (points places : List Point) (i : ℕ) : Type 0 where
  pub rising : ArePlacesRising places
  pub first : i ≡ 0 → length places ≡ 0
  pub last : (k : ℕ) → k + 1 ≡ i → (0 < length places) × (point_at places (length places - 1) ≡ point_at points k)
  pub has : (k : ℕ) → k < i → Contains places (point_at points k)
  pub only : (p : Point) → Contains places p → Contains points p

contains_at : (ps : List Point) (k : ℕ) (p : Point) → k < length ps → point_at ps k ≡ p → Contains ps p
contains_at ps k p l e = (k, l, get_or_default ps k p origin l ∙ e)

-- a point that does not follow the last place is at it
at_last : (points places : List Point) (i : ℕ) → NeverFall points → i < length points → ArePlaced points places i
    → (0 < length places) × (¬ IsPlaceBefore (point_at places (length places - 1)) (point_at points i))
    → point_at places (length places - 1) ≡ point_at points i
at_last points places i never within are stays = elim (cases_lt 0 i) [
  | inl some ↦ let before : i - 1 + 1 ≡ i = omega (arith, some) in
      let falls : ¬ IsPlaceBefore (point_at points i) (point_at points (i - 1)) =
      subst (λ (k : ℕ). ¬ IsPlaceBefore (point_at points k) (point_at points (i - 1))) before
      (never (i - 1) (omega (arith, some, within))) in
      same_if (point_at places (length places - 1)) (point_at points i) stays.1
      (subst (λ (q : Point). ¬ IsPlaceBefore (point_at points i) q) (sym (are.last (i - 1) before).1) falls)
  | inr none ↦ absurd (omega (arith, are.first (omega (arith, none)), stays.0))
]

pub stays_placed : (points places : List Point) (i : ℕ) (p : Point) → p ≡ point_at points i → NeverFall points
    → i < length points → ArePlaced points places i
    → (0 < length places) × (¬ IsPlaceBefore (point_at places (length places - 1)) p) → ArePlaced points places (i + 1)
stays_placed points places i p here never within are after_none =
    let stays : (0 < length places) × (¬ IsPlaceBefore (point_at places (length places - 1)) (point_at points i)) =
    (after_none.0, subst (λ (q : Point). ¬ IsPlaceBefore (point_at places (length places - 1)) q) here after_none.1) in
    let same : point_at places (length places - 1) ≡ point_at points i = at_last points places i never within are stays in
    record {
      rising = are.rising;
      first = λ e. absurd (omega (arith, e));
      last = λ k e. let at : i ≡ k = omega (arith, e) in (stays.0, subst (λ (j : ℕ). point_at places (length places - 1) ≡ point_at points j) at same);
      has = below_more (λ k. Contains places (point_at points k)) i are.has
          (contains_at places (length places - 1) (point_at points i) (omega (arith, stays.0)) same);
      only = are.only;
    }

-- one place more
more_rising : (places : List Point) (p : Point) → ArePlacesRising places
    → (0 < length places → IsPlaceBefore (point_at places (length places - 1)) p) → ArePlacesRising (places ++ p ∷ [])
more_rising places p rising after k l = elim (cases_lt (k + 1) (length places)) [
  | inl m ↦ subst (λ (q : Point). IsPlaceBefore q (point_at (places ++ p ∷ []) (k + 1)))
      (sym (get_or_append_left places (p ∷ []) origin k (omega (arith, m))))
      (subst (λ (q : Point). IsPlaceBefore (point_at places k) q) (sym (get_or_append_left places (p ∷ []) origin (k + 1) m))
      (rising k m))
  | inr m ↦ let end : length places ≡ k + 1 = omega (arith, m, l, length-append places (p ∷ [])) in
      let back : length places - 1 ≡ k = omega (arith, end) in
      let next : point_at (places ++ p ∷ []) (k + 1) ≡ p =
      subst (λ (n : ℕ). point_at (places ++ p ∷ []) n ≡ p) end (get_or-append_seam places p [] origin) in
      let here : IsPlaceBefore (point_at places k) p =
      subst (λ (n : ℕ). IsPlaceBefore (point_at places n) p) back (after (omega (arith, end))) in
      subst (λ (q : Point). IsPlaceBefore q (point_at (places ++ p ∷ []) (k + 1)))
      (sym (get_or_append_left places (p ∷ []) origin k (omega (arith, end))))
      (subst (λ (q : Point). IsPlaceBefore (point_at places k) q) (sym next) here)
]

pub grows_placed : (points places new : List Point) (i : ℕ) (p : Point) → p ≡ point_at points i → new ≡ places ++ p ∷ []
    → i < length points → ArePlaced points places i → (0 < length places → IsPlaceBefore (point_at places (length places - 1)) p)
    → ArePlaced points new (i + 1)
grows_placed points places new i p here is within are after =
    let size : length (places ++ p ∷ []) ≡ length places + 1 = length-append places (p ∷ []) in
    let seam : point_at (places ++ p ∷ []) (length (places ++ p ∷ []) - 1) ≡ p =
    subst (λ (n : ℕ). point_at (places ++ p ∷ []) n ≡ p) (let e : length places ≡ length (places ++ p ∷ []) - 1 = omega (arith, size) in e)
    (get_or-append_seam places p [] origin) in
    subst (λ (ps : List Point). ArePlaced points ps (i + 1)) (sym is)
    (record {
      rising = more_rising places p are.rising after;
      first = λ e. absurd (omega (arith, e));
      last = λ k e. let at : i ≡ k = omega (arith, e) in
          (omega (arith, size), subst (λ (j : ℕ). point_at (places ++ p ∷ []) (length (places ++ p ∷ []) - 1) ≡ point_at points j) at (seam ∙ here));
      has = below_more (λ k. Contains (places ++ p ∷ []) (point_at points k)) i
          (λ k l. Contains-append_left places (p ∷ []) (point_at points k) (are.has k l))
          (subst (λ (q : Point). Contains (places ++ p ∷ []) q) here (Contains-push places p));
      only = λ q h. elim (Contains-push_cases places p q h) [
        | inl old ↦ are.only q old
        | inr e ↦ contains_at points i q within (sym here ∙ e)
      ];
    })

-- all points are placed
pub all_placed : (points places : List Point) (i : ℕ) → length points ≤ i → ArePlaced points places i → (p : Point)
    → Contains places p ↔ Contains points p
all_placed points places i all are p = (are.only p, λ h. placed h)
  where
    placed : Contains points p → Contains places p
    placed h =
        let is : point_at points h.0 ≡ p = get_or_default points h.0 origin p h.1 ∙ h.2 in
        subst (λ (q : Point). Contains places q) is (are.has h.0 (omega (arith, all, h.1)))

-- ---- flat tiles
pub flat_tile : (meshes : List Mesh) (places : List Point) (tile : ℕ) → ArePlacesOf meshes places → tile < length meshes
    → ((m : Mesh) → LacksPlace places (get_or meshes tile m).points.items ⊎ IsFlatMesh (get_or meshes tile m))
    → IsFlatTile meshes tile
flat_tile meshes places tile are within none = (within, λ m. by m (none m))
  where
    by : (m : Mesh) → LacksPlace places (get_or meshes tile m).points.items ⊎ IsFlatMesh (get_or meshes tile m)
        → IsFlatMesh (get_or meshes tile m)
    by m (inl lacks) = absurd (lacks.2 (are.has lacks.0 (get_or meshes tile m, Contains-get_or meshes tile m within, lacks.1)))
    by m (inr flat) = flat
