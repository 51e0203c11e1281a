-- Sides sorted by their edges: where the sides with one edge begin, and how many they are.
--
-- From the first side with an edge on, those with the edge follow, and then greater keys. So there are one, two or more by whether the
-- next side has the edge, and the one after it.
use Rattle.std.proofs.Common.{ℕ, zero, suc, ◌≡◌, ◌≢◌, ◌+◌, ◌-◌, ◌<◌, ◌≤◌, inl, inr, refl, ap, sym, ◌∙◌, arith, List, [], ◌∷◌, length, get_or, take, drop}
use Rattle.std.specs.List.{All}
use Rattle.std.specs.List.Sorted.{IsNonDecreasingBy}
use Rattle.std.proofs.lemmas.Bool.{cases_eq}
use Rattle.std.proofs.lemmas.List.{get_or-map, get_or-take, drop_more, length-take}
use Rattle.std.proofs.lemmas.List.Elements.{All-tail}
use Rattle.mesh_edges.proofs.Counts.{hits, hits-cons, hits_none, hit_yes, hit_no, above_rest, hits-take-drop}
use Rattle.mesh_measures.specs.Sides.{IsFirstOfEdge, key_at, side_key}
use Rattle.mesh_measures.specs.declared.sides.Side.{Side}

pub blank : Side
blank = record { key = 0; low = 0; high = 0 }

pub key_is : (sides : List Side) (i : ℕ) (d : Side) → i < length sides → key_at sides i ≡ side_key (get_or sides i d)
key_is sides i d l = get_or-map side_key sides i d 0 l

-- a key that no side has
hits_off : (sides : List Side) (k : ℕ) → All (λ s. side_key s ≢ k) sides → hits side_key k sides ≡ 0
hits_off [] k off = refl
hits_off (s ∷ sides) k off =
    let here : s.key ≢ k = off 0 s (omega arith) in
    omega (
      arith,
      hits-cons side_key k s sides,
      hit_no s.key k here,
      hits_off sides k (All-tail (λ (t : Side). side_key t ≢ k) s sides off),
    )

-- a key that some side has: the first of them
pub first_hit : (sides : List Side) (k : ℕ) → 1 ≤ hits side_key k sides
    → (i : ℕ) × (i < length sides) × (key_at sides i ≡ k) × ((j : ℕ) → j < i → key_at sides j ≢ k)
first_hit [] k some = absurd (omega arith)
first_hit (s ∷ sides) k some =
    elim (cases_eq s.key k) [
      | inl e ↦ (0, omega arith, e, λ j l. absurd (omega arith))
      | inr ne ↦
          let rest = first_hit sides k (omega (arith, some, hits-cons side_key k s sides, hit_no s.key k ne)) in
          (suc rest.0, omega (arith, rest.1), rest.2, λ j l. before rest.0 rest.3 ne j l)
    ]
  where
    before : (i : ℕ) → ((j : ℕ) → j < i → key_at sides j ≢ k) → s.key ≢ k → (j : ℕ) → j < suc i → key_at (s ∷ sides) j ≢ k
    before i none ne zero l = ne
    before i none ne (suc j) l = none j (omega arith)

module _ (sides : List Side) (sorted : IsNonDecreasingBy side_key sides) where
  pub sorted_at : (j k : ℕ) → j ≤ k → k < length sides → key_at sides j ≤ key_at sides k
  sorted_at j k l m =
      omega (arith, key_is sides j blank (omega arith), key_is sides k blank m, sorted j k blank l m)

  pub first_yes : (i : ℕ) → i < length sides → key_at sides (i - 1) ≢ key_at sides i → IsFirstOfEdge sides i
  first_yes i l ne j m e =
      let low : key_at sides j ≤ key_at sides (i - 1) = sorted_at j (i - 1) (omega arith) (omega arith) in
      let high : key_at sides (i - 1) ≤ key_at sides i = sorted_at (i - 1) i (omega arith) l in
      ne (omega arith)

  -- sides from i on, where side i has the key
  hits_here : (i k : ℕ) → i < length sides → key_at sides i ≡ k
      → hits side_key k (drop i sides) ≡ 1 + hits side_key k (drop (i + 1) sides)
  hits_here i k l e =
      omega (
        arith,
        ap (λ (zs : List Side). hits side_key k zs) (drop_more sides i blank l),
        hits-cons side_key k (get_or sides i blank) (drop (i + 1) sides),
        hit_yes (side_key (get_or sides i blank)) k (sym (key_is sides i blank l) ∙ e),
      )

  -- where it has a greater one, or there is none
  hits_past : (i k : ℕ) → (i < length sides → k < key_at sides i) → hits side_key k (drop i sides) ≡ 0
  hits_past i k above =
      hits_none side_key k (drop i sides)
      (above_rest side_key sides i k blank sorted (λ l. omega (arith, above l, key_is sides i blank l)))

  module _ (i : ℕ) (l : i < length sides) (first : IsFirstOfEdge sides i) where
    abbrev here : ℕ
    here = key_at sides i

    abbrev times : ℕ
    times = hits side_key (key_at sides i) sides

    off : All (λ s. side_key s ≢ key_at sides i) (take i sides)
    off j d m =
        let less : j < i = omega (arith, length-take i sides) in
        λ e. first j less
        (key_is sides j d (omega arith) ∙ (ap side_key (sym (get_or-take i sides j d less)) ∙ e))

    times_here : times ≡ 1 + hits side_key (key_at sides i) (drop (i + 1) sides)
    times_here =
        omega (
          arith,
          hits-take-drop side_key (key_at sides i) sides i,
          hits_off (take i sides) (key_at sides i) off,
          hits_here i (key_at sides i) l refl,
        )

    above : (j : ℕ) → i ≤ j → j < length sides → key_at sides j ≢ key_at sides i → key_at sides i < key_at sides j
    above j m n ne = let up : key_at sides i ≤ key_at sides j = sorted_at i j m n in omega arith

    pub once : (i + 1 < length sides → key_at sides (i + 1) ≢ key_at sides i) → times ≡ 1
    once next = omega (arith, times_here, hits_past (i + 1) (key_at sides i) (λ m. above (i + 1) (omega arith) m (next m)))

    pub twice : i + 1 < length sides → key_at sides (i + 1) ≡ key_at sides i
        → (i + 2 < length sides → key_at sides (i + 2) ≢ key_at sides i) → times ≡ 2
    twice m e next =
        let two : i + 1 + 1 ≡ i + 2 = omega arith in
        omega (
          arith,
          times_here,
          hits_here (i + 1) (key_at sides i) m e,
          ap (λ (j : ℕ). hits side_key (key_at sides i) (drop j sides)) two,
          hits_past (i + 2) (key_at sides i) (λ n. above (i + 2) (omega arith) n (next n)),
        )

    pub more_times : i + 1 < length sides → key_at sides (i + 1) ≡ key_at sides i → i + 2 < length sides
        → key_at sides (i + 2) ≡ key_at sides i → 3 ≤ times
    more_times m e n f =
        let two : i + 1 + 1 ≡ i + 2 = omega arith in
        omega (
          arith,
          times_here,
          hits_here (i + 1) (key_at sides i) m e,
          ap (λ (j : ℕ). hits side_key (key_at sides i) (drop j sides)) two,
          hits_here (i + 2) (key_at sides i) n f,
        )

    pub some_times : 1 ≤ times
    some_times = omega (arith, times_here)
