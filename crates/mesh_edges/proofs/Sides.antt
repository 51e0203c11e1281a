-- Half edges in two lists, by their direction, and their edges in a closed mesh.
--
-- How many half edges of one side have the number of an edge is how many faces have the edge that way. So in a closed mesh both lists have
-- each number equally often, and sorted they have the same numbers. Half edges at one index then have one edge and run opposite ways.
use Rattle.std.proofs.Common.{ℕ, zero, suc, ◌≡◌, ◌≢◌, ◌+◌, ◌*◌, ◌/◌, ◌%◌, ◌^◌, ◌<◌, ◌≤◌, ◌==◌, ◌&&◌, ◌⊎◌, ◌++◌, inl, inr, refl, ap, sym, ◌∙◌, subst, arith}
use Rattle.std.proofs.Common.{Bool, true, false, cond, nat_lt, List, [], ◌∷◌, length, get_or, map}
use Rattle.std.specs.List.{All, count_by}
use Rattle.std.specs.List.Sorted.{IsPermutation, IsNonDecreasingBy}
use Rattle.std.proofs.lemmas.Bool.{cases_lt, cases_eq, false≢true}
use Rattle.std.proofs.lemmas.Bool.Decides.{nat_tests}
use Rattle.std.proofs.lemmas.List.{get_or-map, length-map}
use Rattle.std.proofs.lemmas.List.Elements.{All-push}
use Rattle.std.proofs.lemmas.List.Sorted.{All-permutation, sum_by-IsPermutation}
use Rattle.std.proofs.lemmas.List.Sums.{sum_by-cons, sum_by-append}
use Rattle.mesh.specs.Meshes.{IsFace, below}
use Rattle.mesh_edges.specs.Edges.{is_edge, faces_with_edge, IsBalanced}
use Rattle.mesh_edges.proofs.Counts.{one_if, hits, hits-cons, hit_yes, hit_no, same_keys}
use Rattle.mesh_edges.proofs.FaceEdges.{key_parts}
use Rattle.mesh_edges.specs.HalfEdges.{start, behind, IsTwin, ArePaired}
use Rattle.mesh_edges.specs.Matching.{rises, falls, edge_number, side_edge, half_number, order_of, ranked_in, IsHalf, AreHalves, AreTwinsByIndex}
use Rattle.mesh_edges.specs.declared.matching.Ranked.{Ranked}
use Rattle.mesh_edges.proofs.Sums.{sum_below, sum_next, sum_none, sum_same}
use Rattle.mesh_edges.proofs.Paired.{along, along_one, along_some, runs, by_faces, count_all}
use Rattle.mesh_edges.proofs.Corners.{ends_away, behind_within, start_in}

abbrev no_half : Ranked
no_half = record { edge = 0; rank = 0; half = 0 }

-- counts among the first numbers are sums
count_below : (p : ℕ → Bool) (n : ℕ) → count_by p (below n) ≡ sum_below (λ h. one_if (p h)) n
count_below p zero = sym (sum_none (λ h. one_if (p h)))
count_below p (suc n) =
    omega (
      arith,
      sum_by-append (λ h. one_if (p h)) (below n) (n ∷ []),
      sum_by-cons (λ h. one_if (p h)) n [],
      count_below p n,
      sum_next (λ h. one_if (p h)) n,
    )

-- the numbers of half edges occur as often after they were moved
pub halves_moved : (faces : List (List ℕ)) (side : ℕ → Bool) (n : ℕ) (old new : List Ranked) → IsPermutation old new
    → AreHalves faces side n old → AreHalves faces side n new
halves_moved faces side n old new moved was =
    record {
      each = All-permutation (IsHalf faces side n) old new moved was.each;
      once = λ h. sum_by-IsPermutation (λ r. one_if (half_number r == h)) old new moved ∙ was.once h;
      counts = λ k. sum_by-IsPermutation (λ r. one_if (side_edge r == k)) old new moved ∙ was.counts k;
    }

-- a number that occurs has an index, and one that occurs once has one index
some_index : (key : Ranked → ℕ) (k : ℕ) (list : List Ranked) → 1 ≤ hits key k list
    → (i : ℕ) × (i < length list) × (key (ranked_in list i) ≡ k)
some_index key k [] some = absurd (omega arith)
some_index key k (r ∷ list) some =
    elim (cases_eq (key r) k) [
      | inl e ↦ (0, omega arith, e)
      | inr ne ↦
          let rest = some_index key k list (omega (arith, some, hits-cons key k r list, hit_no (key r) k ne)) in
          (suc rest.0, omega (arith, rest.1), rest.2)
    ]

none_at : (key : Ranked → ℕ) (k : ℕ) (list : List Ranked) → hits key k list ≡ 0 → (i : ℕ) → i < length list
    → key (ranked_in list i) ≢ k
none_at key k [] none i l = absurd (omega arith)
none_at key k (r ∷ list) none zero l = λ e. omega (arith, none, hits-cons key k r list, hit_yes (key r) k e)
none_at key k (r ∷ list) none (suc i) l = none_at key k list (omega (arith, none, hits-cons key k r list)) i (omega arith)

pub one_place : (key : Ranked → ℕ) (k : ℕ) (list : List Ranked) → hits key k list ≤ 1 → (i j : ℕ) → i < length list → j < length list
    → key (ranked_in list i) ≡ k → key (ranked_in list j) ≡ k → i ≡ j
one_place key k [] once i j l m e f = absurd (omega arith)
one_place key k (r ∷ list) once zero zero l m e f = refl
one_place key k (r ∷ list) once zero (suc j) l m e f =
    absurd (none_at key k list (omega (arith, once, hits-cons key k r list, hit_yes (key r) k e)) j (omega arith) f)
one_place key k (r ∷ list) once (suc i) zero l m e f =
    absurd (none_at key k list (omega (arith, once, hits-cons key k r list, hit_yes (key r) k f)) i (omega arith) e)
one_place key k (r ∷ list) once (suc i) (suc j) l m e f =
    ap suc (one_place key k list (omega (arith, once, hits-cons key k r list)) i j (omega arith) (omega arith) e f)

-- one half edge more
small : (b c : Bool) → one_if (b && c) ≤ 1
small true true = omega arith
small true false = omega arith
small false c = omega arith

pub at_most_once : (faces : List (List ℕ)) (side : ℕ → Bool) (n : ℕ) (list : List Ranked) → AreHalves faces side n list → (h : ℕ)
    → hits half_number h list ≤ 1
at_most_once faces side n list halves h = omega (arith, halves.once h, small (nat_lt h n) (side h))

pub half_at : (faces : List (List ℕ)) (side : ℕ → Bool) (n : ℕ) (list : List Ranked) → AreHalves faces side n list → (i : ℕ)
    → i < length list → IsHalf faces side n (ranked_in list i)
half_at faces side n list halves i l = halves.each i (record { edge = 0; rank = 0; half = 0 }) l

-- each half edge of a side has an index
pub index_of : (faces : List (List ℕ)) (side : ℕ → Bool) (n : ℕ) (list : List Ranked) → AreHalves faces side n list → (h : ℕ) → h < n
    → side h ≡ true → (i : ℕ) × (i < length list) × (half_number (ranked_in list i) ≡ h)
index_of faces side n list halves h l here =
    some_index half_number h list (omega (arith, halves.once h, both (nat_lt h n) (side h) (less h n l) here))
  where
    less : (h n : ℕ) → h < n → nat_lt h n ≡ true
    less h n l = grind (arith, nat_tests, l)

    both : (b c : Bool) → b ≡ true → c ≡ true → one_if (b && c) ≡ 1
    both true true e f = refl
    both true false e f = absurd (false≢true f)
    both false c e f = absurd (false≢true e)

-- tests of numbers
less_yes : (a b : ℕ) → a < b → nat_lt a b ≡ true
less_yes a b l = grind (arith, nat_tests, l)

less_no : (a b : ℕ) → b ≤ a → nat_lt a b ≡ false
less_no a b l = grind (arith, nat_tests, l)

pub rises_yes : (faces : List (List ℕ)) (h : ℕ) → start faces h < start faces (behind h) → rises faces h ≡ true
rises_yes faces h l = less_yes (start faces h) (start faces (behind h)) l

pub rises_no : (faces : List (List ℕ)) (h : ℕ) → start faces (behind h) ≤ start faces h → rises faces h ≡ false
rises_no faces h l = less_no (start faces h) (start faces (behind h)) l

pub falls_yes : (faces : List (List ℕ)) (h : ℕ) → start faces (behind h) ≤ start faces h → falls faces h ≡ true
falls_yes faces h l = ap (λ (b : Bool). cond b false true) (rises_no faces h l)

pub falls_no : (faces : List (List ℕ)) (h : ℕ) → start faces h < start faces (behind h) → falls faces h ≡ false
falls_no faces h l = ap (λ (b : Bool). cond b false true) (rises_yes faces h l)

pub number_up : (faces : List (List ℕ)) (h : ℕ) → start faces h < start faces (behind h)
    → edge_number faces h ≡ start faces h * 4294967296 + start faces (behind h)
number_up faces h l =
    ap
    (λ (b : Bool). cond b (start faces h * 4294967296 + start faces (behind h)) (start faces (behind h) * 4294967296 + start faces h))
    (rises_yes faces h l)

pub number_down : (faces : List (List ℕ)) (h : ℕ) → start faces (behind h) ≤ start faces h
    → edge_number faces h ≡ start faces (behind h) * 4294967296 + start faces h
number_down faces h l =
    ap
    (λ (b : Bool). cond b (start faces h * 4294967296 + start faces (behind h)) (start faces (behind h) * 4294967296 + start faces h))
    (rises_no faces h l)

both_yes : (b c : Bool) → b ≡ true → (b && c) ≡ c
both_yes true c e = refl
both_yes false c e = absurd (false≢true e)

both_no : (b c : Bool) → b ≡ false → (b && c) ≡ false
both_no true c e = absurd (false≢true (sym e))
both_no false c e = refl

-- one half edge more, of this side
once_more : (g h : ℕ) (side : ℕ → Bool) → side h ≡ true
    → one_if (nat_lt g h && side g) + one_if (h == g) ≡ one_if (nat_lt g (h + 1) && side g)
once_more g h side here =
    elim (cases_lt g h) [
      | inl l ↦
          omega (
            arith,
            ap (λ (b : Bool). one_if (b && side g)) (less_yes g h l),
            ap (λ (b : Bool). one_if (b && side g)) (less_yes g (h + 1) (omega arith)),
            hit_no h g (λ e. omega arith),
          )
      | inr m ↦
          elim (cases_eq h g) [
            | inl e ↦
                omega (
                  arith,
                  ap (λ (b : Bool). one_if (b && side g)) (less_no g h m),
                  ap (λ (b : Bool). one_if (b && side g)) (less_yes g (h + 1) (omega arith)),
                  ap (λ (k : ℕ). one_if (side k)) (sym e),
                  ap (λ (b : Bool). one_if b) here,
                  hit_yes h g e,
                )
            | inr ne ↦
                omega (
                  arith,
                  ap (λ (b : Bool). one_if (b && side g)) (less_no g h m),
                  ap (λ (b : Bool). one_if (b && side g)) (less_no g (h + 1) (omega arith)),
                  hit_no h g ne,
                )
          ]
    ]

-- or of the other
once_same : (g h : ℕ) (side : ℕ → Bool) → side h ≡ false
    → one_if (nat_lt g h && side g) ≡ one_if (nat_lt g (h + 1) && side g)
once_same g h side other =
    elim (cases_lt g h) [
      | inl l ↦
          omega (
            arith,
            ap (λ (b : Bool). one_if (b && side g)) (less_yes g h l),
            ap (λ (b : Bool). one_if (b && side g)) (less_yes g (h + 1) (omega arith)),
          )
      | inr m ↦
          elim (cases_eq h g) [
            | inl e ↦
                omega (
                  arith,
                  ap (λ (b : Bool). one_if (b && side g)) (less_no g h m),
                  ap (λ (b : Bool). one_if (b && side g)) (less_yes g (h + 1) (omega arith)),
                  ap (λ (k : ℕ). one_if (side k)) (sym e),
                  ap (λ (b : Bool). one_if b) other,
                )
            | inr ne ↦
                omega (
                  arith,
                  ap (λ (b : Bool). one_if (b && side g)) (less_no g h m),
                  ap (λ (b : Bool). one_if (b && side g)) (less_no g (h + 1) (omega arith)),
                )
          ]
    ]

below_next : (p : ℕ → Bool) (h : ℕ) → count_by p (below (h + 1)) ≡ count_by p (below h) + one_if (p h)
below_next p h =
    let e : h + 1 ≡ suc h = omega arith in
    omega (
      arith,
      ap (λ (k : ℕ). count_by p (below k)) e,
      sum_by-append (λ k. one_if (p k)) (below h) (h ∷ []),
      sum_by-cons (λ k. one_if (p k)) h [],
    )

wider : (faces : List (List ℕ)) (side : ℕ → Bool) (h : ℕ) (list : List Ranked) → All (IsHalf faces side h) list
    → All (IsHalf faces side (h + 1)) list
wider faces side h list was i d l =
    let o = was i d l in record { within = omega (arith, o.within); here = o.here; number = o.number; rank = o.rank }

pub halves_more : (faces : List (List ℕ)) (side : ℕ → Bool) (h : ℕ) (list : List Ranked) (r : Ranked) → side h ≡ true → r.half ≡ h
    → r.edge ≡ edge_number faces h → r.rank < 4294967296 → AreHalves faces side h list
    → AreHalves faces side (h + 1) (list ++ r ∷ [])
halves_more faces side h list r here half number rank was =
    record {
      each =
          All-push (IsHalf faces side (h + 1)) list r (wider faces side h list was.each)
          (record {
            within = omega (arith, half);
            here = ap side half ∙ here;
            number = number ∙ ap (edge_number faces) (sym half);
            rank = rank;
          });
      once = λ g.
          omega (
            arith,
            sum_by-append (λ x. one_if (half_number x == g)) list (r ∷ []),
            sum_by-cons (λ x. one_if (half_number x == g)) r [],
            ap (λ (k : ℕ). one_if (k == g)) half,
            was.once g,
            once_more g h side here,
          );
      counts = λ k.
          omega (
            arith,
            sum_by-append (λ x. one_if (side_edge x == k)) list (r ∷ []),
            sum_by-cons (λ x. one_if (side_edge x == k)) r [],
            ap (λ (e : ℕ). one_if (e == k)) number,
            was.counts k,
            below_next (λ g. side g && (edge_number faces g == k)) h,
            ap one_if (both_yes (side h) (edge_number faces h == k) here),
          );
    }

pub halves_same : (faces : List (List ℕ)) (side : ℕ → Bool) (h : ℕ) (list : List Ranked) → side h ≡ false
    → AreHalves faces side h list → AreHalves faces side (h + 1) list
halves_same faces side h list other was =
    record {
      each = wider faces side h list was.each;
      once = λ g. was.once g ∙ once_same g h side other;
      counts = λ k.
          omega (
            arith,
            was.counts k,
            below_next (λ g. side g && (edge_number faces g == k)) h,
            ap one_if (both_no (side h) (edge_number faces h == k) other),
          );
    }

pub halves_none : (faces : List (List ℕ)) (side : ℕ → Bool) → AreHalves faces side 0 []
halves_none faces side =
    record {
      each = λ i d l. absurd (omega arith);
      once = λ h. sym (ap (λ (b : Bool). one_if (b && side h)) (less_no h 0 (omega arith)));
      counts = λ k. refl;
    }

-- sorted by edge and rank, so by edge
pub by_edge : (faces : List (List ℕ)) (side : ℕ → Bool) (n : ℕ) (list : List Ranked) → AreHalves faces side n list
    → IsNonDecreasingBy order_of list → IsNonDecreasingBy side_edge list
by_edge faces side n list halves sorted i j d l m =
    omega (arith, sorted i j d l m, (halves.each i d (omega arith)).rank, (halves.each j d m).rank)

along_zero : (u v a b : ℕ) → ((u ≡ a) × (v ≡ b) → ⊥) → along u v a b ≡ 0
along_zero u v a b not =
    elim (cases_eq (along u v a b) 0) [ inl e ↦ e | inr some ↦ absurd (not (along_some u v a b some)) ]

module _ (faces : List (List ℕ)) (each : All (IsFace (2 ^ 32)) faces) where
  in_32 : (h : ℕ) → h < 3 * length faces → start faces h < 2 ^ 32
  in_32 h l = start_in (2 ^ 32) faces each h l

  end_32 : (h : ℕ) → h < 3 * length faces → start faces (behind h) < 2 ^ 32
  end_32 h l = in_32 (behind h) (behind_within h (length faces) l)

  module _ (k : ℕ) where
    u : ℕ
    u = k / 4294967296

    v : ℕ
    v = k % 4294967296

    is_k : k / 4294967296 * 4294967296 + k % 4294967296 ≡ k
    is_k = omega arith

    v_small : k % 4294967296 < 2 ^ 32
    v_small = omega arith

    up : (h : ℕ) → one_if (rises faces h && (edge_number faces h == k)) ≡ 0 ⊎ (
        (start faces h < start faces (behind h)) × (start faces h * 4294967296 + start faces (behind h) ≡ k)
        × (one_if (rises faces h && (edge_number faces h == k)) ≡ 1))
    up h =
        elim (cases_lt (start faces h) (start faces (behind h))) [
          | inl l ↦
              elim (cases_eq (edge_number faces h) k) [
                | inl e ↦
                    inr (
                      l,
                      sym (number_up faces h l) ∙ e,
                      ap one_if (both_yes (rises faces h) (edge_number faces h == k) (rises_yes faces h l)) ∙ hit_yes (edge_number faces h) k e,
                    )
                | inr ne ↦
                    inl (ap one_if (both_yes (rises faces h) (edge_number faces h == k) (rises_yes faces h l))
                    ∙ hit_no (edge_number faces h) k ne)
              ]
          | inr m ↦ inl (ap one_if (both_no (rises faces h) (edge_number faces h == k) (rises_no faces h m)))
        ]

    down : (h : ℕ) → one_if (falls faces h && (edge_number faces h == k)) ≡ 0 ⊎ (
        (start faces (behind h) ≤ start faces h) × (start faces (behind h) * 4294967296 + start faces h ≡ k)
        × (one_if (falls faces h && (edge_number faces h == k)) ≡ 1))
    down h =
        elim (cases_lt (start faces h) (start faces (behind h))) [
          | inl l ↦ inl (ap one_if (both_no (falls faces h) (edge_number faces h == k) (falls_no faces h l)))
          | inr m ↦
              elim (cases_eq (edge_number faces h) k) [
                | inl e ↦
                    inr (
                      m,
                      sym (number_down faces h m) ∙ e,
                      ap one_if (both_yes (falls faces h) (edge_number faces h == k) (falls_yes faces h m)) ∙ hit_yes (edge_number faces h) k e,
                    )
                | inr ne ↦
                    inl (ap one_if (both_yes (falls faces h) (edge_number faces h == k) (falls_yes faces h m))
                    ∙ hit_no (edge_number faces h) k ne)
              ]
        ]

    -- half edges of one side have this number where faces have the edge one way
    up_along : k / 4294967296 < k % 4294967296 → (h : ℕ) → h < 3 * length faces
        → one_if (rises faces h && (edge_number faces h == k)) ≡ along (k / 4294967296) (k % 4294967296) (start faces h) (start faces (behind h))
    up_along less h l =
        elim (up h) [
          | inl none ↦
              none
              ∙ sym (along_zero (k / 4294967296) (k % 4294967296) (start faces h) (start faces (behind h))
              (λ e. unlike e none))
          | inr (rise, number, one) ↦
              let parts =
              key_parts (start faces h) (start faces (behind h)) (k / 4294967296) (k % 4294967296) (end_32 h l) v_small
              (number ∙ sym is_k) in
              one ∙ sym (along_one (k / 4294967296) (k % 4294967296) (start faces h) (start faces (behind h)) (sym parts.0) (sym parts.1))
        ]
      where
        unlike : (k / 4294967296 ≡ start faces h) × (k % 4294967296 ≡ start faces (behind h))
            → one_if (rises faces h && (edge_number faces h == k)) ≡ 0 → ⊥
        unlike (e, f) none =
            let rise : start faces h < start faces (behind h) = omega arith in
            let number : edge_number faces h ≡ k = number_up faces h rise ∙ omega arith in
            let one : one_if (rises faces h && (edge_number faces h == k)) ≡ 1 =
            ap one_if (both_yes (rises faces h) (edge_number faces h == k) (rises_yes faces h rise)) ∙ hit_yes (edge_number faces h) k number in
            omega arith

    down_along : k / 4294967296 < k % 4294967296 → (h : ℕ) → h < 3 * length faces
        → one_if (falls faces h && (edge_number faces h == k)) ≡ along (k % 4294967296) (k / 4294967296) (start faces h) (start faces (behind h))
    down_along less h l =
        elim (down h) [
          | inl none ↦
              none
              ∙ sym (along_zero (k % 4294967296) (k / 4294967296) (start faces h) (start faces (behind h))
              (λ e. unlike e none))
          | inr (fall, number, one) ↦
              let parts =
              key_parts (start faces (behind h)) (start faces h) (k / 4294967296) (k % 4294967296) (in_32 h l) v_small
              (number ∙ sym is_k) in
              one ∙ sym (along_one (k % 4294967296) (k / 4294967296) (start faces h) (start faces (behind h)) (sym parts.1) (sym parts.0))
        ]
      where
        unlike : (k % 4294967296 ≡ start faces h) × (k / 4294967296 ≡ start faces (behind h))
            → one_if (falls faces h && (edge_number faces h == k)) ≡ 0 → ⊥
        unlike (e, f) none =
            let fall : start faces (behind h) ≤ start faces h = omega arith in
            let number : edge_number faces h ≡ k = number_down faces h fall ∙ omega arith in
            let one : one_if (falls faces h && (edge_number faces h == k)) ≡ 1 =
            ap one_if (both_yes (falls faces h) (edge_number faces h == k) (falls_yes faces h fall)) ∙ hit_yes (edge_number faces h) k number in
            omega arith

    -- no half edge has a number whose first part is not the smaller
    up_none : k % 4294967296 ≤ k / 4294967296 → (h : ℕ) → h < 3 * length faces
        → one_if (rises faces h && (edge_number faces h == k)) ≡ 0
    up_none more h l =
        elim (up h) [
          | inl none ↦ none
          | inr (rise, number, one) ↦
              let parts =
              key_parts (start faces h) (start faces (behind h)) (k / 4294967296) (k % 4294967296) (end_32 h l) v_small
              (number ∙ sym is_k) in
              absurd (omega (arith, parts.0, parts.1))
        ]

    down_none : ((h : ℕ) → h < 3 * length faces → start faces (behind h) ≢ start faces h) → k % 4294967296 ≤ k / 4294967296 → (h : ℕ)
        → h < 3 * length faces → one_if (falls faces h && (edge_number faces h == k)) ≡ 0
    down_none away more h l =
        elim (down h) [
          | inl none ↦ none
          | inr (fall, number, one) ↦
              let parts =
              key_parts (start faces (behind h)) (start faces h) (k / 4294967296) (k % 4294967296) (in_32 h l) v_small
              (number ∙ sym is_k) in
              absurd (away h l (omega (arith, parts.0, parts.1)))
        ]

  none_sum : (f : ℕ → ℕ) (n : ℕ) → ((h : ℕ) → h < n → f h ≡ 0) → sum_below f n ≡ 0
  none_sum f zero none = sum_none f
  none_sum f (suc n) none = omega (arith, sum_next f n, none_sum f n (λ h l. none h (omega arith)), none n (omega arith))

  -- in a closed mesh both sides have each number equally often
  module _ (closed : IsBalanced faces) (there back : List Ranked) (up_side : AreHalves faces (rises faces) (3 * length faces) there)
      (down_side : AreHalves faces (falls faces) (3 * length faces) back) where
    equally : (k : ℕ) → hits side_edge k there ≡ hits side_edge k back
    equally k =
        up_side.counts k
        ∙ (count_below (λ h. rises faces h && (edge_number faces h == k)) (3 * length faces)
        ∙ (sums
        ∙ sym (down_side.counts k ∙ count_below (λ h. falls faces h && (edge_number faces h == k)) (3 * length faces))))
      where
        sums : sum_below (λ h. one_if (rises faces h && (edge_number faces h == k))) (3 * length faces)
            ≡ sum_below (λ h. one_if (falls faces h && (edge_number faces h == k))) (3 * length faces)
        sums =
            elim (cases_lt (k / 4294967296) (k % 4294967296)) [
              | inl less ↦
                  sum_same (λ h. one_if (rises faces h && (edge_number faces h == k))) (runs faces (k / 4294967296) (k % 4294967296))
                  (3 * length faces) (up_along k less)
                  ∙ (by_faces faces (2 ^ 32) (k / 4294967296) (k % 4294967296) each
                  ∙ (sym (count_all (k / 4294967296) (k % 4294967296) faces)
                  ∙ (closed (k / 4294967296) (k % 4294967296)
                  ∙ (count_all (k % 4294967296) (k / 4294967296) faces
                  ∙ (sym (by_faces faces (2 ^ 32) (k % 4294967296) (k / 4294967296) each)
                  ∙ sym (sum_same (λ h. one_if (falls faces h && (edge_number faces h == k)))
                  (runs faces (k % 4294967296) (k / 4294967296)) (3 * length faces) (down_along k less)))))))
              | inr more ↦
                  none_sum (λ h. one_if (rises faces h && (edge_number faces h == k))) (3 * length faces) (up_none k more)
                  ∙ sym (none_sum (λ h. one_if (falls faces h && (edge_number faces h == k))) (3 * length faces)
                  (down_none k (ends_away (2 ^ 32) faces each) more))
            ]

    module _ (one : IsNonDecreasingBy order_of there) (other : IsNonDecreasingBy order_of back) where
      same_edges : map side_edge there ≡ map side_edge back
      same_edges =
          same_keys side_edge there back (by_edge faces (rises faces) (3 * length faces) there up_side one)
          (by_edge faces (falls faces) (3 * length faces) back down_side other) equally

      as_many : length there ≡ length back
      as_many = sym (length-map there side_edge) ∙ (ap length same_edges ∙ length-map back side_edge)

      one_edge : (i : ℕ) → i < length there → side_edge (ranked_in there i) ≡ side_edge (ranked_in back i)
      one_edge i l =
          sym (get_or-map side_edge there i no_half 0 l)
          ∙ (ap (λ (es : List ℕ). get_or es i 0) same_edges ∙ get_or-map side_edge back i no_half 0 (omega (arith, as_many)))

      pub all_paired : (twins : List ℕ) → length twins ≡ 3 * length faces → AreTwinsByIndex there back twins → ArePaired faces twins
      all_paired twins count linked = record { count = count; each = λ h l. twin h (omega arith) }
        where
          start_up : (i : ℕ) (l : i < length there) → (start faces (half_number (ranked_in there i)) < start faces (behind (half_number (ranked_in there i))))
              ⊎ (rises faces (half_number (ranked_in there i)) ≡ false)
          start_up i l =
              elim (cases_lt (start faces (half_number (ranked_in there i))) (start faces (behind (half_number (ranked_in there i))))) [
                | inl m ↦ inl m
                | inr m ↦ inr (rises_no faces (half_number (ranked_in there i)) m)
              ]

          goes_up : (i : ℕ) → i < length there → start faces (half_number (ranked_in there i)) < start faces (behind (half_number (ranked_in there i)))
          goes_up i l =
              elim (start_up i l) [
                | inl m ↦ m
                | inr other ↦ absurd (false≢true (sym other ∙ (half_at faces (rises faces) (3 * length faces) there up_side i l).here))
              ]

          goes_down : (i : ℕ) → i < length back → start faces (behind (half_number (ranked_in back i))) ≤ start faces (half_number (ranked_in back i))
          goes_down i l =
              elim (cases_lt (start faces (half_number (ranked_in back i))) (start faces (behind (half_number (ranked_in back i))))) [
                | inl m ↦
                    absurd (false≢true (sym (falls_no faces (half_number (ranked_in back i)) m)
                    ∙ (half_at faces (falls faces) (3 * length faces) back down_side i l).here))
                | inr m ↦ m
              ]

          -- the two begin where the other ends
          ends : (i : ℕ) → i < length there
              → (start faces (half_number (ranked_in back i)) ≡ start faces (behind (half_number (ranked_in there i))))
              × (start faces (half_number (ranked_in there i)) ≡ start faces (behind (half_number (ranked_in back i))))
          ends i l =
              let m : i < length back = omega (arith, as_many) in
              let a = half_at faces (rises faces) (3 * length faces) there up_side i l in
              let b = half_at faces (falls faces) (3 * length faces) back down_side i m in
              let parts =
              key_parts (start faces (half_number (ranked_in there i))) (start faces (behind (half_number (ranked_in there i))))
              (start faces (behind (half_number (ranked_in back i)))) (start faces (half_number (ranked_in back i)))
              (end_32 (half_number (ranked_in there i)) a.within) (in_32 (half_number (ranked_in back i)) b.within)
              (sym (number_up faces (half_number (ranked_in there i)) (goes_up i l))
              ∙ (sym a.number ∙ (one_edge i l ∙ (b.number ∙ number_down faces (half_number (ranked_in back i)) (goes_down i m))))) in
              (sym parts.1, parts.0)

          twin_up : (i : ℕ) → i < length there → IsTwin faces twins (half_number (ranked_in there i))
          twin_up i l =
              let m : i < length back = omega (arith, as_many) in
              let t = linked i l m in
              let b = half_at faces (falls faces) (3 * length faces) back down_side i m in
              record {
                within = omega (arith, t.0, b.within, count);
                other = λ e.
                    let same : half_number (ranked_in back i) ≡ half_number (ranked_in there i) = sym t.0 ∙ e in
                    omega (
                      arith,
                      goes_up i l,
                      goes_down i m,
                      ap (start faces) same,
                      ap (λ (h : ℕ). start faces (behind h)) same,
                    );
                back = ap (λ (h : ℕ). get_or twins h 0) t.0 ∙ t.1;
                edge = ap (start faces) t.0 ∙ (ends i l).0;
              }

          twin_down : (i : ℕ) → i < length back → IsTwin faces twins (half_number (ranked_in back i))
          twin_down i m =
              let l : i < length there = omega (arith, as_many) in
              let t = linked i l m in
              let a = half_at faces (rises faces) (3 * length faces) there up_side i l in
              record {
                within = omega (arith, t.1, a.within, count);
                other = λ e.
                    let same : half_number (ranked_in there i) ≡ half_number (ranked_in back i) = sym t.1 ∙ e in
                    omega (
                      arith,
                      goes_up i l,
                      goes_down i m,
                      ap (start faces) same,
                      ap (λ (h : ℕ). start faces (behind h)) same,
                    );
                back = ap (λ (h : ℕ). get_or twins h 0) t.1 ∙ t.0;
                edge = ap (start faces) t.1 ∙ (ends i l).1;
              }

          twin : (h : ℕ) → h < 3 * length faces → IsTwin faces twins h
          twin h l =
              elim (cases_lt (start faces h) (start faces (behind h))) [
                | inl rise ↦
                    let at = index_of faces (rises faces) (3 * length faces) there up_side h l (rises_yes faces h rise) in
                    subst (IsTwin faces twins) at.2 (twin_up at.0 at.1)
                | inr fall ↦
                    let at = index_of faces (falls faces) (3 * length faces) back down_side h l (falls_yes faces h fall) in
                    subst (IsTwin faces twins) at.2 (twin_down at.0 at.1)
              ]
