-- Orders, and what keeps them.
--
-- A permutation is made of exchanges of two elements, and one exchange keeps that each number below n stands in the list once:
-- what stands at an index now stood at one index before (`turn`), and exchanging again leads back. So sorting keeps it
-- (`permuted`). The list that is sorted starts as the numbers in order, each with its rank; the rank has the key above 32 bits
-- of the number, so that rising ranks are rising keys, with the numbers of one key rising (`by_key`).
use Rattle.std.proofs.Common.{ℕ, zero, suc, ◌≡◌, ◌≢◌, ◌<◌, ◌≤◌, ◌+◌, ◌*◌, List, [], ◌∷◌, length, map, refl, sym, ap, ◌∙◌}
use Rattle.std.proofs.Common.{⊎_elim, subst, arith, get_or, set, slice_index, slice_index_or}
use Rattle.std.specs.List.{swap}
use Rattle.std.specs.List.Sorted.{IsPermutation, IsNonDecreasingBy}
use Rattle.std.proofs.lemmas.Bool.{cases_eq, cases_lt}
use Rattle.std.proofs.lemmas.List.{get_or-set_same, get_or-set_other}
use Rattle.std.proofs.lemmas.List.Edits.{swap_is, length-swap}
use Rattle.std.proofs.lemmas.List.Sorted.{IsPermutation-map, IsPermutation-keeps, All-permutation}
use Rattle.std.proofs.Math.ListN.{length-set}
use Rattle.geo_sign.specs.Point.{Point}
use Rattle.curve_order.specs.declared.sorting.Ranked.{Ranked}
use Rattle.curve_order.specs.Order.{IsOrder, IsByKey}
use Rattle.curve_order.specs.Curve.{key_in}
use Rattle.curve_order.specs.Ranks.{rank_in, the_rank, the_number, AreRanked}

-- where an element of a list with two exchanged stood before
record IsMoved (i j k m : ℕ) : Type 0 where
  first : k ≡ i → m ≡ j
  second : k ≡ j → m ≡ i
  other : k ≢ i → k ≢ j → m ≡ k

turn : (i j k : ℕ) → (m : ℕ) × IsMoved i j k m
turn i j k =
    ⊎_elim (λ (e : k ≡ i).
    ⊎_elim (λ (f : k ≡ j).
    (j, record { first = λ _. refl; second = λ g. (let q : j ≡ i = sym g ∙ e in q); other = λ n m. absurd (n e) }))
    (λ (f : k ≢ j). (j, record { first = λ _. refl; second = λ g. absurd (f g); other = λ n m. absurd (n e) })) (cases_eq k j))
    (λ (e : k ≢ i). ⊎_elim
    (λ (f : k ≡ j). (i, record { first = λ g. absurd (e g); second = λ _. refl; other = λ n m. absurd (m f) }))
    (λ (f : k ≢ j). (k, record { first = λ g. absurd (e g); second = λ g. absurd (f g); other = λ n m. refl })) (cases_eq k j))
    (cases_eq k i)

moved_in : (n i j k m : ℕ) → i < n → j < n → k < n → IsMoved i j k m → m < n
moved_in n i j k m i_in j_in k_in h =
    ⊎_elim (λ (e : k ≡ i). let q = h.first e in omega arith)
    (λ (e : k ≢ i). ⊎_elim (λ (f : k ≡ j). let q = h.second f in omega arith)
    (λ (f : k ≢ j). let q = h.other e f in omega arith) (cases_eq k j)) (cases_eq k i)

moved_back : (i j k l m : ℕ) → IsMoved i j k m → IsMoved i j l m → k ≡ l
moved_back i j k l m h o =
    ⊎_elim
    (λ (e : k ≡ i).
    let q = h.first e in
    ⊎_elim (λ (f : l ≡ i). e ∙ sym f)
    (λ (f : l ≢ i). ⊎_elim (λ (g : l ≡ j). let r = o.second g in omega arith)
    (λ (g : l ≢ j). let r = o.other f g in absurd (omega arith)) (cases_eq l j)) (cases_eq l i))
    (λ (e : k ≢ i).
    ⊎_elim
    (λ (f : k ≡ j).
    let q = h.second f in
    ⊎_elim (λ (g : l ≡ i). let r = o.first g in omega arith)
    (λ (g : l ≢ i). ⊎_elim (λ (x : l ≡ j). f ∙ sym x) (λ (x : l ≢ j). let r = o.other g x in absurd (omega arith))
    (cases_eq l j)) (cases_eq l i))
    (λ (f : k ≢ j).
    let q = h.other e f in
    ⊎_elim (λ (g : l ≡ i). let r = o.first g in absurd (omega arith))
    (λ (g : l ≢ i). ⊎_elim (λ (x : l ≡ j). let r = o.second x in absurd (omega arith))
    (λ (x : l ≢ j). let r = o.other g x in omega arith) (cases_eq l j)) (cases_eq l i)) (cases_eq k j)) (cases_eq k i)

moved_again : (i j k m : ℕ) → IsMoved i j k m → IsMoved i j m k
moved_again i j k m h =
    ⊎_elim (λ (e : k ≡ i). let q = h.first e in
    record { first = λ f. (omega arith); second = λ f. e; other = λ f g. absurd (g q) })
    (λ (e : k ≢ i).
    ⊎_elim (λ (f : k ≡ j). let q = h.second f in
    record { first = λ g. f; second = λ g. (omega arith); other = λ g x. absurd (g q) })
    (λ (f : k ≢ j). let q = h.other e f in
    record { first = λ g. absurd (e (sym q ∙ g)); second = λ g. absurd (f (sym q ∙ g)); other = λ g x. sym q }) (cases_eq k j))
    (cases_eq k i)

swap_at : (l : List ℕ) (i j k m : ℕ) → i < length l → j < length l → IsMoved i j k m
    → slice_index (swap l i j) k ≡ slice_index l m
swap_at l i j k m i_in j_in h =
    let w : slice_index (swap l i j) k ≡ slice_index (set (set l i (get_or l j 0)) j (get_or l i 0)) k =
    ap (λ (z : List ℕ). slice_index z k) (sym (swap_is l i j 0 i_in j_in)) in
    let n : length (set l i (get_or l j 0)) ≡ length l = length-set l i (get_or l j 0) in
    ⊎_elim
    (λ (f : k ≡ j).
    w ∙ (ap (λ (z : ℕ). slice_index (set (set l i (get_or l j 0)) j (get_or l i 0)) z) f
    ∙ (get_or-set_same (set l i (get_or l j 0)) j (get_or l i 0) 0 (omega arith)
    ∙ ap (λ (z : ℕ). get_or l z 0) (sym (h.second f)))))
    (λ (f : k ≢ j).
    w ∙ (get_or-set_other (set l i (get_or l j 0)) j k (get_or l i 0) 0 f ∙
    ⊎_elim (λ (e : k ≡ i). ap (λ (z : ℕ). slice_index (set l i (get_or l j 0)) z) e
    ∙ (get_or-set_same l i (get_or l j 0) 0 i_in ∙ ap (λ (z : ℕ). get_or l z 0) (sym (h.first e))))
    (λ (e : k ≢ i). get_or-set_other l i k (get_or l j 0) 0 e ∙ ap (λ (z : ℕ). get_or l z 0) (sym (h.other e f)))
    (cases_eq k i))) (cases_eq k j)

swapped : (n : ℕ) (l : List ℕ) (i j : ℕ) → i < length l → j < length l → IsOrder n l → IsOrder n (swap l i j)
swapped n l i j i_in j_in h =
    let c = h.count in
    let at : (k : ℕ) → slice_index (swap l i j) k ≡ slice_index l (turn i j k).0 =
    λ k. swap_at l i j k (turn i j k).0 i_in j_in (turn i j k).1 in
    let in_range : (k : ℕ) → k < n → (turn i j k).0 < n =
    λ k l. moved_in n i j k (turn i j k).0 (omega arith) (omega arith) l (turn i j k).1 in
    record {
      count = length-swap l i j ∙ c;
      below = λ k m. subst (λ (z : ℕ). z < n) (sym (at k)) (h.below (turn i j k).0 (in_range k m));
      once = λ a b a_in b_in e.
          (let q : (turn i j a).0 ≡ (turn i j b).0 =
          h.once (turn i j a).0 (turn i j b).0 (in_range a a_in) (in_range b b_in) (sym (at a) ∙ (e ∙ at b)) in
          moved_back i j a b (turn i j b).0 (subst (λ (z : ℕ). IsMoved i j a z) q (turn i j a).1) (turn i j b).1);
      all = λ x x_in.
          (let z = h.all x x_in in
          let t = turn i j z.0 in
          (t.0, in_range z.0 z.1, swap_at l i j t.0 z.0 i_in j_in (moved_again i j z.0 t.0 t.1) ∙ z.2));
    }

-- each number once, in another order
pub permuted : (n : ℕ) (list moved : List ℕ) → IsPermutation list moved → IsOrder n list → IsOrder n moved
permuted n list moved p h =
    IsPermutation-keeps list (λ (z : List ℕ). IsOrder n z) h (λ l i j i_in j_in k. swapped n l i j i_in j_in k) moved p

pub map_length : {X Y : Type 0} (f : X → Y) (xs : List X) → length (map f xs) ≡ length xs
map_length f [] = refl
map_length f (x ∷ xs) = ap suc (map_length f xs)

pub order_of : (points : List Point) (list sorted : List Ranked) (n : ℕ) → AreRanked points list n → IsPermutation list sorted
    → IsOrder n (map the_number sorted)
order_of points list sorted n h p =
    let c : length (map the_number list) ≡ n = map_length the_number list ∙ h.count in
    let start : IsOrder n (map the_number list) =
    record {
      count = c;
      below = λ k l. subst (λ (z : ℕ). z < n) (sym (h.numbers k l)) l;
      once = λ j k l m e. sym (h.numbers j l) ∙ (e ∙ h.numbers k m);
      all = λ i l. (i, l, h.numbers i l);
    } in
    permuted n (map the_number list) (map the_number sorted) (IsPermutation-map the_number list sorted p) start

-- ---- ranks

map_at : (f : Ranked → ℕ) (xs : List Ranked) (k : ℕ) (d : Ranked) → k < length xs
    → slice_index (map f xs) k ≡ f (slice_index_or xs k d)
map_at f [] k d l = absurd (omega arith)
map_at f (x ∷ xs) zero d l = refl
map_at f (x ∷ xs) (suc k) d l = map_at f xs k d (omega arith)

pub rising_of : (points : List Point) (list sorted : List Ranked) (n : ℕ) → AreRanked points list n → IsPermutation list sorted
    → IsNonDecreasingBy the_rank sorted → length sorted ≡ n → (j k : ℕ) → j ≤ k → k < n
    → rank_in points (slice_index (map the_number sorted) j) ≤ rank_in points (slice_index (map the_number sorted) k)
rising_of points list sorted n h p up count j k l k_in =
    let d : Ranked = record { rank = 0; number = 0 } in
    let all = All-permutation (λ (r : Ranked). r.rank ≡ rank_in points r.number) list sorted p h.ranks in
    let at : (m : ℕ) → m < n → rank_in points (slice_index (map the_number sorted) m) ≡ (slice_index_or sorted m d).rank =
    λ m m_in. ap (rank_in points) (map_at the_number sorted m d (omega arith)) ∙ sym (all m d (omega arith)) in
    let u : (slice_index_or sorted j d).rank ≤ (slice_index_or sorted k d).rank = up j k d l (omega arith) in
    let ej = at j (omega arith) in
    let ek = at k k_in in
    omega arith

pub by_key : (points : List Point) (list sorted : List Ranked) (n : ℕ) → n < 4294967296 → AreRanked points list n
    → IsPermutation list sorted → IsNonDecreasingBy the_rank sorted → length sorted ≡ n
    → IsByKey (key_in points) n (map the_number sorted)
by_key points list sorted n small h p up count =
    let is = order_of points list sorted n h p in
    let at : ℕ → ℕ = λ k. slice_index (map the_number sorted) k in
    let rises : (j k : ℕ) → j < k → k < n
    → key_in points (at j) * 4294967296 + at j ≤ key_in points (at k) * 4294967296 + at k =
    λ j k l m. rising_of points list sorted n h p up count j k (omega arith) m in
    record {
      keys = λ j k l m. (let r = rises j k l m in let a = is.below j (omega arith) in let b = is.below k m in omega arith);
      ties = λ j k l m e.
          (let r = rises j k l m in
          ⊎_elim (λ (a : at j < at k). a)
          (λ (a : at k ≤ at j).
          absurd (let q : at j ≡ at k = omega arith in let o = is.once j k (omega arith) m q in omega arith))
          (cases_lt (at j) (at k)));
    }
