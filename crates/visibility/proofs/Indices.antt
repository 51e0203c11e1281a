-- Places in lists of rows, and sums over lists as sums over indices.
use Rattle.std.proofs.Common.{ℕ, ◌<◌, ◌≡◌, refl, ap, sym, ◌∙◌, arith, Bool, true, ⊎_elim, List, [], ◌∷◌, length, get_or, map}
use Rattle.std.proofs.Common.{AllPairs, Contains}
use Rattle.std.specs.List.{Any, position_or_len}
use Rattle.std.specs.Str.{bytes_eq}
use Rattle.std.proofs.lemmas.Slice.Eq.{bytes_eq-Decides}
use Rattle.std.proofs.Math.Nat.{lt_of_not-le}
use Rattle.std.proofs.lemmas.Bool.{false_from_ne_true}
use Rattle.std.proofs.lemmas.List.{get_or-map, get_or_default, length-map, same_lists}
use Rattle.std.specs.List.Sorted.{IsPermutation}
use Rattle.std.proofs.lemmas.Map.Keys.{IsDistinct-IsPermutation}
use Rattle.std.proofs.lemmas.Map.Made.{AllPairs-from_IsDistinct, IsDistinct-from_AllPairs}
use Rattle.std.proofs.lemmas.List.Sums.{position_or_len_is, fails_before_first}
use Rattle.geo_sign.proofs.Booleans.{same_bools}
use Rattle.geo_sign.specs.Rising.{IsBefore}
use Rattle.visibility.specs.Laws.{row_index}
use Rattle.visibility.specs.Listings.{AreOnce}

-- no row is before itself
pub not_before_itself : (xs : List ℕ) → IsBefore xs xs → ⊥
not_before_itself [] h = h
not_before_itself (x ∷ xs) h =
    ⊎_elim (λ (l : x < x). absurd (omega arith)) (λ (p : (x ≡ x) × IsBefore xs xs). not_before_itself xs p.1) h

-- rising rows stand once
pub once_rising : (rows : List (List ℕ)) → AllPairs IsBefore rows → AreOnce rows
once_rising rows r i j d l m e = grind (arith, not_before_itself, r i j d l m)

-- rows that stand once, at two indices
pub same_index : (rows : List (List ℕ)) (i j : ℕ) → AreOnce rows → i < length rows → j < length rows
    → get_or rows i [] ≡ get_or rows j [] → i ≡ j
same_index rows i j r li lj e = grind arith

-- and so in another order
pub once_permuted : (xs ys : List (List ℕ)) → IsPermutation xs ys → AreOnce xs → AreOnce ys
once_permuted xs ys p h =
    AllPairs-from_IsDistinct bytes_eq-Decides ys
    (IsDistinct-IsPermutation bytes_eq flips xs ys p (IsDistinct-from_AllPairs bytes_eq-Decides xs h))
  where
    flips : (a b : List ℕ) → bytes_eq a b ≡ bytes_eq b a
    flips a b =
        same_bools (bytes_eq a b) (bytes_eq b a)
        (λ h. (bytes_eq-Decides b a).1 (sym ((bytes_eq-Decides a b).0 h)))
        (λ h. (bytes_eq-Decides a b).1 (sym ((bytes_eq-Decides b a).0 h)))

-- the first index where a test holds is within the list, where it holds somewhere
pub first_within : {X : Type 0} (p : X → Bool) (xs : List X) → Any (λ x. p x ≡ true) xs → position_or_len p xs < length xs
first_within p xs h = grind (arith, lt_of_not-le, fails_before_first)

-- the index of a row that stands once
pub row_index_at : (rows : List (List ℕ)) (k : ℕ) → AreOnce rows → k < length rows → row_index rows (get_or rows k []) ≡ k
row_index_at rows k r l =
    position_or_len_is (λ other. bytes_eq other (get_or rows k [])) rows k [] (omega arith)
    (λ i m. false_from_ne_true (bytes_eq (get_or rows i []) (get_or rows k []))
    (λ h. r i k [] m l ((bytes_eq-Decides (get_or rows i []) (get_or rows k [])).0 h)))
    (λ m. (bytes_eq-Decides (get_or rows k []) (get_or rows k [])).1 refl)

-- what stands at the indices of rows that stand once, as a function of the rows
pub map_of_indices : {X : Type 0} (rows : List (List ℕ)) (xs : List X) (d : X) → AreOnce rows → length xs ≡ length rows
    → map (λ row. get_or xs (row_index rows row) d) rows ≡ xs
map_of_indices {X} rows xs d r e =
    let f : List ℕ → X = λ row. get_or xs (row_index rows row) d in
    same_lists (map f rows) xs (length-map rows f ∙ sym e)
    (λ k c l. let m : k < length rows = omega (arith, l, length-map rows f) in
    get_or-map f rows k [] c m ∙ ap (λ (n : ℕ). get_or xs n d) (row_index_at rows k r m)
    ∙ get_or_default xs k d c (omega arith))

-- an element of a list is at an index
pub at_index : (rows : List (List ℕ)) (row : List ℕ) (h : Contains rows row) → get_or rows h.0 [] ≡ row
at_index rows row h = get_or_default rows h.0 [] row h.1 ∙ h.2

-- and what is at an index is an element
pub index_has : (rows : List (List ℕ)) (k : ℕ) → k < length rows → Contains rows (get_or rows k [])
index_has rows k l = (k, l, get_or_default rows k (get_or rows k []) [] l)
