-- The indices of points in a list, and of rows among their distinct points.
use Rattle.std.proofs.Common.{ℕ, ◌≡◌, ◌<◌, true, Some, refl, ap, sym, ◌∙◌, arith, List, [], ◌∷◌, ◌++◌, length, get_or, map, All}
use Rattle.std.proofs.Common.{Contains}
use Rattle.std.specs.List.{list_any}
use Rattle.std.proofs.lemmas.Bool.{false≢true, eqb-true}
use Rattle.std.proofs.lemmas.Option.{slice_get-get_or}
use Rattle.std.proofs.lemmas.List.{map-append}
use Rattle.std.proofs.lemmas.List.Elements.{All-weaker, All-head, All-tail}
use Rattle.std.proofs.lemmas.List.Folds.{position_or_len_push}
use Rattle.std.proofs.lemmas.List.Sums.{passes_at_first}
use Rattle.std.proofs.lemmas.Map.Views.{list_any-from_Contains}
use Rattle.indexmap.specs.IndexSet.{insert_key}
use Rattle.geo_sign.specs.Point.{Point}
use Rattle.merge.specs.Merging.{is_same_point, distinct_points, index_among}
use Rattle.merge.specs.Laws.{StandsAt, EachRowHasAnIndex}
use Rattle.merge.proofs.Distinct.{same_is, same_self, same_equivalence, each_row, distinct_push}

-- ---- a point of a list

below_length : (points : List Point) (p : Point) → list_any (is_same_point p) points ≡ true
    → index_among points p < length points
below_length [] p e = absurd (false≢true e)
below_length (first ∷ rest) p e = grind (arith, below_length rest p)

-- a point of a list is at its place
pub stands : (points : List Point) (p : Point) → Contains points p → StandsAt points p
stands points p there =
    let below : index_among points p < length points =
    below_length points p (list_any-from_Contains same_equivalence p points there) in
    let at : p ≡ get_or points (index_among points p) p =
    same_is p (get_or points (index_among points p) p) (passes_at_first (is_same_point p) points p below) in
    (below, slice_get-get_or points (index_among points p) p below ∙ ap Some (sym at))

pub each_stands : EachRowHasAnIndex
each_stands rows = grind (arith, All-weaker, stands, each_row)

-- ---- a point more

-- a point keeps its place
index_kept : (points : List Point) (p q : Point) → index_among points q < length points
    → index_among (insert_key is_same_point points p) q ≡ index_among points q
index_kept points p q below = grind (arith, eqb-true, position_or_len_push)

-- the point that comes is where it was looked for
index_found : (points : List Point) (p : Point) → index_among (insert_key is_same_point points p) p ≡ index_among points p
index_found points p = grind (arith, same_self, eqb-true, position_or_len_push)

map_agree : (f g : Point → ℕ) (rows : List Point) → All (λ p. f p ≡ g p) rows → map f rows ≡ map g rows
map_agree f g [] h = refl
map_agree f g (p ∷ rest) h = grind (arith, All-head, All-tail, map_agree f g rest (All-tail (λ q. f q ≡ g q) p rest h))

-- the indices of rows, with those of a row more
pub indices_push : (rows : List Point) (p : Point)
    → map (index_among (distinct_points (rows ++ p ∷ []))) (rows ++ p ∷ [])
    ≡ map (index_among (distinct_points rows)) rows ++ index_among (distinct_points rows) p ∷ []
indices_push rows p =
    let points : List Point = distinct_points rows in
    let more : List Point = insert_key is_same_point points p in
    ap (λ (list : List Point). map (index_among list) (rows ++ p ∷ [])) (distinct_push rows p)
    ∙ map-append (index_among more) rows (p ∷ [])
    ∙ ap (λ (list : List ℕ). list ++ index_among more p ∷ [])
    (map_agree (index_among more) (index_among points) rows
    (All-weaker (StandsAt points) (λ q. index_among more q ≡ index_among points q) (λ q h. index_kept points p q h.0) rows
    (each_stands rows)))
    ∙ ap (λ (n : ℕ). map (index_among points) rows ++ n ∷ []) (index_found points p)
