-- The set of points seen so far is the list of distinct points of the rows so far.
--
-- The set compares by the derived equality, which is that of the definitions (equals_is), so what it looks up and what it
-- adds are theirs too (any_is, index_is). Each row then adds its point where it is new and its index in any case
-- (points_more, indices_more), and an index that was given stays.
use Rattle.std.proofs.Common.{ℕ, ◌≡◌, ◌<◌, ◌+◌, ◌++◌, Bool, true, cond, refl, rules, [], ◌∷◌, List, map, length, get_or, take}
use Rattle.std.proofs.Common.{ap, sym, ◌∙◌, arith}
use Rattle.std.specs.List.{list_any, position_or_len}
use Rattle.std.proofs.lemmas.List.{take_more, length-take-le}
use Rattle.indexmap.specs.IndexSet.{insert_key}
use Rattle.geo_sign.specs.Point.{Point}
use Rattle.geo_sign.specs.contracts.point.PointPartialEq.TheImpl.{ghosts}
use Rattle.merge.specs.Merging.{is_same_point, distinct_points, index_among}
use Rattle.merge.proofs.Distinct.{same_is, differ_is, distinct_push, few}
use Rattle.merge.proofs.Indices.{indices_push}
use Rattle.merge.proofs.merging.merge.Goals as goal

-- ---- what the set compares points by

same_point : (a b : Point) → ghosts.eq a b ≡ true → a ≡ b
same_point a b h = search rules

equals_itself : (a : Point) → ghosts.eq a a ≡ true
equals_itself a = search rules

equals_is : (a b : Point) → ghosts.eq a b ≡ is_same_point a b
equals_is a b = grind (arith, differ_is, same_point, same_is, equals_itself)

any_is : (p : Point) (points : List Point) → list_any (ghosts.eq p) points ≡ list_any (is_same_point p) points
any_is p [] = refl
any_is p (first ∷ rest) = grind (arith, equals_is, any_is p rest)

index_is : (p : Point) (points : List Point) → position_or_len (ghosts.eq p) points ≡ index_among points p
index_is p [] = refl
index_is p (first ∷ rest) = grind (arith, equals_is, index_is p rest)

-- ---- a row more

-- the points that were seen, with the next row's point
points_more : (rows seen : List Point) (i : ℕ) (p : Point) → i < length rows → p ≡ get_or rows i p
    → seen ≡ distinct_points (take i rows)
    → insert_key ghosts.eq seen p ≡ distinct_points (take (i + 1) rows)
points_more rows seen i p within is kept =
    ap (λ (b : Bool). cond b seen (seen ++ p ∷ [])) (any_is p seen)
    ∙ ap (λ (points : List Point). insert_key is_same_point points p) kept
    ∙ sym (distinct_push (take i rows) p)
    ∙ ap distinct_points (sym (take_more rows i p within ∙ ap (λ (q : Point). take i rows ++ q ∷ []) (sym is)))

-- the rows' indices, with the next row's
indices_more : (rows seen : List Point) (of_row : List ℕ) (i : ℕ) (p : Point) → i < length rows → p ≡ get_or rows i p
    → seen ≡ distinct_points (take i rows)
    → of_row ≡ map (index_among (distinct_points (take i rows))) (take i rows)
    → of_row ++ position_or_len (ghosts.eq p) seen ∷ []
    ≡ map (index_among (distinct_points (take (i + 1) rows))) (take (i + 1) rows)
indices_more rows seen of_row i p within is kept indices =
    ap (λ (n : ℕ). of_row ++ n ∷ []) (index_is p seen)
    ∙ ap (λ (list : List ℕ). list ++ index_among seen p ∷ []) indices
    ∙ ap (λ (points : List Point). map (index_among (distinct_points (take i rows))) (take i rows) ++ index_among points p ∷ [])
    kept
    ∙ sym (indices_push (take i rows) p)
    ∙ ap (λ (list : List Point). map (index_among (distinct_points list)) list)
    (sym (take_more rows i p within ∙ ap (λ (q : Point). take i rows ++ q ∷ []) (sym is)))

pub loop-point-preserved : goal.loop-point-preserved
loop-point-preserved c = grind (arith, points_more, indices_more)

pub overflow_cast-index : goal.overflow_cast-index
overflow_cast-index c = grind (arith, points_more, few, length-take-le)
