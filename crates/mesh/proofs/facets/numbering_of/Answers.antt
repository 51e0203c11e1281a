-- The points of marked places, and of each place how many marked ones stand before it.
--
-- Behind v places the points are those of the marked ones among them, and the numbers those of all v. One place more adds
-- its point where it is marked (points_more) and its number in any case, which is how many points there are already
-- (numbers_more). So a number fits 32 bits, as there are no more points than places.
use Rattle.std.proofs.Common.{ℕ, ◌≡◌, ◌+◌, ◌++◌, ◌∙◌, refl, ap, sym, arith, false, true, Bool, List, [], ◌∷◌, cond, get_or}
use Rattle.std.proofs.Common.{length, map}
use Rattle.std.proofs.lemmas.List.{length-map, map-append, append-nil, get_or_read}
use Rattle.geo_sign.specs.Point.{Point, origin}
use Rattle.mesh.specs.Meshes.{below, point_at}
use Rattle.mesh.specs.Marks.{marked, number_among}
use Rattle.mesh.proofs.Vertices.{below_more, filter_below_more, length_filter_below}
use Rattle.mesh.proofs.facets.numbering_of.Goals as goal
use Rattle.mesh.proofs.facets.numbering_of.Goals.{then-marks-v+in_ok-push-2, else-marks-v}

pub overflow_cast-len : goal.overflow_cast-len
overflow_cast-len c =
    let marks = c.args.marks.now in
    let places = c.args.places.now in
    let v = c.loop-v.v in
    omega (
      arith,
      ap (λ (t : List Point). length t) c.loop-v.invariant.0,
      length-map (marked marks v) (point_at places),
      length_filter_below (λ u. get_or marks u false) v,
      c.requires.few,
    )

-- one vertex more, with its mark
points_more : (places : List Point) (marks : List Bool) (v : ℕ) (b : Bool) → get_or marks v false ≡ b
    → map (point_at places) (marked marks (v + 1))
    ≡ map (point_at places) (marked marks v) ++ cond b (point_at places v ∷ []) []
points_more places marks v b e =
    ap (map (point_at places)) (filter_below_more (λ u. get_or marks u false) v)
    ∙ (map-append (point_at places) (marked marks v) (cond (get_or marks v false) (v ∷ []) [])
    ∙ ap (λ (t : List Point). map (point_at places) (marked marks v) ++ t) (last (get_or marks v false) b e))
  where
    last : (a b : Bool) → a ≡ b → map (point_at places) (cond a (v ∷ []) []) ≡ cond b (point_at places v ∷ []) []
    last true true e = refl
    last true false e = absurd (cc)
    last false true e = absurd (cc)
    last false false e = refl

numbers_more : (marks : List Bool) (v : ℕ)
    → map (number_among marks) (below (v + 1)) ≡ map (number_among marks) (below v) ++ number_among marks v ∷ []
numbers_more marks v = ap (map (number_among marks)) (below_more v) ∙ map-append (number_among marks) (below v) (v ∷ [])

pub loop-v-preserved : goal.loop-v-preserved
loop-v-preserved c =
    let places = c.args.places.now in
    let marks = c.args.marks.now in
    let v = c.loop-v.v in
    let numbers : c.push.new.self.items ≡ map (number_among marks) (below (v + 1)) =
    let size : c.len.result ≡ number_among marks v =
    omega (arith, ap (λ (t : List Point). length t) c.loop-v.invariant.0, length-map (marked marks v) (point_at places)) in
    c.in_ok-push.ensures.items ∙ (ap (λ (t : List ℕ). t ++ c.len.result ∷ []) c.loop-v.invariant.1
    ∙ (ap (λ (i : ℕ). map (number_among marks) (below v) ++ i ∷ []) size ∙ sym (numbers_more marks v))) in
    let item : c.index-places-v.result ≡ point_at places v =
    get_or_read places _ _ c.loop-v-test.true c.index-places-v.is origin in
    elim c.if-marks-v.branch [
      | then-marks-v+in_ok-push-2 w ↦
          let here : c.if-marks-v.points.items ≡ c.loop-v.points.items ++ c.index-places-v.result ∷ [] =
          cc (w.in_ok-push-2.ensures.items) in (
            here ∙ (ap (λ (t : List Point). t ++ c.index-places-v.result ∷ []) c.loop-v.invariant.0
                ∙ (ap (λ (p : Point). map (point_at places) (marked marks v) ++ p ∷ []) item
                ∙ sym (points_more places marks v true w.if-marks-v.true))),
            numbers,
          )
      | else-marks-v w ↦
          let here : c.if-marks-v.points.items ≡ c.loop-v.points.items = cc in (
            here ∙ (c.loop-v.invariant.0
                ∙ sym (points_more places marks v false w.if-marks-v.false
                ∙ append-nil (map (point_at places) (marked marks v)))),
            numbers,
          )
    ]
