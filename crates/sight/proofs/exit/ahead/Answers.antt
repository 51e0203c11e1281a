-- Whichever side a sight goes out through is the one that is answered. In the cell at its vertex it goes out through the side opposite to
-- the vertex, since it crosses no facet that has it (opposite_ahead), and the vertices of a cell are distinct. Else it came in through a
-- facet f, opposite to the vertex d, and goes out through one of the three others (one_of): each leaves one vertex of f behind. Which one is
-- told by the sides of the planes through the sight's vertex, d and each vertex of f on which the scanner is (past_of, for each of the
-- three tests), by the table left_behind (left_ahead). The side opposite to that vertex is what is answered, and with d in its place the
-- front is the facet gone out through, turned (behind_in).
use Rattle.std.proofs.Common.{ℕ, ℤ, ◌≡◌, ◌↔◌, ◌<ℤ◌, pos, IsTrue, arith, get_or, slice_index, sym, subst, inl, inr, refl, ◌∙◌}
use Rattle.std.specs.Int.{is_positive}
use Rattle.geo_sign.specs.Point.{Point, origin}
use Rattle.geo_sign.specs.Rational.{side, displaced}
use Rattle.geo_sign.specs.Tetrahedron.{facet_at, facet_of, vertex_of}
use Rattle.tetra_store.specs.Links.{tetrahedron_from}
use Rattle.tetra_store.specs.Store.{vertices_of}
use Rattle.tetra_store.proofs.Keeps.{vertex_index}
use Rattle.sight.proofs.Exits.{has_own, opposite_ahead, at_vertex, through_side, one_of, left_ahead, positive_so, IsLeftBehind, behind_in, past_of, front_vertex}
use Rattle.sight.proofs.Steps.{cell_at, distinct_at}
use Rattle.sight.specs.Exits.{past}
use Rattle.sight.proofs.exit.ahead.Goals as goal

pub side_opposite-requires : goal.side_opposite-requires
side_opposite-requires c =
    let s = c.args.t.now in let r = c.args.ray.now in let e = c.args.reached.now in let w = c.requires.walking in
    let v = vertices_of s in let q = displaced r.scanner in let t = tetrahedron_from e.vertices in
    has_own v r.vertex q t (cell_at s r e w)
    (at_vertex v r.vertex q t e.entered w.came (omega (arith, c.if-reached-eq-NO_SIDE.true)))

pub returns-then-reached-eq-NO_SIDE-clause-only : goal.returns-then-reached-eq-NO_SIDE-clause-only
returns-then-reached-eq-NO_SIDE-clause-only c =
    λ k x.
    (let s = c.args.t.now in let r = c.args.ray.now in let e = c.args.reached.now in let w = c.requires.walking in
    let v = vertices_of s in let q = displaced r.scanner in let t = tetrahedron_from e.vertices in
    let four : e.entered ≡ 4 = omega (arith, c.if-reached-eq-NO_SIDE.true) in
    let o = opposite_ahead v r.vertex q t k (cell_at s r e w) (at_vertex v r.vertex q t e.entered w.came four) x in (
      distinct_at s r e c.facts.ensures w k c.side_opposite.result x.side_in c.side_opposite.ensures.side
          (sym (vertex_index e.vertices k x.side_in) ∙ sym o ∙ sym c.side_opposite.ensures.opposite),
      inl (four, refl),
    ))

pub side_opposite-requires-2 : goal.side_opposite-requires-2
side_opposite-requires-2 c =
    let r = c.args.ray.now in let e = c.args.reached.now in let t = tetrahedron_from e.vertices in
    let z = through_side (vertices_of c.args.t.now) r.vertex (displaced r.scanner) t e.entered c.requires.walking.came
    (λ (j : e.entered ≡ 4). omega (arith, j, c.if-reached-eq-NO_SIDE.false)) in
    front_vertex t e.entered c.behind_by_images-behind.result e.front.vertices (c.requires.front.facet z.0)
    c.behind_by_images-behind.ensures.side

pub returns-clause-only : goal.returns-clause-only
returns-clause-only c =
    λ k x.
    (let s = c.args.t.now in let r = c.args.ray.now in let e = c.args.reached.now in let w = c.requires.walking in
    let v = vertices_of s in let q = displaced r.scanner in let t = tetrahedron_from e.vertices in
    let f = facet_at e.front.vertices in let d = vertex_of t e.entered in let n = vertex_of t k in let g = facet_of t k in
    let i = c.behind_by_images-behind.result in let is = c.behind_by_images-behind.ensures in
    let not_four : ¬ (e.entered ≡ 4) = λ j. omega (arith, j, c.if-reached-eq-NO_SIDE.false) in
    let z = through_side v r.vertex q t e.entered w.came not_four in
    let at : ℕ → Point = λ u. get_or s.points u origin in
    let by : ℕ → ℤ = λ j. side (at r.vertex) (at (slice_index e.front.vertices j)) (at (slice_index e.vertices e.entered)) q in
    let test : (j : ℕ) → IsTrue (is_positive (by j)) ↔ (pos 0 <ℤ past v r.vertex q d (slice_index e.front.vertices j)) =
    λ j.
    past_of s e.vertices r.vertex e.entered (slice_index e.front.vertices j) r.scanner (at r.vertex)
    (at (slice_index e.front.vertices j)) (at (slice_index e.vertices e.entered)) z.0 refl refl refl (is_positive (by j))
    (positive_so (by j)) in
    let left : IsLeftBehind d n g f i =
    subst (λ (j : ℕ). IsLeftBehind d n g f j) (sym is.left)
    (left_ahead v r.vertex q d n g f (one_of v r.vertex q t e.entered k f (c.requires.front.facet z.0) w.came not_four x)
    (is_positive (by 0)) (is_positive (by 1)) (is_positive (by 2)) (test 0) (test 1) (test 2)) in
    let b = behind_in d n g e.front.vertices i c.requires.front.three is.side left in (
      distinct_at s r e c.facts.ensures w k c.side_opposite-2.result x.side_in c.side_opposite-2.ensures.side
          (sym (vertex_index e.vertices k x.side_in) ∙ b.0 ∙ sym c.side_opposite-2.ensures.opposite),
      inr (z.0, is.side, b.1),
    ))
