-- What a flip keeps.
--
-- Of the twelve sides of the four faces, old and new, the four outer ones stand in both lists. The old edge and the new one stand
-- there and back each, so they add as much to a directed edge as to its reverse.
use Rattle.std.proofs.Common.{ℕ, ◌≡◌, ◌≢◌, ◌+◌, ◌<◌, refl, ap, sym, subst, ◌∙◌, arith, List, [], ◌∷◌, length, set, get_or}
use Rattle.std.proofs.Common.{get_or-set_other}
use Rattle.std.proofs.Math.ListN.{length-set}
use Rattle.std.specs.List.{All}
use Rattle.std.proofs.lemmas.List.Elements.{All-set}
use Rattle.std.proofs.lemmas.List.Sums.{sum_by-set}
use Rattle.mesh_edges.specs.Edges.{faces_with_edge}
use Rattle.mesh_flips.specs.Turns.{IsTriangle}
use Rattle.mesh_flips.specs.Quads.{IsQuad, flipped}
use Rattle.mesh_flips.specs.Flips.{IsFlip, AreFlips, SameExcess}
use Rattle.mesh_flips.specs.Flips.AreFlips.{none, more}
use Rattle.mesh_flips.specs.Laws.{FlipsKeepExcess, FlipsKeepTriangles, FlipsKeepCount, FlipsKeepClosed}
use Rattle.mesh_flips.specs.declared.quad.Quad.{Quad}
use Rattle.mesh_flips.proofs.Sides.{sides, side_back, three_sides, turned_triangle, turned_sides}

module _ (n : ℕ) (faces : List (List ℕ)) (one other : ℕ) (q : Quad) (each : All (IsTriangle n) faces)
    (lie : IsQuad faces one other q) where
  pub first_triangle : IsTriangle n (q.a ∷ q.b ∷ q.c ∷ [])
  first_triangle = turned_triangle n _ _ (each one [] lie.one_within) lie.first

  pub second_triangle : IsTriangle n (q.b ∷ q.a ∷ q.d ∷ [])
  second_triangle = turned_triangle n _ _ (each other [] lie.other_within) lie.second

  pub new_first : IsTriangle n (q.a ∷ q.d ∷ q.c ∷ [])
  new_first =
      let s = first_triangle in let t = second_triangle in
      (λ e. t.1 e, λ e. lie.far (sym e), s.2, s.3, t.5, s.5)

  pub new_second : IsTriangle n (q.d ∷ q.b ∷ q.c ∷ [])
  new_second =
      let s = first_triangle in let t = second_triangle in
      (λ e. t.2 e, s.1, lie.far, t.5, s.4, s.5)

  pub flip_triangles : All (IsTriangle n) (flipped faces one other q)
  flip_triangles = All-set (IsTriangle n) _ other _ new_second (All-set (IsTriangle n) faces one _ new_first each)

  -- the sides that change
  pub edges_after : (u v : ℕ)
      → faces_with_edge u v (flipped faces one other q) + sides u v (q.a ∷ q.b ∷ q.c ∷ []) + sides u v (q.b ∷ q.a ∷ q.d ∷ [])
      ≡ faces_with_edge u v faces + sides u v (q.a ∷ q.d ∷ q.c ∷ []) + sides u v (q.d ∷ q.b ∷ q.c ∷ [])
  unfolding sides
  edges_after u v =
      let x = q.a ∷ q.d ∷ q.c ∷ [] in
      let length_same : length (set faces one x) ≡ length faces = length-set {A = List ℕ} faces one x in
      let within : other < length (set faces one x) = omega (arith, lie.other_within) in
      let apart : other ≢ one = λ e. lie.two (sym e) in
      let stays : get_or (set faces one x) other [] ≡ get_or faces other [] = rw get_or-set_other refl in
      omega (
        arith,
        sum_by-set (sides u v) faces one x [] lie.one_within,
        sum_by-set (sides u v) (set faces one x) other (q.d ∷ q.b ∷ q.c ∷ []) [] within,
        ap (sides u v) stays,
        turned_sides n u v _ _ (each one [] lie.one_within) lie.first,
        turned_sides n u v _ _ (each other [] lie.other_within) lie.second,
      )

  pub flip_excess : SameExcess faces (flipped faces one other q)
  flip_excess u v =
      let s = first_triangle in
      let t = second_triangle in
      let y = new_first in
      let z = new_second in
      omega (
        arith,
        edges_after u v,
        edges_after v u,
        three_sides u v q.a q.b q.c s.0 s.1 s.2,
        three_sides v u q.a q.b q.c s.0 s.1 s.2,
        three_sides u v q.b q.a q.d t.0 t.1 t.2,
        three_sides v u q.b q.a q.d t.0 t.1 t.2,
        three_sides u v q.a q.d q.c y.0 y.1 y.2,
        three_sides v u q.a q.d q.c y.0 y.1 y.2,
        three_sides u v q.d q.b q.c z.0 z.1 z.2,
        three_sides v u q.d q.b q.c z.0 z.1 z.2,
        side_back u v q.a q.b,
        side_back u v q.b q.a,
        side_back u v q.c q.d,
        side_back u v q.d q.c,
      )

-- one flip

flip_count : (old new : List (List ℕ)) → IsFlip old new → length new ≡ length old
flip_count old new f =
    ap length f.then
    ∙ (length-set {A = List ℕ} (set old f.one _) f.other _ ∙ length-set {A = List ℕ} old f.one _)

one_triangles : (n : ℕ) (old new : List (List ℕ)) → All (IsTriangle n) old → IsFlip old new → All (IsTriangle n) new
one_triangles n old new each f =
    subst (λ (faces : List (List ℕ)). All (IsTriangle n) faces) (sym f.then) (flip_triangles n old f.one f.other f.quad each f.lie)

one_excess : (n : ℕ) (old new : List (List ℕ)) → All (IsTriangle n) old → IsFlip old new → SameExcess old new
one_excess n old new each f =
    subst (λ (faces : List (List ℕ)). SameExcess old faces) (sym f.then) (flip_excess n old f.one f.other f.quad each f.lie)

-- any number of flips

pub flips_triangles : (n : ℕ) {old new : List (List ℕ)} → All (IsTriangle n) old → AreFlips old new → All (IsTriangle n) new
flips_triangles n each none = each
flips_triangles n each (more {old} {mid} {new} before f) = one_triangles n mid new (flips_triangles n each before) f

pub flips_count : {old new : List (List ℕ)} → AreFlips old new → length new ≡ length old
flips_count none = refl
flips_count (more {old} {mid} {new} before f) = flip_count mid new f ∙ flips_count before

pub flips_excess : (n : ℕ) {old new : List (List ℕ)} → All (IsTriangle n) old → AreFlips old new → SameExcess old new
flips_excess n {old} each none u v = refl
flips_excess n each (more {old} {mid} {new} before f) u v =
    omega (arith, flips_excess n each before u v, one_excess n mid new (flips_triangles n each before) f u v)

-- the theorems

pub flips_keep_triangles : FlipsKeepTriangles
flips_keep_triangles = λ n old new each flips. flips_triangles n each flips

pub flips_keep_count : FlipsKeepCount
flips_keep_count = λ old new flips. flips_count flips

pub flips_keep_excess : FlipsKeepExcess
flips_keep_excess = λ n old new each flips. flips_excess n each flips

pub flips_keep_closed : FlipsKeepClosed
flips_keep_closed = λ n old new each flips closed u v. omega (arith, flips_excess n each flips u v, closed u v)
