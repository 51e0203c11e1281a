-- Points of a finished mesh are near points of the mesh that it was made of.
--
-- Pieces and splits copy points of the mesh before (made_among). Smoothing moves a point by at most the distance (smoothed_near), and
-- without smoothing it is where it was (still_near).
use Rattle.std.proofs.Common.{ℕ, ◌≡◌, ◌<◌, ◌*◌, ◌∙◌, sym, ap, subst, arith, true, false, Bool, Option, Some, None, List, length}
use Rattle.std.proofs.Common.{ℤ, pos, ◌-ℤ◌, ◌*ℤ◌, ◌≤ℤ◌, slice_index}
use Rattle.std.proofs.lemmas.Int.{ints}
use Rattle.std.proofs.lemmas.List.{get_or-map, length-map}
use Rattle.geo_sign.specs.Point.{Point, origin, step, square}
use Rattle.mesh.specs.Meshes.{point_at}
use Rattle.mesh_pieces.specs.Copies.{IsCopy}
use Rattle.mesh_pieces.specs.Pieces.{kept_faces}
use Rattle.mesh_smooth.specs.Smoothed.{magnified}
use Rattle.mesh_check.specs.Homes.{AreAllNear, IsNearHome}
use Rattle.finish_options.specs.declared.options.FinishOptions.{FinishOptions}
use Rattle.finish_options.specs.declared.options.SmoothOptions.{SmoothOptions}
use Rattle.mesh_finish.specs.Steps.{AreMade, ArePiecesIf, IsSplitIf, IsSmoothedIf}
use Rattle.mesh_cmd.specs.Check.{reach_of}

-- each point of one list is one of the other
abbrev pub AreAmong : (homes points : List Point) → Type 0
AreAmong homes points = (v : ℕ) → v < length points → (k : ℕ) × (k < length homes) × (point_at points v ≡ point_at homes k)

themselves : (homes points : List Point) → points ≡ homes → AreAmong homes points
themselves homes points same v l =
    (v, subst (λ (ps : List Point). v < length ps) same l, ap (λ (ps : List Point). point_at ps v) same)

among_on : (homes mid points : List Point) → AreAmong homes mid → AreAmong mid points → AreAmong homes points
among_on homes mid points a b v l =
    let near = b v l in
    let far = a near.0 near.1 in
    (far.0, far.1, near.2 ∙ far.2)

copied_among : (points new : List Point) (faces new_faces : List (List ℕ)) (from : List ℕ) → IsCopy points faces new new_faces from
    → AreAmong points new
copied_among points new faces new_faces from copy v l =
    let count : length new ≡ length from = ap length copy.places ∙ length-map from (point_at points) in
    let within : v < length from = omega (arith, count) in (
      slice_index from v,
      copy.originals v 0 within,
      ap (λ (ps : List Point). point_at ps v) copy.places ∙ get_or-map (point_at points) from v 0 origin within,
    )

pieces_among : (pieces : Option ℕ) (points : List Point) (faces : List (List ℕ)) (new : List Point) (new_faces : List (List ℕ))
    → ArePiecesIf pieces points faces new new_faces → AreAmong points new
pieces_among None points faces new new_faces is = themselves points new is.0
pieces_among (Some most) points faces new new_faces is =
    copied_among points new (kept_faces faces is.kept) new_faces is.origin is.copy

split_among : (manifold : Bool) (points : List Point) (faces : List (List ℕ)) (new : List Point) (new_faces : List (List ℕ))
    → IsSplitIf manifold points faces new new_faces → AreAmong points new
split_among false points faces new new_faces is = themselves points new is.0
split_among true points faces new new_faces is = copied_among points new faces new_faces is.origin is.copy

-- each point before smoothing is one of the mesh
made_among : (options : FinishOptions) (points : List Point) (faces : List (List ℕ)) (new : List Point) (new_faces : List (List ℕ))
    (fine : ℕ) (made : AreMade options points faces new new_faces fine) → AreAmong points made.split_points
made_among options points faces new new_faces fine made =
    among_on points made.kept_points made.split_points
    (pieces_among options.pieces points faces made.kept_points made.kept_faces made.pieces)
    (split_among options.manifold made.kept_points made.kept_faces made.split_points made.split_faces made.split)

-- a point is near itself
no_step : (x : ℤ) → (x -ℤ pos 1 *ℤ x) *ℤ (x -ℤ pos 1 *ℤ x) ≡ pos 0
no_step x =
    let none : x -ℤ pos 1 *ℤ x ≡ pos 0 = omega (arith, ints) in
    ap (λ (d : ℤ). d *ℤ d) none

near_itself : (home : Point) → IsNearHome 1 0 home home
near_itself home = omega (arith, ints, no_step home.x, no_step home.y, no_step home.z)

still_near : (homes points : List Point) → AreAmong homes points → AreAllNear 1 0 homes points
still_near homes points among v l =
    let home = among v l in (
      home.0,
      home.1,
      subst (λ (p : Point). IsNearHome 1 0 (point_at homes home.0) p) (sym home.2) (near_itself (point_at homes home.0)),
    )

smoothed_near : (smoothing : Option SmoothOptions) (homes points : List Point) (faces : List (List ℕ)) (new : List Point)
    (new_faces : List (List ℕ)) (fine : ℕ) → AreAmong homes points → IsSmoothedIf smoothing points faces new new_faces fine
    → AreAllNear fine (reach_of smoothing) homes new
smoothed_near None homes points faces new new_faces fine among (same, still, scale) v l =
    subst (λ (n : ℕ). AreAllNear n 0 homes new) (sym scale)
    (still_near homes new (subst (λ (ps : List Point). AreAmong homes ps) (sym same) among)) v l
smoothed_near (Some s) homes points faces new new_faces fine among is v l =
    let within : v < length points = omega (arith, is.smoothed.count) in
    let home = among v within in (
      home.0,
      home.1,
      subst (λ (p : Point). square (step (magnified fine p) (point_at new v)) ≤ℤ pos (fine * s.within * (fine * s.within))) home.2
          (is.smoothed.near v within),
    )

pub made_near : (options : FinishOptions) (points : List Point) (faces : List (List ℕ)) (new : List Point)
    (new_faces : List (List ℕ)) (fine : ℕ) → AreMade options points faces new new_faces fine
    → AreAllNear fine (reach_of options.smoothing) points new
made_near options points faces new new_faces fine made =
    smoothed_near options.smoothing points made.split_points made.flipped_faces new new_faces fine
    (made_among options points faces new new_faces fine made) made.smooth
