-- The mesh of the definitions, from three steps: marks of the points that facets use, their new numbers, and the faces in
-- these.
--
-- Each step's list is a map over all indices, and the next step reads it by index, so points and faces are those of
-- `mesh_of` (points_are, faces_are). That the mesh is valid and its faces rise is shown of the definitions' mesh
-- (mesh_valid, faces_rise), and so of this one.
use Rattle.std.proofs.Common.{ℕ, ◌≡◌, ◌<◌, ◌^◌, ◌∙◌, ap, sym, subst, arith, List, Bool, length, map, get_or}
use Rattle.std.specs.List.{All, AllPairs}
use Rattle.std.proofs.lemmas.List.{length-map}
use Rattle.geo_sign.specs.Rising.{IsBefore}
use Rattle.geo_sign.specs.Point.{Point}
use Rattle.mesh.specs.Meshes.{below, is_used, new_number, point_at, mesh_of, IsFace, IsMesh}
use Rattle.mesh.specs.Marks.{marked, number_among}
use Rattle.mesh.proofs.Vertices.{length_below, marked_used, number_in_table, facets_same}
use Rattle.mesh.proofs.Renumbered.{mesh_valid, faces_rise}
use Rattle.mesh.proofs.facets.mesh_of_facets.Goals as goal

pub numbering_of-requires-clause-marks : goal.numbering_of-requires-clause-marks
numbering_of-requires-clause-marks c =
    let facets = c.args.facets.now in
    let n = length c.args.places.now in
    omega (
      arith,
      ap (λ (t : List Bool). length t) c.in_ok-marks.ensures,
      ap (λ (t : List Bool). length t) c.deref.ensures.value,
      length-map (below n) (is_used facets),
      length_below n,
    )

pub faces_of-requires : goal.faces_of-requires
faces_of-requires c =
    let n = length c.args.places.now in
    let marks = c.deref.result.now in
    let same : n ≡ length c.deref-2.result.now =
    omega (
      arith,
      ap (λ (t : List ℕ). length t) c.in_ok-numbering.ensures.numbers,
      ap (λ (t : List ℕ). length t) c.deref-2.ensures.value,
      length-map (below n) (number_among marks),
      length_below n,
    ) in
    subst (λ (k : ℕ). All (IsFace k) c.args.facets.now) same c.requires.facets.each

-- the whole mesh, as the definition has it
points_are : (places points : List Point) (facets : List (List ℕ)) (marks from : List Bool)
    → points ≡ map (point_at places) (marked marks (length places)) → marks ≡ from
    → from ≡ map (is_used facets) (below (length places)) → points ≡ (mesh_of places facets).points
points_are places points facets marks from e f g =
    e ∙ ap (map (point_at places)) (marked_used facets marks (length places) (length places) (f ∙ g) (omega arith))

faces_are : (places : List Point) (facets faces : List (List ℕ)) (marks from : List Bool) (table numbers : List ℕ)
    → All (IsFace (length places)) facets → faces ≡ map (map (λ v. get_or table v 0)) facets → table ≡ numbers
    → numbers ≡ map (number_among marks) (below (length places)) → marks ≡ from
    → from ≡ map (is_used facets) (below (length places)) → faces ≡ (mesh_of places facets).faces
faces_are places facets faces marks from table numbers o e f g h k =
    e ∙ facets_same (length places) (λ v. get_or table v 0) (new_number facets) facets o
    (λ v l. number_in_table facets marks table (length places) v (h ∙ k) (f ∙ g) l)

valid_so : (places points : List Point) (facets faces : List (List ℕ)) → points ≡ (mesh_of places facets).points
    → faces ≡ (mesh_of places facets).faces → IsMesh (mesh_of places facets).points (mesh_of places facets).faces
    → IsMesh points faces
valid_so places points facets faces e f m =
    subst (λ (ps : List Point). IsMesh ps faces) (sym e)
    (subst (λ (fs : List (List ℕ)). IsMesh (mesh_of places facets).points fs) (sym f) m)

rising_so : (facets faces : List (List ℕ)) → faces ≡ map (map (new_number facets)) facets
    → AllPairs IsBefore (map (map (new_number facets)) facets) → AllPairs IsBefore faces
rising_so facets faces e m = subst (λ (fs : List (List ℕ)). AllPairs IsBefore fs) (sym e) m

pub returns-clause-points : goal.returns-clause-points
returns-clause-points c =
    points_are c.args.places.now _ c.args.facets.now _ _ c.in_ok-numbering.ensures.points c.deref.ensures.value
    c.in_ok-marks.ensures

pub returns-clause-faces : goal.returns-clause-faces
returns-clause-faces c =
    faces_are c.args.places.now c.args.facets.now _ _ _ _ _ c.requires.facets.each c.in_ok-faces.ensures c.deref-2.ensures.value
    c.in_ok-numbering.ensures.numbers c.deref.ensures.value c.in_ok-marks.ensures

pub returns-clause-valid : goal.returns-clause-valid
returns-clause-valid c =
    let few : length c.args.facets.now < 2 ^ 32 = omega arith in
    valid_so c.args.places.now _ c.args.facets.now _
    (points_are c.args.places.now _ c.args.facets.now _ _ c.in_ok-numbering.ensures.points c.deref.ensures.value
    c.in_ok-marks.ensures)
    (faces_are c.args.places.now c.args.facets.now _ _ _ _ _ c.requires.facets.each c.in_ok-faces.ensures
    c.deref-2.ensures.value c.in_ok-numbering.ensures.numbers c.deref.ensures.value c.in_ok-marks.ensures)
    (mesh_valid c.args.places.now c.args.facets.now c.requires.few few c.requires.facets)

pub returns-clause-rising : goal.returns-clause-rising
returns-clause-rising c =
    rising_so c.args.facets.now _
    (faces_are c.args.places.now c.args.facets.now _ _ _ _ _ c.requires.facets.each c.in_ok-faces.ensures
    c.deref-2.ensures.value c.in_ok-numbering.ensures.numbers c.deref.ensures.value c.in_ok-marks.ensures)
    (faces_rise c.args.facets.now c.requires.facets.rising)
