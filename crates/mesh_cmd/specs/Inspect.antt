-- `inspect MESH`: what is measured of a mesh.
--
--   AreMeasuresOf mesh m         m are the measures of a mesh
--   closed_text unbalanced       the part of the line on the first unbalanced edge
--   topology_text t              the part of the line of `inspect` with the numbers of non-manifold edges, non-manifold
--                                vertices and pieces
--   sizes_text points faces      the part of the line of `inspect` with the numbers of points and faces
--   volume_text six              the part of the line of `inspect` with the signed volume, as a sixth of an integer
--   measures_text m              the line of `inspect` after the numbers of points and faces: all measures of the mesh
--   inspected_line points faces m   the line of `inspect`
--   IsInspection mesh answer     the answer states the measures of a mesh
--   inspect_task name            the definition (`Task`) of the command `inspect` for the mesh of this name
use Rattle.std.specs.Prelude.{ℕ, ℤ, List, [], Option, Some, None, ◌++◌, codes, ◌≡◌, ◌<◌, length, IfNone, IfSome}
use Rattle.std.specs.Fmt.{signed_decimal}
use Rattle.mesh.specs.Meshes.{Surface}
use Rattle.mesh_edges.specs.Edges.{face_at, IsBalanced, IsFirstUnbalanced}
use Rattle.mesh_edges.specs.declared.balance.UnbalancedEdge.{UnbalancedEdge}
use Rattle.mesh_edges.specs.Things.{AreSoMany}
use Rattle.mesh_measures.specs.Flat.{IsFlat}
use Rattle.mesh_measures.specs.Topology.{IsTopologyOf}
use Rattle.mesh_measures.specs.Volumes.{six_volume}
use Rattle.mesh_crossings.specs.Counts.{CountsCrossings}
use Rattle.mesh_measures.specs.declared.topology.Topology.{Topology}
use Rattle.command_run.specs.Answers.{Answer, Task}
use Rattle.command_run.specs.Lines.{labelled}
use Rattle.command_run.specs.declared.status.Status.TheVariants.{Done}
use Rattle.mesh_cmd.specs.Crossings.{crossings_text}
use Rattle.mesh_cmd.specs.Input.{file_task}
use Rattle.mesh_cmd.specs.declared.commands.inspect.Measures.{Measures}

-- The first edge that occurs another number of times than its reverse, if the mesh is not closed; the numbers of non-manifold edges and
-- vertices and of pieces; how many faces have their three corners on one line; how many pairs of faces cross; and six times the signed
-- volume.
pub record AreMeasuresOf (mesh : Surface) (m : Measures) : Type 0 where
  pub closed : IfNone m.unbalanced (IsBalanced mesh.faces)
  pub unbalanced : IfSome m.unbalanced (λ e. IsFirstUnbalanced mesh.faces e.from e.to e.there e.back)
  pub topology : IsTopologyOf mesh.points mesh.faces m.topology
  pub flat : AreSoMany (λ f. (f < length mesh.faces) × IsFlat mesh.points (face_at mesh.faces f)) m.flat_faces
  pub crossings : CountsCrossings mesh.points mesh.faces m.crossings
  pub volume : m.six_volume ≡ six_volume mesh.points mesh.faces

-- whether the mesh is closed, or the first unbalanced edge and how often it occurs there and back
unfoldable pub closed_text : Option UnbalancedEdge → List ℕ
closed_text None = codes " closed yes"
closed_text (Some e) =
    labelled (codes " closed no edge ") e.from
    ++ (labelled (codes " ") e.to ++ (labelled (codes " there ") e.there ++ labelled (codes " back ") e.back))

-- the numbers of non-manifold edges and vertices and of pieces
unfoldable pub topology_text : Topology → List ℕ
topology_text t =
    labelled (codes " nonmanifold_edges ") t.nonmanifold_edges
    ++ (labelled (codes " nonmanifold_vertices ") t.nonmanifold_vertices ++ labelled (codes " pieces ") t.pieces)

-- the numbers of points and faces
unfoldable pub sizes_text : (points faces : ℕ) → List ℕ
sizes_text points faces = labelled (codes "inspected points ") points ++ labelled (codes " faces ") faces

-- the volume as a sixth of a whole number, and the end of the line
unfoldable pub volume_text : ℤ → List ℕ
volume_text six = codes " volume " ++ (signed_decimal six ++ codes "/6\n")

-- the measures
unfoldable pub measures_text : Measures → List ℕ
measures_text m =
    closed_text m.unbalanced
    ++ (topology_text m.topology
    ++ (labelled (codes " flat_faces ") m.flat_faces ++ (crossings_text m.crossings ++ volume_text m.six_volume)))

-- `inspected points N faces M closed yes nonmanifold_edges E nonmanifold_vertices W pieces P flat_faces D crossing_pairs C
-- undecided_pairs U volume V/6`
unfoldable pub inspected_line : (points faces : ℕ) → Measures → List ℕ
inspected_line points faces m = sizes_text points faces ++ measures_text m

-- the measures of the mesh are said
pub record IsInspection (mesh : Surface) (answer : Answer) : Type 0 where
  pub measures : Measures
  pub so : AreMeasuresOf mesh measures
  pub is :
      answer
      ≡ record { status = Done; reads = 1; writes = []; line = inspected_line (length mesh.points) (length mesh.faces) measures }

-- it reads the mesh, and says its measures if the mesh is valid
abbrev pub inspect_task : List ℕ → Task
inspect_task name = file_task ⊥ name (λ bytes provenance mesh answer. IsInspection mesh answer)
