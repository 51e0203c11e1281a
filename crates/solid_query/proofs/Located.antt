-- From linked cells to rows. A store that has all cells of a scan's scene has a live cell for each row of the list of all cells, and
-- tests say the same of the cell as it is linked and as its row is written. So the flag of the live cell in which a displaced point
-- lies is the label of the one row in which it lies.
use Rattle.std.proofs.Common.{ℕ, ◌+◌, ◌<◌, ◌≡◌, ◌++◌, ap, sym, ◌∙◌, arith, Bool, true, false, List, length, get_or}
use Rattle.std.proofs.Common.{Contains, [], ◌∷◌, subst, below_more}
use Rattle.std.proofs.lemmas.List.{get_or_append_left, get_or_push, length_push}
use Rattle.cell_laws.proofs.RisingRows.{list_law, is_listed}
use Rattle.cell_laws.proofs.SightLaws.{scanner_law}
use Rattle.flow_net.specs.declared.votes.Settings.{Settings}
use Rattle.geo_sign.proofs.Rewritings.{same_cell_of}
use Rattle.geo_sign.specs.Boxes.{IsBoxed}
use Rattle.geo_sign.specs.Cells.{IsCellList, written}
use Rattle.geo_sign.specs.Point.{Point, IsWithin, origin}
use Rattle.geo_sign.specs.Rational.{RationalPoint, displaced}
use Rattle.geo_sign.specs.RowLaws.{IsPositive}
use Rattle.geo_sign.specs.Sights.{is_cell_of}
use Rattle.geo_sign.specs.Tetrahedron.{Tetrahedron}
use Rattle.geo_sign.specs.Vertices.{boxed_vertices}
use Rattle.geo_sign.specs.Vertices.{Vertices, corners}
use Rattle.geo_sign.specs.Writings.{IsRewritten}
use Rattle.geo_sign.specs.declared.point.TheConstants.{DATA_LIMIT}
use Rattle.scan_rows.specs.Shown.{Shown}
use Rattle.solution.specs.Scans.{points_of, scene_of_scan}
use Rattle.surface.proofs.Listed.{row_in}
use Rattle.tetra_store.specs.Links.{links_of}
use Rattle.tetra_store.specs.Store.{Store, vertices_at, vertices_of}
use Rattle.cell_net.proofs.CellRows.{risen_written}
use Rattle.cell_net.proofs.Stored.{listed}
use Rattle.cell_net.specs.Counts.{row_of}
use Rattle.solid_query.specs.Labels.{IsLabelOf, AreLabels}
use Rattle.solid_query.specs.Solids.{IsSolid, IsFlaggedAs, AreFlagged}

-- one row of the list has the displaced point
pub one_cell : (v : Vertices) (cells : List (List ℕ)) (q : Point) → IsBoxed v → IsCellList v cells → IsWithin DATA_LIMIT q
    → (row other : List ℕ)
    → Contains cells row → Contains cells other → is_cell_of v (displaced q) (written v row) ≡ true
    → is_cell_of v (displaced q) (written v other) ≡ true → other ≡ row
one_cell v cells q boxed are within row other c d h k =
    let rows = list_law v cells are in
    let lr = is_listed cells row c in
    let lo = is_listed cells other d in
    rows.once other row lo lr
    ((scanner_law v boxed q within).one (written v other) (written v row) (rows.full.cells other lo) (rows.full.cells row lr) k h)

-- the test looks at nothing but where the vertices are
same_test : (s : Store) (points : List Point) → s.points ≡ corners ++ points → (q : RationalPoint) (t : Tetrahedron)
    → is_cell_of (vertices_of s) q t ≡ is_cell_of (boxed_vertices points) q t
unfolding is_cell_of
same_test s points e q t = ap (λ (places : List Point). is_cell_of (vertices_at places s.inserted) q t) e

module _ (scan : Shown) (settings : Settings) (s : Store) (flags : List Bool)
    (solid : IsSolid scan settings s flags) where
  abbrev v : Vertices
  v = boxed_vertices (points_of scan)

  -- the label of the row is the flag of the live cell
  label_of : (q : Point) (flag : Bool) → IsWithin DATA_LIMIT q → IsFlaggedAs s flags q flag
      → IsLabelOf v solid.complex.cells solid.inside q flag
  label_of q flag within f =
      let t : Tetrahedron = (links_of s.slots).at f.cell in
      let row : List ℕ = row_of s.slots f.cell in
      let positive : IsPositive v t = (solid.cells.cells f.cell (listed s.slots f.cell f.live)).positive in
      let anew : IsRewritten t (written v row) = risen_written v t positive in
      let has : is_cell_of v (displaced q) (written v row) ≡ true =
      same_cell_of v (displaced q) t (written v row) anew ∙ sym (same_test s (points_of scan) solid.points (displaced q) t)
      ∙ f.has in
      let there : Contains solid.complex.cells row =
      row_in (scene_of_scan scan settings) s.slots solid.cells solid.complex solid.complex_is f.cell f.live in
      record {
        cell = row;
        listed = there;
        has = has;
        only = λ other c k.
            one_cell v solid.complex.cells q solid.cells.boxed solid.complex_is.cells_are within row other there c has k;
        label_is = f.flag_is ∙ solid.flags_are f.cell f.live;
      }

  pub labels_of : (points : List Point) (found : List Bool)
      → ((k : ℕ) (d : Point) → k < length points → IsWithin DATA_LIMIT (get_or points k d)) → AreFlagged s flags points found
      → AreLabels scan settings points found
  labels_of points found within are =
      record {
        complex = solid.complex;
        inside = solid.inside;
        complex_is = solid.complex_is;
        least = solid.least;
        count = are.count;
        each = λ k l. label_of (get_or points k origin) (get_or found k false) (within k origin l) (are.each k l);
      }

-- one point more has its flag
pub one_flagged : (s : Store) (flags : List Bool) (points : List Point) (n : ℕ) (found more : List Bool) (flag : Bool)
    → length found ≡ n
    → ((k : ℕ) → k < n → IsFlaggedAs s flags (get_or points k origin) (get_or found k false))
    → IsFlaggedAs s flags (get_or points n origin) flag → more ≡ found ++ flag ∷ []
    → (length more ≡ n + 1)
    × ((k : ℕ) → k < n + 1 → IsFlaggedAs s flags (get_or points k origin) (get_or more k false))
one_flagged s flags points n found more flag count each here is = (
  ap length is ∙ (length_push found flag ∙ ap (λ (m : ℕ). m + 1) count),
  below_more (λ k. IsFlaggedAs s flags (get_or points k origin) (get_or more k false)) n
      (λ k l. subst (IsFlaggedAs s flags (get_or points k origin))
      (sym (ap (λ (xs : List Bool). get_or xs k false) is ∙ get_or_append_left found (flag ∷ []) false k (omega (arith, l, count))))
      (each k l))
      (subst (IsFlaggedAs s flags (get_or points n origin))
      (sym (ap (λ (xs : List Bool). get_or xs n false) is ∙ get_or_push found flag false n count)) here),
)
