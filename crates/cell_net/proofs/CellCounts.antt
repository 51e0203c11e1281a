-- Counts do not depend on how a facet or a cell is written: each test of a sight says the same of a rotated facet, and of a
-- cell written anew, and so does the test for a corner.
use Rattle.std.proofs.Common.{◌≡◌, ap, ap₂, Bool, ◌||◌, nat_lt, arith}
use mathlib.Core.Path.{fun_ext}
use Rattle.std.specs.List.{list_any}
use Rattle.geo_sign.specs.Point.{Point}
use Rattle.geo_sign.specs.Rational.{displaced}
use Rattle.geo_sign.specs.Tetrahedron.{Tetrahedron}
use Rattle.geo_sign.specs.Cells.{written}
use Rattle.geo_sign.specs.Writings.{IsRewritten}
use Rattle.geo_sign.proofs.Rewritings.{carry_value, same_behind, same_cell_of, or_spun, or_swapped}
use Rattle.geo_sign.proofs.Rotations.{crossed_rotated}
use Rattle.flow_net.specs.declared.votes.Sight.{Sight}
use Rattle.flow_net.specs.Weights.{weight_where}
use Rattle.visibility.specs.Scenes.{scanner_point}
use Rattle.visibility.specs.Votes.{crossings, sights_before, is_fixed, has_corner}
use Rattle.tetra_store.specs.Links.{links_of}
use Rattle.cell_net.specs.CountLaws.{FacetCountLaw, CellCountLaw}
use Rattle.cell_net.specs.Counts.{row_of}
use Rattle.cell_net.proofs.CellRows.{risen_written}
use Rattle.cell_net.proofs.Stored.{listed}

pub facet_count_law : FacetCountLaw
unfolding crossings
facet_count_law s f g r = grind (arith, crossed_rotated)

corner_same : (t r : Tetrahedron) → IsRewritten t r → has_corner r ≡ has_corner t
corner_same =
    carry_value (λ t. has_corner t) (λ t. or_spun (nat_lt t.a 8) (nat_lt t.b 8) (nat_lt t.c 8) (nat_lt t.d 8))
    (λ t. or_swapped (nat_lt t.a 8) (nat_lt t.b 8) (nat_lt t.c 8) (nat_lt t.d 8))

pub cell_count_law : CellCountLaw
unfolding sights_before is_fixed
cell_count_law s slots cells id h =
    let t : Tetrahedron = (links_of slots).at id in
    let r : Tetrahedron = written s.vertices (row_of slots id) in
    let w : IsRewritten t r = risen_written s.vertices t (cells.cells id (listed slots id h)).positive in
    record {
      before =
          ap (λ (p : Sight → Bool). weight_where p s.sights)
          (fun_ext (λ (x : Sight). same_behind s.vertices x.vertex (scanner_point s.scanners x.scanner) t r w));
      fixed =
          ap₂ (λ (m n : Bool). m || n) (corner_same t r w)
          (ap (λ (p : Point → Bool). list_any p s.scanners)
          (fun_ext (λ (q : Point). same_cell_of s.vertices (displaced q) t r w)));
    }
