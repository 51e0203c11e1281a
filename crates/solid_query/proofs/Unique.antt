-- Points have one list of labels. There is one list of all cells, on which two least insides agree, and one of its cells has the
-- displaced point. So they agree with the certificate of a solution, whose inside rows are those of these cells that are inside.
use Rattle.std.proofs.Common.{ℕ, ◌<◌, ◌≡◌, refl, ap, sym, subst, ◌∙◌, arith, Bool, true, false, List, length, get_or, Contains}
use Rattle.std.proofs.Common.{filter}
use Rattle.std.proofs.lemmas.List.{ext_get_or}
use Rattle.cell_laws.proofs.RisingRows.{list_law, listed}
use Rattle.cell_laws.proofs.SightLaws.{scanner_law}
use Rattle.geo_sign.proofs.Booleans.{same_bools}
use Rattle.geo_sign.proofs.Rewritings.{same_cell_of}
use Rattle.geo_sign.specs.Cells.{written}
use Rattle.geo_sign.specs.Point.{Point, origin}
use Rattle.geo_sign.specs.Rational.{displaced}
use Rattle.geo_sign.specs.Vertices.{boxed_vertices}
use Rattle.geo_sign.specs.Vertices.{Vertices}
use Rattle.geo_sign.specs.Sights.{is_cell_of}
use Rattle.solution.specs.Scans.{points_of, scene_of_scan}
use Rattle.surface.proofs.CutList.{filter_in, in_filter}
use Rattle.visibility.proofs.Ordered.{one_complex}
use Rattle.visibility.specs.Complexes.{Complex}
use Rattle.visibility.specs.Cuts.{IsLeastInside}
use Rattle.visibility.specs.Scenes.{Scene}
use Rattle.solid_query.specs.Labels.{IsLabelOf}
use Rattle.solid_query.specs.Laws.{HasPoint, LabelsAreCertified, LabelsAreUnique, PointsHaveLabels}
use Rattle.solid_query.proofs.Located.{one_cell}

-- two labels are those of one cell
same_label : (v : Vertices) (cells : List (List ℕ)) (inside other : List ℕ → Bool) (q : Point) (a b : Bool)
    → ((row : List ℕ) → Contains cells row → inside row ≡ other row) → IsLabelOf v cells inside q a
    → IsLabelOf v cells other q b → a ≡ b
same_label v cells inside other q a b agree h k =
    h.label_is ∙ agree h.cell h.listed ∙ ap other (k.only h.cell h.listed h.has) ∙ sym k.label_is

pub labels_are_unique_law : LabelsAreUnique
labels_are_unique_law scan settings points labels others a b =
    let s : Scene = scene_of_scan scan settings in
    let v : Vertices = boxed_vertices (points_of scan) in
    let complexes : b.complex ≡ a.complex = one_complex s b.complex a.complex b.complex_is a.complex_is in
    let least : IsLeastInside s a.complex b.inside = subst (λ (c : Complex). IsLeastInside s c b.inside) complexes b.least in
    let agree : (row : List ℕ) → Contains a.complex.cells row → a.inside row ≡ b.inside row =
    λ row there.
    same_bools (a.inside row) (b.inside row) (a.least.within b.inside least.least_cost row there)
    (least.within a.inside a.least.least_cost row there) in
    ext_get_or false labels others (a.count ∙ sym b.count)
    (λ k l.
    let n = a.count in
    let m : k < length points = omega (arith, l, n) in
    same_label v a.complex.cells a.inside b.inside (get_or points k origin) (get_or labels k false) (get_or others k false) agree
    (a.each k m)
    (subst (λ (c : Complex). IsLabelOf v c.cells b.inside (get_or points k origin) (get_or others k false)) complexes
    (b.each k m)))

pub points_have_labels_law : PointsHaveLabels
points_have_labels_law v cells inside q boxed are within =
    let some = (scanner_law v boxed q within).some in
    let rows = list_law v cells are in
    let row = rows.full.all some.0.a some.0.b some.0.c some.0.d some.1 in
    let there : Contains cells row.0 = listed cells row.0 row.1 in
    let has : is_cell_of v (displaced q) (written v row.0) ≡ true =
    sym (same_cell_of v (displaced q) (written v row.0) some.0 row.2) ∙ some.2 in
    let label : IsLabelOf v cells inside q (inside row.0) =
    record {
      cell = row.0;
      listed = there;
      has = has;
      only = λ other c k. one_cell v cells q boxed are within row.0 other there c has k;
      label_is = refl;
    } in (
      inside row.0,
      label,
      λ other h. same_label v cells inside inside q other (inside row.0) (λ x c. refl) h label,
    )

pub labels_are_certified_law : LabelsAreCertified
labels_are_certified_law scan settings mesh claim points labels solution are k l =
    let s : Scene = scene_of_scan scan settings in
    let cells : List (List ℕ) = are.complex.cells in
    let q : Point = get_or points k origin in
    let complexes : solution.complex ≡ are.complex =
    one_complex s solution.complex are.complex solution.complex_is are.complex_is in
    let least : IsLeastInside s are.complex solution.inside =
    subst (λ (c : Complex). IsLeastInside s c solution.inside) complexes solution.least in
    let listed_inside : claim.inside ≡ filter solution.inside cells =
    solution.certificate.inside_is ∙ ap (λ (c : Complex). filter solution.inside c.cells) complexes in
    let label : IsLabelOf (boxed_vertices (points_of scan)) cells are.inside q (get_or labels k false) = are.each k l in
    let there : get_or labels k false ≡ true → HasPoint scan (filter solution.inside cells) q =
    λ e.
    let inside : solution.inside label.cell ≡ true =
    are.least.within solution.inside least.least_cost label.cell label.listed (sym label.label_is ∙ e) in
    let c = in_filter solution.inside cells label.cell label.listed inside in
    (c.0, label.cell, c.1, c.2, label.has) in
    let back : HasPoint scan (filter solution.inside cells) q → get_or labels k false ≡ true =
    λ h.
    let c = filter_in solution.inside cells h.1 (h.0, h.2, h.3) in
    let same : h.1 ≡ label.cell = label.only h.1 c.0 h.4 in
    let inside : are.inside h.1 ≡ true = least.within are.inside are.least.least_cost h.1 c.0 c.1 in
    label.label_is ∙ sym (ap are.inside same) ∙ inside in
    subst (λ (rows : List (List ℕ)).
    (get_or labels k false ≡ true → HasPoint scan rows q) × (HasPoint scan rows q → get_or labels k false ≡ true))
    (sym listed_inside) (there, back)
