use Rattle.std.proofs.Common.{◌∙◌, sym, ap, subst, length, Option}
use Rattle.ply_head.specs.declared.header.Shape.{Shape}
use Rattle.ply_head.specs.declared.header.Shape.TheVariants.{Many}
use Rattle.ply_rows.specs.Readers.{IsFieldOf}
use Rattle.scan.specs.declared.needs.ScannerPlan.{ScannerPlan}
use Rattle.scan.specs.Found.{field_in, no_field, values_in, sights_said}
use Rattle.scan.specs.Plans.{IsIndexIn}
use Rattle.scan.specs.ReadViews.{row_view}
use Rattle.scan.proofs.SightSteps.{list_count}
use Rattle.scan.proofs.body.Row.count_sights.Goals as goal

pub returns-in-Many : goal.returns-in-Many
returns-in-Many c =
    let row = row_view c.args.self.now in
    let scanners = c.in-Some.scanners in
    let is : IsIndexIn row scanners.index = rw c.in-Some.is at c.requires in
    let field = field_in row scanners.index.number in
    let of : IsFieldOf row.body.kind row.body.bytes (Many c.in-Many.count c.in-Many.item) field =
    subst (λ (s : Shape). IsFieldOf row.body.kind row.body.bytes s field) c.in-Many.is (is.field no_field) in
    list_count row.body c.in-Many.count c.in-Many.item field of
    ∙ sym (ap (λ (s : Shape). length (values_in row.body s field)) c.in-Many.is)
    ∙ sym (ap (λ (s : Option ScannerPlan). sights_said row s) c.in-Some.is)
