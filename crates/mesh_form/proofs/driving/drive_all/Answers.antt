use Rattle.std.proofs.Common.{refl, ◌∙◌, arith}
use Rattle.std.proofs.Math.Seq.{map-set_same}
use Rattle.line_text.proofs.Kept.{OnErr-holds}
use Rattle.mesh_form.proofs.Drivings.{none_driven, box_fresh, box_driven, boxes_stopped}
use Rattle.mesh_form.proofs.driving.drive_all.Goals as goal

pub loop-k-init : goal.loop-k-init
loop-k-init g c = record { driven = none_driven _ _ _ c.requires.fresh; kinds = refl }

pub drive-requires-clause-fresh : goal.drive-requires-clause-fresh
drive-requires-clause-fresh g c = box_fresh _ _ _ _ _ _ c.loop-k.invariant.driven (omega arith)

pub returns-in_err-drive-clause-fronts : goal.returns-in_err-drive-clause-fronts
returns-in_err-drive-clause-fronts g c =
    OnErr-holds _ _ (boxes_stopped _ _ _ _ _ _ c.loop-k.invariant.driven c.in_err-drive.ensures.prefix)

pub returns-in_err-drive-clause-kinds : goal.returns-in_err-drive-clause-kinds
returns-in_err-drive-clause-kinds g c =
    map-set_same (λ form. form.vtable) c.loop-k.forms c.loop-k.k c.drive.new.form c.index-forms-k.result c.drive.ensures.kind
    ∙ c.loop-k.invariant.kinds

pub loop-k-preserved : goal.loop-k-preserved
loop-k-preserved g c =
    record {
      driven = box_driven _ _ _ _ _ _ c.loop-k.invariant.driven c.in_ok-drive.ensures.all;
      kinds =
          map-set_same (λ form. form.vtable) c.loop-k.forms c.loop-k.k c.drive.new.form c.index-forms-k.result
          c.drive.ensures.kind ∙ c.loop-k.invariant.kinds;
    }
