use Rattle.std.proofs.Common.{refl, ◌∙◌, arith}
use Rattle.std.proofs.Math.Seq.{map-set_same}
use Rattle.line_text.proofs.Kept.{OnErr-holds}
use Rattle.sweep.proofs.Handings.{box_fresh, box_handed, boxes_left, boxes_stopped, none_handed, one_back}
use Rattle.sweep.proofs.handing.hand_rising.Goals as goal

pub loop-k-init : goal.loop-k-init
loop-k-init g c =
    record {
      given = refl;
      vote = refl;
      smooth = omega arith;
      handed = none_handed _ _ _ _ _ c.requires.fresh;
      kinds = refl;
    }

pub hand_surface-requires : goal.hand_surface-requires
hand_surface-requires g c = box_fresh _ _ _ _ _ _ _ _ c.loop-k.invariant.handed (omega arith)

pub returns-in_err-raise_to-clause-fronts : goal.returns-in_err-raise_to-clause-fronts
returns-in_err-raise_to-clause-fronts g c = OnErr-holds _ _ (boxes_left _ _ _ _ _ _ _ c.loop-k.invariant.handed)

pub returns-in_err-hand_surface-clause-fronts : goal.returns-in_err-hand_surface-clause-fronts
returns-in_err-hand_surface-clause-fronts g c =
    OnErr-holds _ _
    (boxes_stopped _ _ _ _ _ _ _ _ _ _ _ (c.in_ok-raise_to.ensures.given ∙ c.loop-k.invariant.given)
    (c.in_ok-raise_to.ensures.vote ∙ c.loop-k.invariant.vote) (omega (arith, c.in_ok-raise_to.ensures.smooth, c.smooth-from.ensures))
    c.loop-k.invariant.handed c.in_err-hand_surface.ensures.front)

pub returns-in_err-hand_surface-clause-kinds : goal.returns-in_err-hand_surface-clause-kinds
returns-in_err-hand_surface-clause-kinds g c =
    map-set_same (λ form. form.vtable) c.loop-k.forms c.loop-k.k c.hand_surface.new.form c.index-forms-k.result
    c.hand_surface.ensures.kind ∙ c.loop-k.invariant.kinds

pub loop-k-preserved : goal.loop-k-preserved
loop-k-preserved g c =
    record {
      given = c.in_ok-raise_to.ensures.given ∙ c.loop-k.invariant.given;
      vote = c.in_ok-raise_to.ensures.vote ∙ c.loop-k.invariant.vote;
      smooth =
          omega (
            arith,
            c.in_ok-raise_to.ensures.smooth,
            c.smooth-from.ensures,
            one_back c.args.sweep.now.settings.smooth c.args.step c.loop-k.k,
          );
      handed =
          box_handed _ _ _ _ _ _ _ _ _ _ _ (c.in_ok-raise_to.ensures.given ∙ c.loop-k.invariant.given)
          (c.in_ok-raise_to.ensures.vote ∙ c.loop-k.invariant.vote)
          (omega (arith, c.in_ok-raise_to.ensures.smooth, c.smooth-from.ensures)) c.loop-k.invariant.handed
          c.in_ok-hand_surface.ensures.all;
      kinds =
          map-set_same (λ form. form.vtable) c.loop-k.forms c.loop-k.k c.hand_surface.new.form c.index-forms-k.result
          c.hand_surface.ensures.kind ∙ c.loop-k.invariant.kinds;
    }
