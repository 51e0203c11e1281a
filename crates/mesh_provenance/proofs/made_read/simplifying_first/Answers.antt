use Rattle.std.proofs.Common.{List, ℕ, ◌-◌, ◌^◌, subst}
use Rattle.line_text.specs.Numbers.{counted, BeginsWithNone}
use Rattle.geo_sign.specs.Numbers.{IsBetween}
use Rattle.line_text.proofs.Kept.{IfNone-holds}
use Rattle.mesh_provenance.proofs.MadeCodes.{no_distance, no_faces}
use Rattle.mesh_provenance.proofs.made_read.simplifying_first.Goals as goal

pub returns-in_err-within-clause-none : goal.returns-in_err-within-clause-none
returns-in_err-within-clause-none c = IfNone-holds _ _ (no_distance c.args.text.now c.in_err-within.ensures.none)

pub returns-in_err-count-clause-none : goal.returns-in_err-count-clause-none
returns-in_err-count-clause-none c =
    IfNone-holds _ _
    (no_faces c.args.text.now c.in_ok-within.rest.now c.surface_first-surface.result.1.now c.moves_first-moves.result.1.now
    c.in_ok-within.within c.surface_first-surface.result.0 c.moves_first-moves.result.0 c.in_ok-within.ensures.some.0
    c.in_ok-within.ensures.some.1 c.surface_first-surface.ensures.is c.surface_first-surface.ensures.none c.moves_first-moves.ensures.is
    c.moves_first-moves.ensures.none
    (subst (λ (w : List ℕ). BeginsWithNone (IsBetween 0 (2 ^ 32 - 1)) (counted w) c.moves_first-moves.result.1.now) c.faces.ensures
    c.in_err-count.ensures.none))
