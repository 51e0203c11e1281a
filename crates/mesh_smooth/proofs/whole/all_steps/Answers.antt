use Rattle.std.proofs.Common.{ℕ, refl, sym, subst, ◌∙◌}
use Rattle.std.specs.List.{All}
use Rattle.mesh_flips.specs.Turns.{IsTriangle}
use Rattle.mesh_smooth.proofs.Shapes.{unshaped, shaped_on}
use Rattle.mesh_smooth.proofs.whole.all_steps.Goals as goal

pub loop-init : goal.loop-init
loop-init c =
    record { each = c.requires.each; near = c.requires.near; shape = unshaped c.args.points.now c.args.faces.now; still = λ off. refl }

pub loop-preserved : goal.loop-preserved
loop-preserved c =
    record {
      each = subst (λ (n : ℕ). All (IsTriangle n) c.smooth_and_flip.new.faces)
          (c.loop.invariant.near.count ∙ sym c.smooth_and_flip.ensures.near.count) c.smooth_and_flip.ensures.each;
      near = c.smooth_and_flip.ensures.near;
      shape = shaped_on c.args.points.now c.loop.points c.smooth_and_flip.new.points c.args.faces.now c.loop.faces
          c.smooth_and_flip.new.faces c.loop.invariant.shape c.in_ok-hints.ensures.shape;
      still = λ off. c.smooth_and_flip.ensures.still off ∙ c.loop.invariant.still off;
    }
