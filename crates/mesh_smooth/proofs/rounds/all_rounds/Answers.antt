use Rattle.std.proofs.Common.{arith, inl, inr, refl, ℕ, ◌≡◌, ◌⊎◌}
use Rattle.mesh_smooth.proofs.Pairs.{all_asked}
use Rattle.mesh_smooth.proofs.rounds.all_rounds.Goals as goal

pub loop-init : goal.loop-init
loop-init c =
    record {
      either = λ v. inl refl;
      tree = c.requires.tree;
      kept = all_asked c.args.before.now c.args.points.now c.args.faces.now c.ask_all.new.asked
          (λ k l. c.ask_all.ensures k (omega (arith, l)));
    }
