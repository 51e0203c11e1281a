use Rattle.std.proofs.Common.{ℕ, ◌≡◌, ◌⊎◌, ◌<◌, ◌≤◌, ◌*◌, inl, inr, subst, arith}
use Rattle.mesh_smooth.specs.Smoothed.{IsLargestScale}
use Rattle.mesh_smooth.proofs.GridScales.{scale_found, scale_twice}
use Rattle.mesh_smooth.proofs.fine_grid.finest.Goals as goal
use Rattle.mesh_smooth.proofs.fine_grid.finest.Goals.{then-loop-fine-test+else-fine-reach-le-INNER_LIMIT, else-loop-fine-test}

pub loop-fine-preserved : goal.loop-fine-preserved
loop-fine-preserved c =
    let fits : c.loop-fine.fine * 2 * c.from-reach.result ≤ 4194304 = grind (arith, c.if-fine-reach-le-INNER_LIMIT.true) in
    record {
      scale = scale_twice c.loop-fine.fine c.loop-fine.invariant.scale (omega arith);
      fits = inr fits;
      bound = omega arith;
    }

pub returns-clause-scale : goal.returns-clause-scale
returns-clause-scale c =
    let fine = c.loop-fine.fine in
    let reach = c.from-reach.result in
    let end : (1024 ≤ fine) ⊎ (4194304 < 2 * (fine * reach)) =
    elim c.loop-fine-test.branch [
      | then-loop-fine-test+else-fine-reach-le-INNER_LIMIT w ↦ inr (omega arith)
      | else-loop-fine-test w ↦ inl (omega arith)
    ] in
    let same : reach ≡ c.args.reach = omega arith in
    subst (λ (n : ℕ). IsLargestScale (λ k. k * n ≤ 4194304) fine) same
    (scale_found fine reach 4194304 c.loop-fine.invariant.scale c.loop-fine.invariant.fits end)
