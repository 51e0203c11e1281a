use Rattle.std.proofs.Common.{ℕ, ◌≡◌, ◌≤◌, ◌<◌, ◌⊎◌, ◌∙◌, inl, inr, length, get_or, arith}
use Rattle.mesh_edges.proofs.Trails.{stay_any}
use Rattle.mesh_edges.proofs.walk.walk_on.Goals as goal

pub steps-preserved : goal.steps-preserved
steps-preserved c =
    let was = c.steps.invariant in
    let step = c.in_ok-advance.ensures.step in
    let mid = c.steps.walk.labels.items in
    let new = c.advance.new.walk.labels.items in
    record {
      walk = step.walk;
      count = step.count ∙ was.count;
      stay = λ h l big. stay_any mid new step.count step.stay h (was.stay h l big);
      kept = λ h on.
          elim (was.kept h on) [ inl big ↦ inl (stay_any mid new step.count step.stay h big) | inr still ↦ step.kept h still ];
    }

pub returns-clause-settled : goal.returns-clause-settled
returns-clause-settled c = λ h on.
    elim (c.steps.invariant.kept h on) [
      | inl big ↦ big
      | inr (i, a, b, e) ↦ absurd (let n = c.steps.walk.trail.ok.0 in omega (arith, b, n, c.len.ensures, c.steps-test.false))
    ]
