-- The view of the code's steps.
use Rattle.ply_head.specs.Headers as headers
use Rattle.ply_head.specs.declared.steps.Step.{Step}
use Rattle.ply_head.specs.declared.steps.Step.TheVariants.{Goes, Ends}

-- the code's step as a value of the definitions: the header goes on, or is complete
abbrev pub step_view : Step → headers.Step
step_view (Goes so_far) = headers.goes so_far
step_view (Ends whole) = headers.ends whole
