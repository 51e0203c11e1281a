-- What holds of verdicts, and of minimum cuts with the smallest inside.
--
--   OneVerdict            no labels and flow have two verdicts
--   HasLeastInside        each network has a minimum cut with the smallest inside
--   LeastInsideIsUnique   no network has two
use Rattle.std.specs.Prelude.{◌≡◌}
use Rattle.flow_net.specs.declared.Net.{Net}
use Rattle.flow_net.specs.declared.Labels.{Labels}
use Rattle.flow_net.specs.declared.Flow.{Flow}
use Rattle.flow_net.specs.Numbered.{NumberedNetwork}
use Rattle.flow_net.specs.NumberedFlows.{IsLeastInside}
use Rattle.flow_check.specs.declared.verdict.Verdict.{Verdict}
use Rattle.flow_check.specs.Verdicts.{IsVerdict}

-- no labels and flow have two verdicts
abbrev pub OneVerdict : Type 0
OneVerdict =
    (net : Net) (labels : Labels) (flow : Flow) (verdict other : Verdict) → IsVerdict net labels flow verdict
    → IsVerdict net labels flow other → verdict ≡ other

-- each network has a minimum cut with the smallest inside
abbrev pub HasLeastInside : Type 0
HasLeastInside = (net : NumberedNetwork) → (labels : Labels) × IsLeastInside net labels

-- no network has two minimum cuts with the smallest inside
abbrev pub LeastInsideIsUnique : Type 0
LeastInsideIsUnique = (net : NumberedNetwork) (labels other : Labels) → IsLeastInside net labels → IsLeastInside net other → labels ≡ other
