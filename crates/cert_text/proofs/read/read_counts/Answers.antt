-- Six lines of a word and a number each, the last of which alone may be of 64 bits.
--
-- A refusal in a line is that of the whole, as the lines before it were read: number_good puts a read line in front of what
-- is refused behind it, so each goal is such a chain, longer by one than the goal before. Where nothing is refused, the six
-- texts are those of the counts (counts_are).
use Rattle.std.proofs.Common.{arith}
use Rattle.line_text.proofs.Rows.{IfErr-holds}
use Rattle.line_text.proofs.Parts.{number_refused, number_good, behind_number}
use Rattle.cert_text.specs.Refusals.{RefusedCounts}
use Rattle.cert_text.proofs.CountLemmas.{refused_at, counts_are}
use Rattle.cert_text.proofs.read.read_counts.Goals as goal

pub returns-in_err-scanners-clause-refused : goal.returns-in_err-scanners-clause-refused
returns-in_err-scanners-clause-refused c = grind (arith, IfErr-holds, number_good, number_refused)

pub returns-in_err-sights-clause-refused : goal.returns-in_err-sights-clause-refused
returns-in_err-sights-clause-refused c = grind (arith, IfErr-holds, number_good, number_refused)

pub returns-in_err-vote-clause-refused : goal.returns-in_err-vote-clause-refused
returns-in_err-vote-clause-refused c = grind (arith, IfErr-holds, number_good, number_refused)

pub returns-in_err-smooth-clause-refused : goal.returns-in_err-smooth-clause-refused
returns-in_err-smooth-clause-refused c = grind (arith, IfErr-holds, number_good, number_refused)

pub returns-in_err-cost-clause-refused : goal.returns-in_err-cost-clause-refused
returns-in_err-cost-clause-refused c =
    IfErr-holds c.from_residual-in_err-cost.result c.in_err-cost.field-0.0 (RefusedCounts c.args.line c.args.text.now)
    c.from_residual-in_err-cost.ensures.1
    (number_good _ _ _ _ _ _ _ _ _ _ c.points.ensures c.in_ok-points.ensures.ok.0 c.in_ok-points.ensures.ok.1
    (number_good _ _ _ _ _ _ _ _ _ _ c.scanners.ensures c.in_ok-scanners.ensures.ok.0 c.in_ok-scanners.ensures.ok.1
    (number_good _ _ _ _ _ _ _ _ _ _ c.sights.ensures c.in_ok-sights.ensures.ok.0 c.in_ok-sights.ensures.ok.1
    (number_good _ _ _ _ _ _ _ _ _ _ c.vote.ensures c.in_ok-vote.ensures.ok.0 c.in_ok-vote.ensures.ok.1
    (number_good _ _ _ _ _ _ _ _ _ _ c.smooth.ensures c.in_ok-smooth.ensures.ok.0 c.in_ok-smooth.ensures.ok.1
    (refused_at _ _ _ _ _ _ _ c.cost.ensures c.in_err-cost.ensures.refused))))))

pub returns-clause-ok : goal.returns-clause-ok
returns-clause-ok c = (
  record {
    points = omega (arith, c.in_ok-points.ensures.ok.0.1);
    scanners = omega (arith, c.in_ok-scanners.ensures.ok.0.1);
    sights = omega (arith, c.in_ok-sights.ensures.ok.0.1);
    vote = omega (arith, c.in_ok-vote.ensures.ok.0.1);
    smooth = omega (arith, c.in_ok-smooth.ensures.ok.0.1);
    cost = omega (arith, c.in_ok-cost.ensures.ok.0.1);
  },
  counts_are _ _ _ _ _ _ _ _ (behind_number _ _ _ _ _ c.points.ensures c.in_ok-points.ensures.ok.1)
      (behind_number _ _ _ _ _ c.scanners.ensures c.in_ok-scanners.ensures.ok.1)
      (behind_number _ _ _ _ _ c.sights.ensures c.in_ok-sights.ensures.ok.1)
      (behind_number _ _ _ _ _ c.vote.ensures c.in_ok-vote.ensures.ok.1)
      (behind_number _ _ _ _ _ c.smooth.ensures c.in_ok-smooth.ensures.ok.1)
      (behind_number _ _ _ _ _ c.cost.ensures c.in_ok-cost.ensures.ok.1),
)
