use Rattle.std.proofs.Common.{ℕ}
use Rattle.line_text.proofs.Kept.{OnErr-holds}
use Rattle.scan_rows.specs.Views.{shown_of}
use Rattle.sweep.specs.Entries.{CostsAt, Given}
use Rattle.sweep.proofs.Handings.{at_scan, costs_at, entries_at, fronts_at, fronts_of_fresh, last_at}
use Rattle.sweep.proofs.handing.hand_surfaces_watched.Goals as goal

pub returns-in_err-sweep-clause-fronts : goal.returns-in_err-sweep-clause-fronts
returns-in_err-sweep-clause-fronts g c = OnErr-holds _ _ (fronts_of_fresh _ _ _ _ _ c.requires.fresh)

pub returns-in_err-hand_rising-clause-fronts : goal.returns-in_err-hand_rising-clause-fronts
returns-in_err-hand_rising-clause-fronts g c =
    OnErr-holds _ _
    (fronts_at c.in_ok-sweep.sweep (shown_of c.args.scan.now) c.args.settings c.args.step _ c.in_ok-sweep.ensures.scan
    c.in_ok-sweep.ensures.settings c.in_err-hand_rising.ensures.fronts)

pub returns-clause-all : goal.returns-clause-all
returns-clause-all g c =
    entries_at c.in_ok-sweep.sweep (shown_of c.args.scan.now) c.args.settings c.args.step _ c.in_ok-sweep.ensures.scan
    c.in_ok-sweep.ensures.settings c.in_ok-hand_rising.ensures.all

pub returns-clause-first : goal.returns-clause-first
returns-clause-first g c =
    at_scan (λ (h : Given) (v l : ℕ). CostsAt h v l c.cost-first.result) c.in_ok-sweep.sweep (shown_of c.args.scan.now)
    c.args.settings c.in_ok-sweep.ensures.scan c.in_ok-sweep.ensures.settings
    (costs_at c.in_ok-sweep.sweep c.cost-first.result c.cost-first.ensures)

pub returns-clause-last : goal.returns-clause-last
returns-clause-last g c =
    last_at c.in_ok-sweep.sweep c.hand_rising.new.sweep (shown_of c.args.scan.now) c.args.settings c.args.step _ c.cost.result
    c.in_ok-sweep.ensures.scan c.in_ok-sweep.ensures.settings c.in_ok-hand_rising.ensures.given
    c.in_ok-hand_rising.ensures.vote c.in_ok-hand_rising.ensures.smooth c.cost.ensures
