use Rattle.std.proofs.Common.{sym, subst}
use Rattle.beam.specs.declared.ways.Turn.{Turn}
use Rattle.beam.specs.Ways.{IsTurn}
use Rattle.beam.proofs.Sides.{moved}
use Rattle.beam.proofs.ways.next.Goals as goal

pub returns : goal.returns
returns c = (c.sides.ensures, subst (λ (u : Turn). IsTurn u) (sym c.sides.ensures) (moved c.args.turn c.requires))
