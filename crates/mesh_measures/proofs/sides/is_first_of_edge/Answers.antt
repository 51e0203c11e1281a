use Rattle.std.proofs.Common.{◌∙◌, sym, not, ap, eqb}
use Rattle.std.proofs.lemmas.Bool.{OnTrue_from, eq-eqb, false≢true}
use Rattle.mesh_measures.specs.Sides.{IsFirstOfEdge}
use Rattle.mesh_measures.proofs.Runs.{first_yes}
use Rattle.mesh_measures.proofs.sides.is_first_of_edge.Goals as goal

pub returns-clause-yes : goal.returns-clause-yes
returns-clause-yes c =
    OnTrue_from (not (eqb c.key_at.result c.key_at-2.result)) (IsFirstOfEdge c.args.sides.now c.args.i)
    (λ yes.
    first_yes c.args.sides.now c.requires.sorted c.args.i c.requires.within
    (λ e.
    false≢true
    (ap not (sym (eq-eqb c.key_at.result c.key_at-2.result (c.key_at.ensures ∙ (e ∙ sym c.key_at-2.ensures)))) ∙ yes)))
