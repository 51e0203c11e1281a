use Rattle.std.proofs.lemmas.Bool.{OnTrue_from, OnFalse_from, eqb-true, false≢true, eq-eqb}
use Rattle.std.proofs.Common.{sym, ◌∙◌, get_or}
use Rattle.mesh_edges.proofs.Tops.{first_own, not_first}
use Rattle.mesh_edges.proofs.forest.is_own.Goals as goal

pub returns-clause-yes : goal.returns-clause-yes
returns-clause-yes c =
    OnTrue_from _ _
    (λ yes. first_own c.args.parents.now c.args.i c.requires.forest (eqb-true (get_or c.args.parents.now c.args.i 0) c.args.i yes))

pub returns-clause-no : goal.returns-clause-no
returns-clause-no c =
    OnFalse_from _ _
    (λ no.
    not_first c.args.parents.now c.args.i c.requires.forest c.requires.within
    (λ e. false≢true (sym no ∙ eq-eqb (get_or c.args.parents.now c.args.i 0) c.args.i e)))
