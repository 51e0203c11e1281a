use Rattle.std.proofs.Common.{◌++◌, ◌∙◌, List, ℕ, [], ap, sym}
use Rattle.std.proofs.lemmas.List.{append-nil}
use Rattle.mesh_ply.specs.Texts.{mesh_text}
use Rattle.mesh_ply.proofs.MeshCodes.{mesh_code}
use Rattle.mesh_ply.proofs.laws.mesh_texts_are_distinct.Goals as goal

pub returns-clause-one_mesh : goal.returns-clause-one_mesh
returns-clause-one_mesh c = λ ps qs fs gs a b e.
    let same = mesh_code ps qs fs gs [] [] a b (ap (λ (t : List ℕ). t ++ []) e) in
    (same.0, same.1)

pub returns-clause-no_prefix : goal.returns-clause-no_prefix
returns-clause-no_prefix c = λ ps qs fs gs rest a b e.
    (mesh_code ps qs fs gs rest [] a b (e ∙ sym (append-nil (mesh_text qs gs)))).2
