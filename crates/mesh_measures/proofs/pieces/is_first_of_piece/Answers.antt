use Rattle.std.proofs.Common.{arith}
use Rattle.std.proofs.lemmas.Bool.{OnFalse_at, OnFalse_from, OnTrue_at, OnTrue_from}
use Rattle.mesh_measures.specs.Pieces.{IsFirstOfPiece}
use Rattle.mesh_measures.proofs.pieces.is_first_of_piece.Goals as goal

pub returns-clause-yes : goal.returns-clause-yes
returns-clause-yes c =
    OnTrue_from c.is_first.result (IsFirstOfPiece c.args.faces.now c.args.f)
    (λ yes g less path.
    OnTrue_at yes c.is_first.ensures.yes g less
    (c.requires.sets.kept c.args.f g (omega (arith, c.requires.sets.count, c.requires.within)) path))

pub returns-clause-no : goal.returns-clause-no
returns-clause-no c =
    OnFalse_from c.is_first.result (IsFirstOfPiece c.args.faces.now c.args.f → ⊥)
    (λ no first.
    let j = OnFalse_at no c.is_first.ensures.no in
    first j.0 j.1 (c.requires.sets.only c.args.f j.0 j.2))
