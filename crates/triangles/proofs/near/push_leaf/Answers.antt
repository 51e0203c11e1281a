use Rattle.triangles.proofs.Leaves.{all_of_leaf}
use Rattle.triangles.proofs.near.push_leaf.Goals as goal

pub returns-clause-all : goal.returns-clause-all
returns-clause-all c =
    let two = c.in_ok-push_number-2.ensures.kept in
    let three = c.in_ok-push_number-3.ensures.kept in
    let four = c.in_ok-push_number-4.ensures.kept in
    all_of_leaf _ _ (four _ (three _ (two _ c.in_ok-push_number.ensures.has)))
    (four _ (three _ c.in_ok-push_number-2.ensures.has)) (four _ c.in_ok-push_number-3.ensures.has)
    c.in_ok-push_number-4.ensures.has

pub returns-clause-kept : goal.returns-clause-kept
returns-clause-kept c =
    λ i had. c.in_ok-push_number-4.ensures.kept i
    (c.in_ok-push_number-3.ensures.kept i (c.in_ok-push_number-2.ensures.kept i (c.in_ok-push_number.ensures.kept i had)))
