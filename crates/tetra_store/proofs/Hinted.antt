-- Joining edges once more, in another order.
--
-- Where a hint was wrong, the edges before it are joined, and the rest are not. Joining all of them in any order then gives
-- what it would have given at once: which numbers are live and what the cells' vertices are did not change, every side of a
-- cell that some edge names is written anew, and no other side was written.
use Rattle.std.proofs.Common.{List, length, ◌∙◌}
use Rattle.std.specs.List.Sorted.{IsPermutation}
use Rattle.std.proofs.lemmas.List.Sorted.{Contains-permutation}
use Rattle.tetra_store.specs.declared.edge.Edge.{Edge}
use Rattle.tetra_store.specs.Links.{Links}
use Rattle.tetra_store.specs.Steps.{AreJoined, CanJoinEdges}

pub can_again : (a m : Links) (edges xs : List Edge) → AreJoined a m edges 0 → CanJoinEdges a xs → CanJoinEdges m xs
can_again a m edges xs h can = record {
  pairs = can.pairs;
  once = can.once;
  live = λ x c. h.live x.cell ∙ can.live x c;
  small = can.small;
  side_in = can.side_in;
}

pub AreJoined_again : (a m b : Links) (edges xs : List Edge) → AreJoined a m edges 0 → IsPermutation edges xs
    → AreJoined m b xs (length xs) → AreJoined a b xs (length xs)
AreJoined_again a m b edges xs h moved g = record {
  live = λ x. g.live x ∙ h.live x;
  same = λ x. g.same x ∙ h.same x;
  joined = g.joined;
  others = λ y k none. g.others y k none ∙ h.others y k (λ x c s e. none x (Contains-permutation edges xs x moved c) s e);
}
