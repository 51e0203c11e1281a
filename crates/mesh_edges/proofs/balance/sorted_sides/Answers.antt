use Rattle.std.proofs.Common.{◌≡◌, ◌<◌, List, arith, subst, sym}
use Rattle.std.specs.List.Sorted.{IsPermutation}
use Rattle.std.proofs.lemmas.Grind.{common_steps}
use Rattle.std.proofs.lemmas.List.Sorted.{All-permutation}
use Rattle.mesh_edges.specs.Pairs.{AreRising}
use Rattle.mesh_edges.specs.declared.pairs.Pair.{Pair}
use Rattle.mesh_edges.proofs.EdgeCounts.{pairs_moved}
use Rattle.mesh_edges.proofs.balance.sorted_sides.Goals as goal

moved_to : (xs from ys zs : List Pair) → from ≡ xs → zs ≡ ys → IsPermutation from ys → IsPermutation xs zs
moved_to xs from ys zs e f p =
    subst (λ (t : List Pair). IsPermutation t zs) e (subst (λ (t : List Pair). IsPermutation from t) (sym f) p)

pub returns-clause-pairs : goal.returns-clause-pairs
returns-clause-pairs c =
    pairs_moved c.args.faces.now _ _ _ _ c.in_ok-sides.ensures.pairs
    (moved_to _ _ _ _ c.deref_mut.ensures.value (grind (arith, common_steps)) c.sort_pairs.ensures.moved)
    (moved_to _ _ _ _ c.deref_mut-2.ensures.value (grind (arith, common_steps)) c.sort_pairs-2.ensures.moved)

rising_to : (xs from ys zs : List Pair) → from ≡ xs → zs ≡ ys → IsPermutation from ys → AreRising xs → AreRising zs
rising_to xs from ys zs e f p r = All-permutation (λ (q : Pair). q.first < q.second) xs zs (moved_to xs from ys zs e f p) r

pub returns-clause-rising : goal.returns-clause-rising
returns-clause-rising c = (
  rising_to _ _ _ _ c.deref_mut.ensures.value (grind (arith, common_steps)) c.sort_pairs.ensures.moved
      c.in_ok-sides.ensures.rising.0,
  rising_to _ _ _ _ c.deref_mut-2.ensures.value (grind (arith, common_steps)) c.sort_pairs-2.ensures.moved
      c.in_ok-sides.ensures.rising.1,
)
