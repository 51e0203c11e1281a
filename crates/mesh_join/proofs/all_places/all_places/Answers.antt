use Rattle.std.proofs.Common.{◌≡◌, List, arith, sym, subst}
use Rattle.std.specs.List.Sorted.{IsPermutation}
use Rattle.std.proofs.lemmas.Grind.{common_steps}
use Rattle.geo_sign.specs.Point.{Point}
use Rattle.mesh_join.proofs.AllPlaces.{are_places_if}
use Rattle.mesh_join.proofs.all_places.all_places.Goals as goal

moved_to : (xs from ys zs : List Point) → from ≡ xs → zs ≡ ys → IsPermutation from ys → IsPermutation xs zs
moved_to xs from ys zs e f p =
    subst (λ (t : List Point). IsPermutation t zs) e (subst (λ (t : List Point). IsPermutation from t) (sym f) p)

pub returns : goal.returns
returns c =
    are_places_if c.args.meshes.now c.in_ok-points.points.items c.deref.result.now c.each_once.result c.in_ok-points.ensures
    (rw c.deref.ensures.value (moved_to _ _ _ _ c.deref_mut.ensures.value (grind (arith, common_steps)) c.sort.ensures.moved))
    c.each_once.ensures.rising c.each_once.ensures.same
