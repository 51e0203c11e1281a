use Rattle.std.proofs.Common.{ℕ, ◌≡◌, ◌+◌, ◌∙◌, refl, List, length, get_or, set, sym, ap, subst, arith}
use Rattle.std.proofs.lemmas.List.{get_or_default}
use Rattle.mesh_pieces.specs.Chosen.{AreSizes}
use Rattle.mesh_pieces.proofs.Sizes.{sizes_more}
use Rattle.mesh_pieces.proofs.largest.sizes_of.Goals as goal

pub loop-k-preserved : goal.loop-k-preserved
loop-k-preserved c =
    let firsts = c.args.firsts.now in
    let sizes = c.loop-k.sizes.items in
    let f : ℕ = get_or firsts c.loop-k.k 0 in
    let l = c.requires c.loop-k.k c.loop-k-test.true in
    let at : get_or sizes (get_or firsts c.loop-k.k 0) 0 ≡ c.index.result.now =
    sym (c.index.ensures
    ∙ get_or_default sizes (get_or firsts c.loop-k.k 0) c.index.result.now 0
    (let w = c.loop-k.invariant.count in omega (arith, l, w))) in
    subst (λ (s : ℕ). AreSizes firsts (set sizes (get_or firsts c.loop-k.k 0) (s + 1)) (c.loop-k.k + 1)) at
    (sizes_more firsts sizes c.loop-k.k (get_or firsts c.loop-k.k 0) l refl c.loop-k.invariant)
