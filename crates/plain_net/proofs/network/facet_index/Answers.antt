use Rattle.std.proofs.Common.{arith, [], get_or, true, ◌≡◌, ◌∙◌, ap}
use Rattle.std.proofs.lemmas.List.{get_or_default}
use Rattle.geo_sign.specs.Tetrahedron.{DirectedFacet, facet_at, is_same_facet}
use Rattle.plain_net.proofs.Searches.{first_found, none_found}
use Rattle.plain_net.proofs.network.facet_index.Goals as goal

pub returns : goal.returns
returns c =
    none_found (λ numbers. is_same_facet (facet_at numbers) c.args.facet) c.args.facets.now []
    (λ i d l. c.loop-index.invariant i d (omega arith))

pub returns-then-is : goal.returns-then-is
returns-then-is c =
    let test : true ≡ is_same_facet (facet_at (get_or c.args.facets.now c.loop-index.index [])) c.args.facet =
    c.if-is.ensures ∙ ap (λ (f : DirectedFacet). is_same_facet f c.args.facet) c.at.ensures in
    first_found (λ numbers. is_same_facet (facet_at numbers) c.args.facet) c.args.facets.now c.loop-index.index
    (get_or c.args.facets.now c.loop-index.index []) (omega arith)
    (get_or_default c.args.facets.now c.loop-index.index [] _ (omega arith)) c.loop-index.invariant test
