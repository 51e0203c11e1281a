use Rattle.std.proofs.Common.{arith}
use Rattle.geo_sign.specs.Tetrahedron.{tetrahedron, is_among}
use Rattle.plain_net.proofs.Searches.{first_found, none_more, none_found}
use Rattle.plain_net.proofs.facets.index_of.Goals as goal

pub returns-then-has : goal.returns-then-has
returns-then-has c =
    first_found (λ t. is_among t c.args.facet) c.args.cells.now c.loop-index.index c.index-cells-index.result (omega arith)
    c.index-cells-index.is c.loop-index.invariant c.if-has.ensures

pub loop-index-preserved : goal.loop-index-preserved
loop-index-preserved c =
    none_more (λ t. is_among t c.args.facet) c.args.cells.now c.loop-index.index c.index-cells-index.result (omega arith)
    c.index-cells-index.is c.loop-index.invariant c.if-has.ensures

pub returns : goal.returns
returns c =
    none_found (λ t. is_among t c.args.facet) c.args.cells.now (tetrahedron 0 0 0 0)
    (λ i d l. c.loop-index.invariant i d (omega arith))
