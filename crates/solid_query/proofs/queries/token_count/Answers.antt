use Rattle.std.proofs.Common.{rules, tests, not, length, ap, ◌∙◌, ◌==◌}
use Rattle.std.specs.Slice.Iter.{split_rest, split_done, split_callee}
use Rattle.std.proofs.lemmas.Iterator.Consumers.{count_from_yields_List, YieldsList-from_filter}
use Rattle.std.proofs.lemmas.Iterator.Splits.{YieldsList-from_slice_split}
use Rattle.ply_rows.specs.Tokens.{is_white_space}
use Rattle.solid_query.proofs.queries.token_count.Goals as goal

pub returns : goal.returns
returns c =
    count_from_yields_List _ _ c.count.ensures.ran
    (YieldsList-from_filter _ (λ token. not (length token == 0))
    (YieldsList-from_slice_split _ is_white_space c.args.bytes.now
    (ap split_rest c.filter.ensures.source ∙ c.split.ensures.rest)
    (ap split_done c.filter.ensures.source ∙ c.split.ensures.done)
    (ap split_callee c.filter.ensures.source ∙ c.split.ensures.closure)
    (λ x r q k. search (rules, tests)))
    c.filter.ensures.closure
    (λ x r q k. search (rules, tests)))
