use Rattle.std.proofs.Common.{◌≡◌, ◌++◌, ℕ, List, Option, Some, None, IfNone, Bor}
use Rattle.line_text.specs.Numbers.{ended, counted, line_feed, BeginsWithNone}
use Rattle.geo_sign.specs.Numbers.{IsBetween}
use Rattle.line_text.proofs.Codes.{none_behind}
use Rattle.line_text.proofs.read.counted_within.Goals as goal

none_so : (o : Option (ℕ × Bor (List ℕ))) (least greatest : ℕ) (text word behind : List ℕ) → text ≡ word ++ behind
    → IfNone o (BeginsWithNone (IsBetween least greatest) (λ n. ended n line_feed) behind)
    → IfNone o (BeginsWithNone (IsBetween least greatest) (counted word) text)
none_so None least greatest text word behind is none =
    none_behind (IsBetween least greatest) word (λ n. ended n line_feed) text behind is none
none_so (Some x) least greatest text word behind is none = tt

pub returns-clause-none : goal.returns-clause-none
returns-clause-none c =
    none_so c.number_within.result c.args.least c.args.greatest c.args.text.now c.args.word.now c.in_ok-rest.rest.now
    c.in_ok-rest.ensures.some c.number_within.ensures.none
