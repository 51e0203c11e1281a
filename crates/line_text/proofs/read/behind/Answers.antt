use Rattle.std.proofs.Common.{◌≡◌, ◌≢◌, ◌++◌, ℕ, List, Option, Some, None, IfSome, IfNone, Bor}
use Rattle.std.specs.Option.{MatchOption}
use Rattle.std.proofs.lemmas.Bool.Decides.{Decides-eqb}
use Rattle.std.proofs.lemmas.Slice.Eq.{strip_prefix_is}
use Rattle.line_text.proofs.read.behind.Goals as goal

some_of : (o : Option (Bor (List ℕ))) (text front : List ℕ)
    → MatchOption o ((rest : List ℕ) → text ≢ front ++ rest) (λ x. text ≡ front ++ x.now)
    → IfSome o (λ x. text ≡ front ++ x.now)
some_of None text front h = tt
some_of (Some x) text front h = h

none_of : (o : Option (Bor (List ℕ))) (text front : List ℕ)
    → MatchOption o ((rest : List ℕ) → text ≢ front ++ rest) (λ x. text ≡ front ++ x.now)
    → IfNone o ((rest : List ℕ) → ¬ (text ≡ front ++ rest))
none_of None text front h = h
none_of (Some x) text front h = tt

pub returns-clause-some : goal.returns-clause-some
returns-clause-some c =
    some_of c.strip_prefix.result c.args.text.now c.args.front.now
    (strip_prefix_is Decides-eqb c.args.text.now c.args.front.now c.strip_prefix.result c.strip_prefix.ensures.cases)

pub returns-clause-none : goal.returns-clause-none
returns-clause-none c =
    none_of c.strip_prefix.result c.args.text.now c.args.front.now
    (strip_prefix_is Decides-eqb c.args.text.now c.args.front.now c.strip_prefix.result c.strip_prefix.ensures.cases)
