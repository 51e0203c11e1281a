-- A table filled along a list of distinct numbers keeps what was written before.
use Rattle.std.proofs.Common.{ℕ, ◌+◌, ◌<◌, ◌≡◌, ◌≢◌, sym, ap, ◌∙◌, ⊎_elim, arith, List, length, get_or, set}
use Rattle.std.proofs.lemmas.Bool.{cases_eq}
use Rattle.std.proofs.lemmas.List.{get_or_default, get_or-set_same, get_or-set_other}
use Rattle.cell_net.specs.Parts.{AreDistinctBy}
use Rattle.votes.specs.Tables.{AreNumberedTo}

pub numbered_more : {X : Type 0} (f : X → ℕ) (xs : List X) (table : List ℕ) (n p : ℕ) (x : X) → AreDistinctBy f xs → n < length xs
    → AreNumberedTo f xs table n → x ≡ get_or xs n x → p ≡ f x → p < length table → AreNumberedTo f xs (set table p n) (n + 1)
numbered_more f xs table n p x h l old at e m i d li =
    ⊎_elim
    (λ (same : i ≡ n).
    let here : get_or xs i d ≡ x = ap (λ (k : ℕ). get_or xs k d) same ∙ get_or_default xs n d x l ∙ sym at in
    ap (λ (k : ℕ). get_or (set table p n) k 0) (ap f here ∙ sym e) ∙ get_or-set_same table p n 0 m ∙ sym same)
    (λ (other : i ≢ n).
    let k : i < n = omega (arith, li, other) in
    let there : get_or xs n d ≡ x = get_or_default xs n d x l ∙ sym at in
    let away : f (get_or xs i d) ≢ p = λ g. other (h i n d (omega (arith, k, l)) l (g ∙ e ∙ sym (ap f there))) in
    get_or-set_other table p (f (get_or xs i d)) n 0 away ∙ old i d k)
    (cases_eq i n)
