-- The first of a list, by number and as it stands.
use Rattle.std.proofs.Common.{ℕ, ◌≡◌, ◌<◌, ap, sym, ◌∙◌, arith, List, [], length, get_or}
use Rattle.flow_net.specs.Firsts.{IsFirst}
use Rattle.visibility.proofs.Indices.{index_has}
use Rattle.recon_check.specs.Claims.{IsFirstOf, NoneOf}

-- a property has one first number
pub one_first : (n j k : ℕ) (P : ℕ → Type 0) → IsFirst n P j → IsFirst n P k → j ≡ k
one_first n j k P a b =
    let not_less : ¬ (j < k) = λ l. b.none_before j l a.has in
    let not_more : ¬ (k < j) = λ l. a.none_before k l b.has in
    omega (arith, not_less, not_more)

-- and one first row
pub one_first_of : (rows : List (List ℕ)) (row other : List ℕ) (P : List ℕ → Type 0) → IsFirstOf rows P row
    → IsFirstOf rows P other → row ≡ other
one_first_of rows row other P a b =
    a.row_is ∙ ap (λ (k : ℕ). get_or rows k [])
    (one_first (length rows) a.place b.place (λ k. P (get_or rows k [])) a.first b.first) ∙ sym b.row_is

-- none has what the first has
pub not_first_of : (rows : List (List ℕ)) (row : List ℕ) (P : List ℕ → Type 0) → NoneOf rows P → IsFirstOf rows P row → ⊥
not_first_of rows row P none h = none (get_or rows h.place []) (index_has rows h.place h.first.in_range) h.first.has
