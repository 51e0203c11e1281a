-- Rising lists of rows: the order of rows is strict, and what a rising list contains determines it.
use Rattle.std.proofs.Common.{ℕ, suc, ◌<◌, ◌≡◌, ◌⊎◌, inl, inr, ⊎_elim, refl, ap, sym, subst, ◌∙◌, arith, List, [], ◌∷◌, length}
use Rattle.std.proofs.Common.{Contains}
use Rattle.std.specs.Prelude.{AllPairs}
use Rattle.geo_sign.specs.Rising.{IsBefore}
use Rattle.geo_sign.specs.RisingLaws.{RisingLaw, CellListLaw}
use Rattle.geo_sign.proofs.Members.{here, there}

-- ---- the order of rows
pub before_trans : (a b c : List ℕ) → IsBefore a b → IsBefore b c → IsBefore a c
before_trans [] b c h k = absurd h
before_trans (x ∷ a) [] c h k = absurd h
before_trans (x ∷ a) (y ∷ b) [] h k = absurd k
before_trans (x ∷ a) (y ∷ b) (z ∷ c) h k =
    ⊎_elim (λ l. ⊎_elim (λ m. inl (omega arith)) (λ m. inl (omega (arith, m.0))) k)
    (λ l. ⊎_elim (λ m. inl (omega (arith, l.0))) (λ m. inr (l.0 ∙ m.0, before_trans a b c l.1 m.1)) k) h

pub not_before_self : (a : List ℕ) → ¬ IsBefore a a
not_before_self [] h = h
not_before_self (x ∷ a) h = ⊎_elim (λ l. absurd (omega arith)) (λ l. not_before_self a l.1) h

pub not_before_none : (a : List ℕ) → ¬ IsBefore a []
not_before_none [] h = h
not_before_none (x ∷ a) h = h

-- ---- a rising list is given by what it contains
pub contains_none : (t : List ℕ) → ¬ Contains [] t
contains_none t h = let e : h.0 < 0 = h.1 in absurd (omega arith)

pub contains_cases : (y : List ℕ) (ys : List (List ℕ)) (t : List ℕ) → Contains (y ∷ ys) t → (y ≡ t) ⊎ Contains ys t
contains_cases y ys t h = grind arith

pub head_before : (y : List ℕ) (ys : List (List ℕ)) (t : List ℕ) → AllPairs IsBefore (y ∷ ys) → Contains ys t → IsBefore y t
head_before y ys t r h =
    subst (λ (z : List ℕ). IsBefore y z) h.2 (r 0 (suc h.0) t (omega arith) (let l : h.0 < length ys = h.1 in omega arith))

pub tail_rises : (y : List ℕ) (ys : List (List ℕ)) → AllPairs IsBefore (y ∷ ys) → AllPairs IsBefore ys
tail_rises y ys r = λ i j d l m. r (suc i) (suc j) d (omega arith) (omega arith)

heads_equal : (x y : List ℕ) (xs ys : List (List ℕ)) → AllPairs IsBefore (x ∷ xs) → AllPairs IsBefore (y ∷ ys)
    → Contains (y ∷ ys) x → Contains (x ∷ xs) y → x ≡ y
heads_equal x y xs ys r s h k =
    ⊎_elim (λ e. sym e)
    (λ l. ⊎_elim (λ e. e)
    (λ m. absurd (not_before_self x (before_trans x y x (head_before x xs y r m) (head_before y ys x s l))))
    (contains_cases x xs y k))
    (contains_cases y ys x h)

-- what a rising list has after its head is in the other list after its head
tails_agree : (x y : List ℕ) (xs ys : List (List ℕ)) → x ≡ y → AllPairs IsBefore (x ∷ xs) → (t : List ℕ)
    → (Contains (x ∷ xs) t → Contains (y ∷ ys) t) → Contains xs t → Contains ys t
tails_agree x y xs ys e r t f h =
    ⊎_elim (λ g. absurd (not_before_self x (subst (λ (z : List ℕ). IsBefore x z) (sym (e ∙ g)) (head_before x xs t r h))))
    (λ l. l) (contains_cases y ys t (f (there x t xs h)))

pub rising_law : RisingLaw
rising_law [] [] r s h = refl
rising_law [] (y ∷ ys) r s h = absurd (contains_none y ((h y).1 (here y ys)))
rising_law (x ∷ xs) [] r s h = absurd (contains_none x ((h x).0 (here x xs)))
rising_law (x ∷ xs) (y ∷ ys) r s h =
    let e : x ≡ y = heads_equal x y xs ys r s ((h x).0 (here x xs)) ((h y).1 (here y ys)) in
    let rest : xs ≡ ys =
    rising_law xs ys (tail_rises x xs r) (tail_rises y ys s)
    (λ t. (tails_agree x y xs ys e r t (h t).0, tails_agree y x ys xs (sym e) s t (h t).1)) in
    ap (λ z. z ∷ xs) e ∙ ap (λ zs. y ∷ zs) rest

pub cell_list_law : CellListLaw
cell_list_law v rows others h k =
    rising_law rows others h.rising k.rising (λ row. (λ c. k.all row (h.cells row c), λ c. h.all row (k.cells row c)))
