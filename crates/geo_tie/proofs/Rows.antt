-- Rising lists of rows, and the rows between two keys.
--
-- Four loops, one in another, go through a < b < c < d. Where they stand is a key, and the list has exactly the cells before
-- it (IsCellListBefore). To enter an inner loop, or to leave it for the next number of the outer one, changes the key but
-- not which cells come before it (Same: enter_one to leave_three), as a cell has four numbers that rise, below the number of
-- vertices. A step of the innermost loop adds its row where it is a cell (pushed, passed), as it is the only row between the
-- keys (or_this). The last key has all cells before it (all_before).
use Rattle.std.proofs.Common.{ℕ, ◌+◌, ◌<◌, ◌≤◌, ◌≡◌, ◌↔◌, ◌⊎◌, inl, inr, ⊎_elim, refl, sym, subst, arith}
use Rattle.std.proofs.Common.{List, [], ◌∷◌, ◌++◌, get_or, Contains, Bool, true, false, ltb}
use Rattle.std.proofs.lemmas.Bool.{ltb-true, ltb-false}
use Rattle.std.proofs.lemmas.List.Elements.{Contains-append_left, Contains-append_right, Contains-append_cases}
use Rattle.std.proofs.lemmas.List.Quantifiers.{all_pairs_push}
use Rattle.std.proofs.lemmas.List.{get_or_default}
use Rattle.geo_sign.specs.Vertices.{Vertices}
use Rattle.geo_sign.specs.Cells.{IsRisingCell, IsCellList, FormCell}
use Rattle.geo_sign.specs.Rising.{IsBefore}
use Rattle.geo_sign.proofs.Rising.{not_before_none, before_trans, contains_none, contains_cases}
use Rattle.geo_sign.proofs.CellRows.{last_below}
use Rattle.geo_sign.proofs.Members.{here}
use Rattle.geo_sign.proofs.RowLaws.{by_rising}
use Rattle.geo_tie.specs.Rising.{IsCellListBefore}

-- ---- a row that is a cell has four numbers
of_cell : (v : Vertices) (P : List ℕ → Type 0)
    → ((p q r s : ℕ) → p < q → q < r → r < s → FormCell v p q r s → P (p ∷ q ∷ r ∷ s ∷ [])) → (row : List ℕ)
    → IsRisingCell v row → P row
of_cell v P f = by_rising v P (λ p q r s h. f p q r s h.0 h.1 h.2 h.3)

-- ---- keys that the same cells come before
abbrev pub Same : (v : Vertices) (key other : List ℕ) → Type 0
Same v key other = (row : List ℕ) → IsRisingCell v row → IsBefore row key ↔ IsBefore row other

-- behind a number that both begin with
under : (p a : ℕ) (row key other : List ℕ) → (p ≡ a → IsBefore row key ↔ IsBefore row other) → IsBefore (p ∷ row) (a ∷ key)
    ↔ IsBefore (p ∷ row) (a ∷ other)
under p a row key other f =
    (λ h. ⊎_elim (λ l. inl l) (λ l. inr (l.0, (f l.0).0 l.1)) h, λ h. ⊎_elim (λ l. inl l) (λ l. inr (l.0, (f l.0).1 l.1)) h)

-- before a, and before a and the number after it
entered : (p q a : ℕ) (row : List ℕ) → p < q → IsBefore (p ∷ q ∷ row) (a ∷ []) ↔ IsBefore (p ∷ q ∷ row) (a ∷ (a + 1) ∷ [])
entered p q a row l =
    under p a (q ∷ row) [] ((a + 1) ∷ [])
    (λ e. (λ h. absurd h, λ h. ⊎_elim (λ m. absurd (omega (arith, e))) (λ m. absurd (not_before_none row m.1)) h))

-- before a and the number of all vertices, and before the number after a
left : (p q a n : ℕ) (row : List ℕ) → q < n → IsBefore (p ∷ q ∷ row) (a ∷ n ∷ []) ↔ IsBefore (p ∷ q ∷ row) ((a + 1) ∷ [])
left p q a n row l = (
  λ h. ⊎_elim (λ m. inl (omega arith)) (λ m. inl (omega (arith, m.0))) h,
  λ h. ⊎_elim (λ m. pick m (ltb p a) refl) (λ m. absurd (not_before_none (q ∷ row) m.1)) h,
)
  where
    pick : p < a + 1 → (b : Bool) → ltb p a ≡ b → IsBefore (p ∷ q ∷ row) (a ∷ n ∷ [])
    pick m true e = inl (ltb-true p a e)
    pick m false e = inr ((let k : a ≤ p = ltb-false p a e in omega arith), inl l)

pub enter_one : (v : Vertices) (a : ℕ) → Same v (a ∷ []) (a ∷ (a + 1) ∷ [])
enter_one v a =
    of_cell v (λ row. IsBefore row (a ∷ []) ↔ IsBefore row (a ∷ (a + 1) ∷ [])) (λ p q r s h k l c. entered p q a (r ∷ s ∷ []) h)

pub enter_two : (v : Vertices) (a b : ℕ) → Same v (a ∷ b ∷ []) (a ∷ b ∷ (b + 1) ∷ [])
enter_two v a b =
    of_cell v (λ row. IsBefore row (a ∷ b ∷ []) ↔ IsBefore row (a ∷ b ∷ (b + 1) ∷ []))
    (λ p q r s h k l c. under p a (q ∷ r ∷ s ∷ []) (b ∷ []) (b ∷ (b + 1) ∷ []) (λ _. entered q r b (s ∷ []) k))

pub enter_three : (v : Vertices) (a b c : ℕ) → Same v (a ∷ b ∷ c ∷ []) (a ∷ b ∷ c ∷ (c + 1) ∷ [])
enter_three v a b c =
    of_cell v (λ row. IsBefore row (a ∷ b ∷ c ∷ []) ↔ IsBefore row (a ∷ b ∷ c ∷ (c + 1) ∷ []))
    (λ p q r s h k l _. under p a (q ∷ r ∷ s ∷ []) (b ∷ c ∷ []) (b ∷ c ∷ (c + 1) ∷ [])
    (λ _. under q b (r ∷ s ∷ []) (c ∷ []) (c ∷ (c + 1) ∷ []) (λ _. entered r s c [] l)))

pub leave_one : (v : Vertices) (a : ℕ) → Same v (a ∷ v.count ∷ []) ((a + 1) ∷ [])
leave_one v a =
    of_cell v (λ row. IsBefore row (a ∷ v.count ∷ []) ↔ IsBefore row ((a + 1) ∷ []))
    (λ p q r s h k l c. left p q a v.count (r ∷ s ∷ []) (let m = last_below v p q r s c in omega arith))

pub leave_two : (v : Vertices) (a b : ℕ) → Same v (a ∷ b ∷ v.count ∷ []) (a ∷ (b + 1) ∷ [])
leave_two v a b =
    of_cell v (λ row. IsBefore row (a ∷ b ∷ v.count ∷ []) ↔ IsBefore row (a ∷ (b + 1) ∷ []))
    (λ p q r s h k l c. under p a (q ∷ r ∷ s ∷ []) (b ∷ v.count ∷ []) ((b + 1) ∷ [])
    (λ _. left q r b v.count (s ∷ []) (let m = last_below v p q r s c in omega arith)))

pub leave_three : (v : Vertices) (a b c : ℕ) → Same v (a ∷ b ∷ c ∷ v.count ∷ []) (a ∷ b ∷ (c + 1) ∷ [])
leave_three v a b c =
    of_cell v (λ row. IsBefore row (a ∷ b ∷ c ∷ v.count ∷ []) ↔ IsBefore row (a ∷ b ∷ (c + 1) ∷ []))
    (λ p q r s h k l x. under p a (q ∷ r ∷ s ∷ []) (b ∷ c ∷ v.count ∷ []) (b ∷ (c + 1) ∷ [])
    (λ _. under q b (r ∷ s ∷ []) (c ∷ v.count ∷ []) ((c + 1) ∷ []) (λ _. left r s c v.count [] (last_below v p q r s x))))

-- a list before one key is a list before another
pub moved : (v : Vertices) (key other : List ℕ) (rows : List (List ℕ)) → Same v key other → IsCellListBefore v key rows
    → IsCellListBefore v other rows
moved v key other rows e h =
    record {
      rising = h.rising;
      cells = h.cells;
      before = λ row c. (e row (h.cells row c)).0 (h.before row c);
      all = λ row k l. h.all row k ((e row k).1 l);
    }

-- ---- the first key, one row more, and the last key
pub none_before : (v : Vertices) → IsCellListBefore v (0 ∷ []) []
none_before v =
    record {
      rising = λ i j d l m. absurd (omega arith);
      cells = λ row c. absurd (contains_none row c);
      before = λ row c. absurd (contains_none row c);
      all = λ row k l. absurd (nothing row l);
    }
  where
    nothing : (row : List ℕ) → ¬ IsBefore row (0 ∷ [])
    nothing [] h = h
    nothing (p ∷ row) h = ⊎_elim (λ l. absurd (omega arith)) (λ l. not_before_none row l.1) h

-- before a b c d + 1 come those before a b c d, and this row itself
pub or_this : (a b c d : ℕ) (v : Vertices) (row : List ℕ) → IsRisingCell v row → IsBefore row (a ∷ b ∷ c ∷ (d + 1) ∷ [])
    → IsBefore row (a ∷ b ∷ c ∷ d ∷ []) ⊎ (row ≡ a ∷ b ∷ c ∷ d ∷ [])
or_this a b c d v =
    of_cell v (λ row. IsBefore row (a ∷ b ∷ c ∷ (d + 1) ∷ []) → IsBefore row (a ∷ b ∷ c ∷ d ∷ []) ⊎ (row ≡ a ∷ b ∷ c ∷ d ∷ []))
    (λ p q r s _ _ _ _. λ h. ⊎_elim (λ l. inl (inl l)) (λ l. at_b p q r s l.0 l.1) h)
  where
    at_d : (p q r s : ℕ) → p ≡ a → q ≡ b → r ≡ c → s < d + 1 → (e : Bool) → ltb s d ≡ e
        → IsBefore (p ∷ q ∷ r ∷ s ∷ []) (a ∷ b ∷ c ∷ d ∷ []) ⊎ (p ∷ q ∷ r ∷ s ∷ [] ≡ a ∷ b ∷ c ∷ d ∷ [])
    at_d p q r s i j k l true e = inl (inr (i, inr (j, inr (k, inl (ltb-true s d e)))))
    at_d p q r s i j k l false e = let m : d ≤ s = ltb-false s d e in let n : s ≡ d = omega arith in inr (cc)

    at_c : (p q r s : ℕ) → p ≡ a → q ≡ b → IsBefore (r ∷ s ∷ []) (c ∷ (d + 1) ∷ [])
        → IsBefore (p ∷ q ∷ r ∷ s ∷ []) (a ∷ b ∷ c ∷ d ∷ []) ⊎ (p ∷ q ∷ r ∷ s ∷ [] ≡ a ∷ b ∷ c ∷ d ∷ [])
    at_c p q r s i j h =
        ⊎_elim (λ l. inl (inr (i, inr (j, inl l))))
        (λ l. ⊎_elim (λ m. at_d p q r s i j l.0 m (ltb s d) refl) (λ m. absurd m.1) l.1) h

    at_b : (p q r s : ℕ) → p ≡ a → IsBefore (q ∷ r ∷ s ∷ []) (b ∷ c ∷ (d + 1) ∷ [])
        → IsBefore (p ∷ q ∷ r ∷ s ∷ []) (a ∷ b ∷ c ∷ d ∷ []) ⊎ (p ∷ q ∷ r ∷ s ∷ [] ≡ a ∷ b ∷ c ∷ d ∷ [])
    at_b p q r s i h = ⊎_elim (λ l. inl (inr (i, inl l))) (λ l. at_c p q r s i l.0 l.1) h

this_before : (a b c d : ℕ) → IsBefore (a ∷ b ∷ c ∷ d ∷ []) (a ∷ b ∷ c ∷ (d + 1) ∷ [])
this_before a b c d = inr (refl, inr (refl, inr (refl, inl (omega arith))))

-- the row is a cell and was pushed
pub pushed : (v : Vertices) (a b c d : ℕ) (rows : List (List ℕ)) → IsRisingCell v (a ∷ b ∷ c ∷ d ∷ [])
    → IsCellListBefore v (a ∷ b ∷ c ∷ d ∷ []) rows
    → IsCellListBefore v (a ∷ b ∷ c ∷ (d + 1) ∷ []) (rows ++ (a ∷ b ∷ c ∷ d ∷ []) ∷ [])
pushed v a b c d rows k h =
    let this : List ℕ = a ∷ b ∷ c ∷ d ∷ [] in
    let next : List ℕ = a ∷ b ∷ c ∷ (d + 1) ∷ [] in
    let one : (row : List ℕ) → Contains (this ∷ []) row → this ≡ row =
    λ row x. ⊎_elim (λ e. e) (λ y. absurd (contains_none row y)) (contains_cases this [] row x) in
    record {
      rising =
          all_pairs_push IsBefore rows this h.rising
          (λ i e l. h.before (get_or rows i e) (i, l, sym (get_or_default rows i e _ l)));
      cells =
          λ row x. ⊎_elim (h.cells row) (λ y. subst (λ (z : List ℕ). IsRisingCell v z) (one row y) k)
          (Contains-append_cases rows (this ∷ []) row x);
      before =
          λ row x. ⊎_elim (λ y. before_trans row this next (h.before row y) (this_before a b c d))
          (λ y. subst (λ (z : List ℕ). IsBefore z next) (one row y) (this_before a b c d))
          (Contains-append_cases rows (this ∷ []) row x);
      all =
          λ row x y. ⊎_elim (λ z. Contains-append_left rows (this ∷ []) row (h.all row x z))
          (λ e. Contains-append_right rows (this ∷ []) row
          (subst (λ (z : List ℕ). Contains (this ∷ []) z) (sym e) (here this []))) (or_this a b c d v row x y);
    }

-- the row is no cell and was left out
pub passed : (v : Vertices) (a b c d : ℕ) (rows : List (List ℕ)) → ¬ IsRisingCell v (a ∷ b ∷ c ∷ d ∷ [])
    → IsCellListBefore v (a ∷ b ∷ c ∷ d ∷ []) rows → IsCellListBefore v (a ∷ b ∷ c ∷ (d + 1) ∷ []) rows
passed v a b c d rows n h =
    record {
      rising = h.rising;
      cells = h.cells;
      before = λ row x. before_trans row (a ∷ b ∷ c ∷ d ∷ []) (a ∷ b ∷ c ∷ (d + 1) ∷ []) (h.before row x) (this_before a b c d);
      all =
          λ row x y. ⊎_elim (λ z. h.all row x z) (λ e. absurd (n (subst (λ (z : List ℕ). IsRisingCell v z) e x)))
          (or_this a b c d v row x y);
    }

-- before the number of all vertices come all cells
pub all_before : (v : Vertices) (rows : List (List ℕ)) → IsCellListBefore v (v.count ∷ []) rows → IsCellList v rows
all_before v rows h =
    record {
      rising = h.rising;
      cells = h.cells;
      all =
          λ row k. h.all row k
          (of_cell v (λ row. IsBefore row (v.count ∷ []))
          (λ p q r s i j l c. inl (let m = last_below v p q r s c in omega arith)) row k);
    }
