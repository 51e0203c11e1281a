-- Binary search in sorted lists of faces.
use Rattle.std.proofs.Common.{ℕ, ◌≡◌, refl, sym, ◌∙◌, ap, subst, arith, inl, inr, true, false, List, length, get_or, Contains}
use Rattle.std.proofs.Common.{Result, Ok, Err, is_ok}
use Rattle.std.proofs.lemmas.Bool.{cases_lt, false≢true}
use Rattle.std.proofs.lemmas.List.Sorted.{searchable_from_sorted}
use Rattle.std.specs.declared.cmp.Ordering.{Ordering}
use Rattle.std.specs.declared.cmp.Ordering.TheVariants.{Less, Equal, Greater}
use Rattle.std.specs.Ordering.{nat_cmp, is_eq}
use Rattle.std.specs.Cmp.{unsigned_ties}
use Rattle.std.specs.Cmp.Lexicographic.{slice_cmp, lists_ties, nat_list_cmp_total, bytes_decides}
use Rattle.std.specs.List.Sorted.{IsSorted, IsBinarySearchResult, IsSearchInRange}

same : (x y : List ℕ) → slice_cmp nat_cmp x y ≡ Equal → x ≡ y
same x y e = (bytes_decides x y).0 (lists_ties nat_cmp unsigned_ties x y ∙ ap is_eq e)

itself : (x : List ℕ) → is_eq (slice_cmp nat_cmp x x) ≡ true
itself x = sym (lists_ties nat_cmp unsigned_ties x x) ∙ (bytes_decides x x).1 refl

other : (x y : List ℕ) (o : Ordering) → is_eq o ≡ false → slice_cmp nat_cmp y x ≡ o → y ≡ x → ⊥
other x y o differs h e =
    let at : slice_cmp nat_cmp x x ≡ o = subst (λ (z : List ℕ). slice_cmp nat_cmp z x ≡ o) e h in
    false≢true (sym differs ∙ (sym (ap is_eq at) ∙ itself x))

-- what the search finds in a sorted list is an element, and what it does not find is none
pub found : (xs : List (List ℕ)) (x : List ℕ) (r : Result ℕ ℕ) → IsSorted (slice_cmp nat_cmp) xs
    → IsSearchInRange r (length xs) → IsBinarySearchResult (λ y. slice_cmp nat_cmp y x) xs r
    → (is_ok r ≡ true → Contains xs x) × (Contains xs x → is_ok r ≡ true)
found xs x (Ok i) s range at = (λ _. (i, range, same (get_or xs i x) x (at x)), λ _. refl)
found xs x (Err i) s range at = (λ e. absurd (false≢true e), λ h. absurd (none h))
  where
    none : Contains xs x → ⊥
    none h =
        let point = at (searchable_from_sorted nat_list_cmp_total (λ (y : List ℕ). y) xs x s) in
        elim (cases_lt h.0 i) [
          | inl m ↦ other x (get_or xs h.0 x) Less refl (point.0 h.0 x (omega arith) m) h.2
          | inr m ↦ other x (get_or xs h.0 x) Greater refl (point.1 h.0 x (omega arith) h.1) h.2
        ]
