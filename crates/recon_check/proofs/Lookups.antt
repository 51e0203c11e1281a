-- Rows that are found by their keys, and what is noted of what was found.
--
-- A search halves the places between which a key can stand: the keys before them come before it, and those behind them do not
-- (IsNarrowed). Behind the end of it only the key at the place that is left can be the one, since later ones come after that.
-- The order is that of the comparison of lists, in which keys rise that rise by IsBefore.
use Rattle.std.proofs.Common.{ℕ, ◌≡◌, ◌≢◌, ◌+◌, ◌-◌, ◌<◌, ◌≤◌, ⊎_elim, refl, ap, sym, subst, ◌∙◌, arith, Bool, true, false}
use Rattle.std.proofs.Common.{below_more, List, [], ◌∷◌, ◌++◌, length, map, get_or}
use Rattle.std.proofs.Common.{set, slice_index, AllPairs, Ordering, Less, Equal, Greater, Some}
use Rattle.std.proofs.lemmas.Bool.{cases_Bool, cases_lt, false≢true}
use Rattle.std.proofs.lemmas.List.{get_or-map, get_or-set_same, get_or-set_other}
use Rattle.std.proofs.lemmas.List.{get_or_append_left, get_or-append_right, length-append, length-set}
use Rattle.std.proofs.lemmas.Slice.Eq.{bytes_eq-Decides}
use Rattle.std.specs.Str.{bytes_eq}
use Rattle.std.proofs.lemmas.Cmp.{nat_list_cmp_total}
use Rattle.std.specs.Cmp.{nat_cmp_is}
use Rattle.std.specs.Cmp.Lexicographic.{slice_cmp, slice_partial_cmp, lists_agrees}
use Rattle.std.specs.Ordering.{nat_cmp, is_lt, is_some_and, ordering_then}
use Rattle.geo_sign.specs.Rising.{IsBefore}
use Rattle.visibility.proofs.Indices.{once_rising, same_index}
use Rattle.recon_check.specs.Lookups.{least_number, AreFound, AreStarts, IsNoted}

-- ---- the order of keys
abbrev pub IsLess : List ℕ → List ℕ → Type 0
IsLess a b = slice_cmp nat_cmp a b ≡ Less

pub before_less : (a b : List ℕ) → IsBefore a b → IsLess a b
before_less [] b h = absurd h
before_less (x ∷ a) [] h = absurd h
before_less (x ∷ a) (y ∷ b) h =
    ⊎_elim (λ (l : x < y). ap (λ (o : Ordering). ordering_then o (slice_cmp nat_cmp a b)) (sym (nat_cmp_is x y Less l)))
    (λ (p : (x ≡ y) × IsBefore a b). ap (λ (o : Ordering). ordering_then o (slice_cmp nat_cmp a b)) (sym (nat_cmp_is x y Equal p.0))
    ∙ before_less a b p.1) h

pub less_trans : (a b c : List ℕ) → IsLess a b → IsLess b c → IsLess a c
less_trans = nat_list_cmp_total.trans

pub not_less_itself : (a : List ℕ) → IsLess a a → ⊥
not_less_itself [] h = cc
not_less_itself (x ∷ a) h =
    not_less_itself a
    (ap (λ (o : Ordering). ordering_then o (slice_cmp nat_cmp a a)) (nat_cmp_is x x Equal refl) ∙ h)

-- what the code's test says
less_is : (o : Ordering) → is_lt o ≡ true → o ≡ Less
less_is Less e = refl
less_is Equal e = absurd (false≢true e)
less_is Greater e = absurd (false≢true e)

tested : (a b : List ℕ) → is_some_and is_lt (slice_partial_cmp (λ (x y : ℕ). Some (nat_cmp x y)) a b) ≡ is_lt (slice_cmp nat_cmp a
    b)
tested a b = ap (is_some_and is_lt) (lists_agrees (λ x y. refl) a b)

pub less_from : (a b : List ℕ) → is_some_and is_lt (slice_partial_cmp (λ (x y : ℕ). Some (nat_cmp x y)) a b) ≡ true → IsLess a b
less_from a b e = less_is (slice_cmp nat_cmp a b) (sym (tested a b) ∙ e)

pub not_less_from : (a b : List ℕ) → is_some_and is_lt (slice_partial_cmp (λ (x y : ℕ). Some (nat_cmp x y)) a b) ≡ false
    → ¬ IsLess a b
not_less_from a b e less = false≢true (sym e ∙ tested a b ∙ ap is_lt less)

-- keys rise
pub rises : (keys : List (List ℕ)) → AllPairs IsBefore keys → (i j : ℕ) → i < j → j < length keys
    → IsLess (get_or keys i []) (get_or keys j [])
rises keys rising i j l m = before_less (get_or keys i []) (get_or keys j []) (rising i j [] l m)

-- ---- the table
-- first numbers do not fall
first_rises : (a b : List ℕ) → IsBefore a b → least_number a ≤ least_number b
first_rises [] b h = absurd h
first_rises (x ∷ a) [] h = absurd h
first_rises (x ∷ a) (y ∷ b) h =
    ⊎_elim (λ (l : x < y). omega arith) (λ (p : (x ≡ y) × IsBefore a b). let e = p.0 in omega (arith, e)) h

pub skipped_more : {Row : Type 0} (key : Row → List ℕ) (rows : List Row) (from place number : ℕ) (row : Row) → place < length rows
    → row ≡ get_or rows place row → least_number (key row) < number
    → ((k : ℕ) → from ≤ k → k < place → least_number (get_or (map key rows) k []) < number)
    → (k : ℕ) → from ≤ k → k < place + 1 → least_number (get_or (map key rows) k []) < number
skipped_more key rows from place number row l is less before k f m =
    below_more (λ i. from ≤ i → least_number (get_or (map key rows) i []) < number) place (λ i n g. before i g n)
    (λ g. let at = ap least_number (get_or-map key rows place row [] l ∙ ap key (sym is)) in omega (arith, at, less)) k m f

pub starts_more : (keys : List (List ℕ)) (starts : List ℕ) (place : ℕ) → AllPairs IsBefore keys → place ≤ length keys
    → ((k : ℕ) → k < place → least_number (get_or keys k []) < length starts)
    → (place < length keys → length starts ≤ least_number (get_or keys place [])) → AreStarts keys starts
    → AreStarts keys (starts ++ place ∷ [])
starts_more keys starts place rising within before at h = record {
  within = λ n l. by n l (λ (m : ℕ). m ≤ length keys) (λ k. h.within n k) (λ e. within);
  below = λ n k l. by n l (λ (m : ℕ). k < m → least_number (get_or keys k []) < n) (λ i. h.below n k i)
      (λ (e : n ≡ length starts) i. let less = before k i in omega (arith, e, less));
  above = λ n k l. by n l (λ (m : ℕ). m ≤ k → k < length keys → n ≤ least_number (get_or keys k [])) (λ i. h.above n k i)
      (λ (e : n ≡ length starts) i m. let more = later k i m in omega (arith, e, more));
}
  where
    later : (k : ℕ) → place ≤ k → k < length keys → length starts ≤ least_number (get_or keys k [])
    later k l m =
        ⊎_elim
        (λ (less : place < k).
        let rest = first_rises (get_or keys place []) (get_or keys k []) (rising place k [] less m) in
        let first = at (omega arith) in omega (arith, rest, first))
        (λ (same : k ≤ place). let e : place ≡ k = omega arith in
        let first = at (omega arith) in
        let there : least_number (get_or keys place []) ≡ least_number (get_or keys k []) = ap (λ (i : ℕ). least_number (get_or
        keys i [])) e in
        omega (arith, first, there))
        (cases_lt place k)

    by : (n : ℕ) → n < length (starts ++ place ∷ []) → (P : ℕ → Type 0) → (n < length starts → P (slice_index starts n))
        → (n ≡ length starts → P place) → P (slice_index (starts ++ place ∷ []) n)
    by n l P old new =
        ⊎_elim
        (λ (less : n < length starts). subst P (sym (get_or_append_left starts (place ∷ []) 0 n less)) (old less))
        (λ (more : length starts ≤ n).
        let long = length-append starts (place ∷ []) in
        let e : n ≡ length starts = omega (arith, l, more, long) in
        let here : slice_index (starts ++ place ∷ []) n ≡ place =
        get_or-append_right starts (place ∷ []) (length starts) n 0 refl more
        ∙ (let zero : n - length starts ≡ 0 = omega (arith, e) in ap (λ (i : ℕ). get_or (place ∷ []) i 0) zero) in
        subst P (sym here) (new e))
        (cases_lt n (length starts))

-- ---- a search
-- what comes before the key, and what does not
pub record IsNarrowed (keys : List (List ℕ)) (from to : ℕ) (key : List ℕ) (low high : ℕ) : Type 0 where
  pub end : high ≤ to
  pub below : (k : ℕ) → from ≤ k → k < low → IsLess (get_or keys k []) key
  pub above : (k : ℕ) → high ≤ k → k < to → ¬ IsLess (get_or keys k []) key

module _ (keys : List (List ℕ)) (rising : AllPairs IsBefore keys) (from to : ℕ) (key : List ℕ) (low high : ℕ)
    (within : to ≤ length keys) (h : IsNarrowed keys from to key low high) where
  -- the key in the middle comes before
  pub narrowed_low : (middle : ℕ) → middle < high → IsLess (get_or keys middle []) key → IsNarrowed keys from to key (middle + 1)
      high
  narrowed_low middle l less = record {
    end = h.end;
    below = λ k f m. ⊎_elim (λ (lower : k < middle). less_trans (get_or keys k []) (get_or keys middle []) key
        (rises keys rising k middle lower (omega (arith, within, l, h.end))) less)
        (λ (same : middle ≤ k). let e : middle ≡ k = omega arith in subst (λ (i : ℕ). IsLess (get_or keys i []) key) e less)
        (cases_lt k middle);
    above = h.above;
  }

  -- it does not
  pub narrowed_high : (middle : ℕ) → middle < high → ¬ IsLess (get_or keys middle []) key → IsNarrowed keys from to key low middle
  narrowed_high middle l more = record {
    end = omega (arith, l, h.end);
    below = h.below;
    above = λ k f m less. ⊎_elim
        (λ (higher : middle < k). more (less_trans (get_or keys middle []) (get_or keys k []) key
        (rises keys rising middle k higher (omega (arith, within, m))) less))
        (λ (same : k ≤ middle). let e : k ≡ middle = omega arith in
        more (subst (λ (i : ℕ). IsLess (get_or keys i []) key) e less))
        (cases_lt middle k);
  }

  -- nothing is left, and the key does not stand at the end
  pub not_found : high ≤ low → (low < to → get_or keys low [] ≢ key) → (k : ℕ) → from ≤ k → k < to → get_or keys k [] ≢ key
  not_found done other k f l e =
      ⊎_elim
      (λ (lower : k < low). not_less_itself key (subst (λ (a : List ℕ). IsLess a key) e (h.below k f lower)))
      (λ (rest : low ≤ k). ⊎_elim
      (λ (higher : low < k).
      h.above low done (omega arith) (subst (IsLess (get_or keys low [])) e (rises keys rising low k higher (omega (
        arith,
        within,
        l,
      )))))
      (λ (same : k ≤ low). let at : low ≡ k = omega arith in
      other (omega arith) (ap (λ (i : ℕ). get_or keys i []) at ∙ e))
      (cases_lt low k))
      (cases_lt k low)

-- ---- amounts at numbers
-- those of the first n, and 0 elsewhere
pub record ArePlaced (amounts numbers placed : List ℕ) (n : ℕ) : Type 0 where
  pub set_at : (k : ℕ) → k < n → slice_index placed (slice_index numbers k) ≡ slice_index amounts k
  pub unset : (v : ℕ) → ((k : ℕ) → k < n → slice_index numbers k ≢ v) → slice_index placed v ≡ 0

-- ---- what is noted
-- of what is there below upto, and of some more that is there, one is noted
module _ (limit upto : ℕ) (is_there : ℕ → Bool) (key_at : ℕ → List ℕ) (keys : List (List ℕ)) (old : List ℕ)
    (h : AreFound limit upto is_there key_at keys old) (n : ℕ) (key : List ℕ) (new : List ℕ) (here : is_there n ≡ true)
    (is : key ≡ key_at n) (noted : IsNoted keys key n old new) where
  by_key : {P : Type 0} (k : ℕ) → (get_or keys k [] ≡ key → P) → (get_or keys k [] ≢ key → P) → P
  by_key k same other =
      let test : Bool = bytes_eq (get_or keys k []) key in
      ⊎_elim (λ (e : test ≡ true). same ((bytes_eq-Decides (get_or keys k []) key).0 e))
      (λ (e : test ≡ false). other (λ (g : get_or keys k [] ≡ key).
      false≢true (sym e ∙ (bytes_eq-Decides (get_or keys k []) key).1 g))) (cases_Bool test)

  noted_there : (k : ℕ) → k < length keys → slice_index new k < limit → is_there (slice_index new k) ≡ true
  noted_there k l m =
      by_key k (λ (e : get_or keys k [] ≡ key). subst (λ (i : ℕ). is_there i ≡ true) (sym (noted.here k l e)) here)
      (λ other. subst (λ (i : ℕ). is_there i ≡ true) (sym (noted.kept k other))
      (h.there k l (let same = noted.kept k other in omega (arith, same, m))))

  noted_key : (k : ℕ) → k < length keys → slice_index new k < limit → get_or keys k [] ≡ key_at (slice_index new k)
  noted_key k l m =
      by_key k (λ (e : get_or keys k [] ≡ key). e ∙ is ∙ ap key_at (sym (noted.here k l e)))
      (λ other. h.key k l (let same = noted.kept k other in omega (arith, same, m)) ∙ ap key_at (sym (noted.kept k other)))

  -- nothing is claimed of what was looked up
  pub found_some : AreFound limit 0 is_there key_at keys new
  found_some = record {
    count = noted.count ∙ h.count;
    there = noted_there;
    key = noted_key;
    all = λ j k l. absurd (omega (arith, l));
  }

  -- what is at the number was looked up after all below it
  pub found_more : upto ≡ n → n < limit → AreFound limit (n + 1) is_there key_at keys new
  found_more upto_is below = record {
    count = noted.count ∙ h.count;
    there = noted_there;
    key = noted_key;
    all = λ j k l there m at. by_key k (λ (e : get_or keys k [] ≡ key). let same = noted.here k m e in omega (arith, same, below))
        (λ other. let same = noted.kept k other in
        let less : j < upto =
        ⊎_elim (λ (less : j < n). omega (arith, less, upto_is)) (λ (more : n ≤ j). let e : j ≡ n = omega arith in
        absurd (other (at ∙ ap key_at e ∙ sym is))) (cases_lt j n) in
        let before = h.all j k less there m at in omega (arith, same, before));
  }

-- nothing is at the number
pub found_missed : (limit n : ℕ) (is_there : ℕ → Bool) (key_at : ℕ → List ℕ) (keys : List (List ℕ)) (old : List ℕ)
    → AreFound limit n is_there key_at keys old → is_there n ≡ false → AreFound limit (n + 1) is_there key_at keys old
found_missed limit n is_there key_at keys old h missing = record {
  count = h.count;
  there = h.there;
  key = h.key;
  all = λ j k l.
      below_more (λ i. is_there i ≡ true → k < length keys → get_or keys k [] ≡ key_at i → slice_index old k < limit) n
      (λ i m. h.all i k m) (λ there. absurd (false≢true (sym missing ∙ there))) j l;
}

-- where each row has a number nothing is left to look up
pub found_all : (limit : ℕ) (is_there : ℕ → Bool) (key_at : ℕ → List ℕ) (keys : List (List ℕ)) (numbers : List ℕ)
    → AreFound limit 0 is_there key_at keys numbers → ((k : ℕ) → k < length numbers → slice_index numbers k < limit)
    → AreFound limit limit is_there key_at keys numbers
found_all limit is_there key_at keys numbers h below = record {
  count = h.count;
  there = h.there;
  key = h.key;
  all = λ j k l there m at. below k (omega (arith, m, h.count));
}

-- the number was written at the place of the key
pub noted_at : (keys : List (List ℕ)) (key : List ℕ) (number place : ℕ) (old : List ℕ) → AllPairs IsBefore keys
    → place < length keys → length old ≡ length keys → get_or keys place [] ≡ key
    → IsNoted keys key number old (set old place number)
noted_at keys key number place old rising l count is = record {
  count = length-set old place number;
  here = λ k m e.
      (let same = same_index keys k place (once_rising keys rising) m l (e ∙ sym is) in
      ap (λ (i : ℕ). slice_index (set old place number) i) same ∙ get_or-set_same old place number 0 (omega (arith, l, count)));
  kept = λ k other. get_or-set_other old place k number 0 (λ (e : k ≡ place). other (ap (λ (i : ℕ). get_or keys i []) e ∙ is));
}
