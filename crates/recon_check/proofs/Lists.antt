-- Lists of rows: what is among them, what a test keeps, and rows that state amounts of rising keys.
--
-- Two rising lists with the same members are one list. So rising rows that are among rising keys are the keys that are among
-- them (among_kept). And rising rows of amounts that are not 0 are the rows of what they state: of the key of a row they
-- state its amount (stated_at), of any other key 0 (not_about), so the keys with an amount are those of the rows
-- (rows_listed).
use Rattle.std.proofs.Common.{ℕ, zero, suc, ◌≡◌, ◌≢◌, ◌<◌, ◌≤◌, not, refl, ap, sym, subst, ◌∙◌, arith, Bool, true, false, cond}
use Rattle.std.proofs.Common.{eqb, List, [], ◌∷◌, length, map, filter, get_or, All, AllPairs, Contains}
use Rattle.std.proofs.lemmas.Bool.{eq-eqb, ne_eqb, false_from_ne_true, true_from_ne_false, or_parts}
use Rattle.std.proofs.lemmas.List.{get_or-map, get_or_default, length-map, same_lists}
use Rattle.std.proofs.lemmas.List.Elements.{All-contains, All-contains_itself, All-filter, All-map, filter_passes}
use Rattle.std.proofs.lemmas.List.Folds.{list_any-from_Any, Any-from_list_any}
use Rattle.std.proofs.lemmas.List.Kept.{AllPairs-filter}
use Rattle.geo_sign.specs.Rising.{IsBefore}
use Rattle.geo_sign.proofs.Rising.{rising_law}
use Rattle.solution.specs.Solutions.{stated, listed}
use Rattle.std.specs.Str.{bytes_eq}
use Rattle.std.proofs.lemmas.Slice.Eq.{bytes_eq-Decides}
use Rattle.visibility.proofs.Indices.{not_before_itself}
use Rattle.recon_check.specs.Claims.{is_among_rows}

-- ---- what is among rows
pub among_from : (rows : List (List ℕ)) (row : List ℕ) → Contains rows row → is_among_rows rows row ≡ true
among_from rows row h =
    list_any-from_Any (λ other. bytes_eq other row) rows (h.0, row, h.1, h.2, (bytes_eq-Decides row row).1 refl)

pub among_means : (rows : List (List ℕ)) (row : List ℕ) → is_among_rows rows row ≡ true → Contains rows row
among_means rows row h =
    let found = Any-from_list_any (λ other. bytes_eq other row) rows h in
    subst (λ (r : List ℕ). Contains rows r) ((bytes_eq-Decides found.1 row).0 found.4) (found.0, found.2, found.3)

-- ---- what a test keeps
pub kept_has : (test : List ℕ → Bool) (rows : List (List ℕ)) (row : List ℕ) → Contains rows row → test row ≡ true
    → Contains (filter test rows) row
kept_has test [] row h passes = absurd (omega (arith, h.1))
kept_has test (first ∷ rows) row (zero, l, same) passes =
    subst (λ (b : Bool). Contains (cond b (first ∷ filter test rows) (filter test rows)) row) (sym (ap test same ∙ passes))
    (0, omega arith, same)
kept_has test (first ∷ rows) row (suc k, l, same) passes =
    later (test first) (kept_has test rows row (k, omega (arith, l), same) passes)
  where
    later : (b : Bool) → Contains (filter test rows) row → Contains (cond b (first ∷ filter test rows) (filter test rows)) row
    later true k = (suc k.0, omega (arith, k.1), k.2)
    later false k = k

pub kept_there : (test : List ℕ → Bool) (rows : List (List ℕ)) → All (Contains rows) (filter test rows)
kept_there test rows = All-filter test (Contains rows) rows (All-contains_itself rows)

pub kept_passes : (test : List ℕ → Bool) (rows : List (List ℕ)) (row : List ℕ) → Contains (filter test rows) row
    → test row ≡ true
kept_passes test rows row h = All-contains (λ (r : List ℕ). test r ≡ true) (filter test rows) row (filter_passes test rows) h

-- rising rows that are among rising keys are those of the keys that are among the rows
pub among_kept : (rows keys : List (List ℕ)) → AllPairs IsBefore rows → AllPairs IsBefore keys → All (Contains keys) rows
    → rows ≡ filter (is_among_rows rows) keys
among_kept rows keys rise keys_rise there =
    rising_law rows (filter (is_among_rows rows) keys) rise (AllPairs-filter IsBefore (is_among_rows rows) keys keys_rise)
    (λ row. (
      λ h. kept_has (is_among_rows rows) keys row (All-contains (Contains keys) rows row there h) (among_from rows row h),
      λ h. among_means rows row (kept_passes (is_among_rows rows) keys row h),
    ))

-- ---- rows that state amounts
-- what rising rows state of the key of one of them is its amount
pub stated_at : {Row : Type 0} (about : Row → List ℕ) (amount : Row → ℕ) (rows : List Row) → AllPairs IsBefore (map about rows)
    → (k : ℕ) → k < length (map about rows) → stated about amount rows (get_or (map about rows) k []) ≡ get_or (map amount rows) k 0
stated_at about amount [] rising k l = absurd (omega arith)
stated_at about amount (row ∷ rows) rising zero l =
    ap (λ (b : Bool). cond b (amount row) (stated about amount rows (about row)))
    ((bytes_eq-Decides (about row) (about row)).1 refl)
stated_at about amount (row ∷ rows) rising (suc k) l =
    let key : List ℕ = get_or (map about rows) k [] in
    let before : IsBefore (about row) key = rising 0 (suc k) [] (omega arith) l in
    let differs : bytes_eq (about row) key ≡ false =
    false_from_ne_true _
    (λ e. not_before_itself key (subst (λ (z : List ℕ). IsBefore z key) ((bytes_eq-Decides _ _).0 e) before)) in
    ap (λ (b : Bool). cond b (amount row) (stated about amount rows key)) differs
    ∙ stated_at about amount rows (λ i j e m n. rising (suc i) (suc j) e (omega arith) (omega arith)) k (omega arith)

-- what a row that was read is about stands at its place, and its amount is what they state of that
pub row_told : {Row : Type 0} (about : Row → List ℕ) (amount : Row → ℕ) (rows : List Row) → AllPairs IsBefore (map about rows)
    → (k : ℕ) (row : Row) → k < length rows → row ≡ get_or rows k row
    → (about row ≡ get_or (map about rows) k []) × (amount row ≡ stated about amount rows (about row))
row_told about amount rows rising k row l read =
    let key : about row ≡ get_or (map about rows) k [] = ap about read ∙ sym (get_or-map about rows k row [] l) in (
      key,
      ap amount read ∙ sym (get_or-map amount rows k row 0 l)
          ∙ sym (ap (stated about amount rows) key ∙ stated_at about amount rows rising k (omega (arith, l, length-map rows about))),
    )

-- a key that no row is about has none
pub not_about : {Row : Type 0} (about : Row → List ℕ) (amount : Row → ℕ) (rows : List Row) (key : List ℕ)
    → is_among_rows (map about rows) key ≡ false → stated about amount rows key ≡ 0
not_about about amount [] key none = refl
not_about about amount (row ∷ rows) key none =
    let apart = or_parts (bytes_eq (about row) key) (is_among_rows (map about rows) key) none in
    ap (λ (b : Bool). cond b (amount row) (stated about amount rows key)) apart.0 ∙ not_about about amount rows key apart.1

-- so one with an amount has a row
pub about_one : {Row : Type 0} (about : Row → List ℕ) (amount : Row → ℕ) (rows : List Row) (key : List ℕ)
    → stated about amount rows key ≢ 0 → Contains (map about rows) key
about_one about amount rows key some =
    among_means (map about rows) key (true_from_ne_false _ (λ none. some (not_about about amount rows key none)))

some_from : (n : ℕ) → not (eqb n 0) ≡ true → n ≢ 0
some_from n passes none = let h : eqb n 0 ≡ true = eq-eqb n 0 none in cc

some_to : (n : ℕ) → 1 ≤ n → not (eqb n 0) ≡ true
some_to n l = ap not (ne_eqb n 0 (λ (none : n ≡ 0). omega arith))

-- rising rows of amounts that are not 0, about rising keys, are the rows of what they state
pub rows_listed : {Row : Type 0} (make : List ℕ → ℕ → Row) (about : Row → List ℕ) (amount : Row → ℕ)
    → ((row : Row) → make (about row) (amount row) ≡ row) → (rows : List Row) (keys : List (List ℕ))
    → AllPairs IsBefore (map about rows) → AllPairs IsBefore keys → All (Contains keys) (map about rows)
    → All (λ row. 1 ≤ amount row) rows → rows ≡ listed make keys (stated about amount rows)
rows_listed {Row} make about amount makes rows keys rise keys_rise there some =
    elements ∙ ap (map (λ (key : List ℕ). make key (stated about amount rows key))) same_keys
  where
    row_is : (k : ℕ) (d : Row) → k < length rows → stated about amount rows (about (get_or rows k d)) ≡ amount (get_or rows k d)
    row_is k d l =
        sym (row_told about amount rows rise k (get_or rows k d) l (get_or_default rows k d (get_or rows k d) l)).1

    tests : All (λ (key : List ℕ). not (eqb (stated about amount rows key) 0) ≡ true) (map about rows)
    tests =
        All-map (λ (key : List ℕ). not (eqb (stated about amount rows key) 0) ≡ true) about rows
        (λ k d l. some_to (stated about amount rows (about (get_or rows k d)))
        (let is = row_is k d l in let at_least : 1 ≤ amount (get_or rows k d) = some k d l in omega arith))

    same_keys : map about rows ≡ filter (λ (key : List ℕ). not (eqb (stated about amount rows key) 0)) keys
    same_keys =
        let test : List ℕ → Bool = λ key. not (eqb (stated about amount rows key) 0) in
        rising_law (map about rows) (filter test keys) rise (AllPairs-filter IsBefore test keys keys_rise)
        (λ key. (
          λ h. kept_has test keys key (All-contains (Contains keys) (map about rows) key there h)
              (All-contains (λ (k : List ℕ). test k ≡ true) (map about rows) key tests h),
          λ h. about_one about amount rows key (some_from (stated about amount rows key) (kept_passes test keys key h)),
        ))

    elements : rows ≡ map (λ (key : List ℕ). make key (stated about amount rows key)) (map about rows)
    elements =
        let f : List ℕ → Row = λ key. make key (stated about amount rows key) in
        same_lists rows (map f (map about rows)) (sym (length-map (map about rows) f ∙ length-map rows about))
        (λ k c l. sym
        (get_or-map f (map about rows) k [] c (omega (arith, l, length-map rows about)) ∙ ap f (get_or-map about rows k c [] l)
        ∙ ap (make (about (get_or rows k c))) (row_is k c l) ∙ makes (get_or rows k c)))

-- the rows of amounts are about keys of the list
pub listed_there : {Row : Type 0} (make : List ℕ → ℕ → Row) (about : Row → List ℕ) (keys : List (List ℕ)) (on : List ℕ → ℕ)
    → ((key : List ℕ) (n : ℕ) → about (make key n) ≡ key) → All (Contains keys) (map about (listed make keys on))
listed_there {Row} make about keys on about_is =
    let test : List ℕ → Bool = λ key. not (eqb (on key) 0) in
    subst (λ (list : List (List ℕ)). All (Contains keys) list) (sym (keys_of (filter test keys))) (kept_there test keys)
  where
    keys_of : (list : List (List ℕ)) → map about (map (λ (key : List ℕ). make key (on key)) list) ≡ list
    keys_of [] = refl
    keys_of (key ∷ rest) =
        ap (λ (first : List ℕ). first ∷ map about (map (λ (k : List ℕ). make k (on k)) rest)) (about_is key (on key))
        ∙ ap (λ (list : List (List ℕ)). key ∷ list) (keys_of rest)
