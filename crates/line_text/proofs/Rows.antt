-- Rows that are read one after another.
--
-- IsReadSoFar is what reading rows keeps: how many there are, that they are good and rise, that the text is theirs and then
-- the rest, and the line's number. A row that is good and rises above the last one goes to them (one_more_read: in a rising
-- list what is above the last is above all, below_last). A row that is not good, or does not rise, is the first such, so it
-- is the refusal of the whole (bad_row, row_out_of_order).
use Rattle.std.proofs.Common.{ℕ, ◌≡◌, ◌+◌, ◌-◌, ◌<◌, ◌≤◌, ◌^◌, ◌⊎◌, inl, inr, refl, sym, subst, ◌∙◌, arith, Option, Some, None}
use Rattle.std.proofs.Common.{List, [], ◌∷◌, ◌++◌, length, map, get_or, take, min, append_assoc, length-append, Bool, true}
use Rattle.std.proofs.Common.{false, cond, ◌==◌, Result, Ok, Err, is_ok, is_err, IfErr, IsErrAnd}
use Rattle.std.specs.List.{AllPairs, flat_map}
use Rattle.std.proofs.lemmas.List.{append-nil, map_push, length-map, get_or-map, take_more, take_all}
use Rattle.std.proofs.lemmas.List.Concat.{flat_map-append}
use Rattle.std.proofs.lemmas.List.Elements.{All-push}
use Rattle.std.proofs.lemmas.List.Quantifiers.{all_pairs_push}
use Rattle.std.proofs.lemmas.Bool.{cases_lt, eqb-true}
use Rattle.geo_sign.specs.Rising.{IsBefore}
pub use Rattle.geo_sign.proofs.Rising.{before_trans}
use Rattle.line_text.specs.Numbers.{BeginsWithNone}
use Rattle.line_text.specs.declared.refusal.LineRefusal.{LineRefusal}
use Rattle.line_text.specs.declared.refusal.LineRefusal.TheVariants.{BadLine, Order, Cut, NoMemory}
use Rattle.line_text.specs.Refusals.{line_after, IsCutOrBad, Rise, RisesAbove, AreRows, IsRefusedRow}
use Rattle.line_text.specs.Lists.{WithMemory}

pub WithMemory-holds : (r : LineRefusal) (P : Type 0) → P → WithMemory r P
WithMemory-holds (BadLine n) P p = p
WithMemory-holds (Order n) P p = p
WithMemory-holds Cut P p = p
WithMemory-holds NoMemory P p = tt

pub WithMemory-weaker : (r : LineRefusal) (P Q : Type 0) → (P → Q) → WithMemory r P → WithMemory r Q
WithMemory-weaker (BadLine n) P Q f p = f p
WithMemory-weaker (Order n) P Q f p = f p
WithMemory-weaker Cut P Q f p = f p
WithMemory-weaker NoMemory P Q f p = tt

-- ---- order
-- a list that is not empty, cut before its last element
pub last_split : {A : Type 0} (xs : List A) (d : A) → 0 < length xs
    → xs ≡ take (length xs - 1) xs ++ get_or xs (length xs - 1) d ∷ []
last_split xs d l =
    let whole : take ((length xs - 1) + 1) xs ≡ xs = take_all ((length xs - 1) + 1) xs (omega arith) in
    sym whole ∙ take_more xs (length xs - 1) d (omega arith)

-- in rising lists, all lie below what the last lies below
below_last : (ks : List (List ℕ)) (top d : List ℕ) (k m : ℕ) → AllPairs IsBefore ks → m < length ks → k ≤ m
    → IsBefore (get_or ks m d) top → IsBefore (get_or ks k d) top
below_last ks top d k m rising l le last = by (cases_lt k m)
  where
    by : (k < m) ⊎ (m ≤ k) → IsBefore (get_or ks k d) top
    by (inl less) = before_trans (get_or ks k d) (get_or ks m d) top (rising k m d less l) last
    by (inr more) = let same : m ≡ k = omega arith in subst (λ (i : ℕ). IsBefore (get_or ks i d) top) same last

below_row : {A : Type 0} (key : A → List ℕ) (rows : List A) (row : A) → AllPairs IsBefore (map key rows)
    → RisesAbove (Some key) rows row → (k : ℕ) (d : List ℕ) → k < length (map key rows)
    → IsBefore (get_or (map key rows) k d) (key row)
below_row key rows row rising rises k d l =
    let size : length (map key rows) ≡ length rows = length-map rows key in
    let split = last_split rows row (omega arith) in
    let last : IsBefore (key (get_or rows (length rows - 1) row)) (key row) =
    rises (take (length rows - 1) rows) (get_or rows (length rows - 1) row) split in
    let at_last : get_or (map key rows) (length rows - 1) d ≡ key (get_or rows (length rows - 1) row) =
    get_or-map key rows (length rows - 1) row d (omega arith) in
    below_last (map key rows) (key row) d k (length rows - 1) rising (omega arith) (omega arith)
    (subst (λ (t : List ℕ). IsBefore t (key row)) (sym at_last) last)

rise_more : {A : Type 0} (order : Option (A → List ℕ)) (rows : List A) (row : A) → Rise order rows → RisesAbove order rows row
    → Rise order (rows ++ row ∷ [])
rise_more None rows row rising rises = tt
rise_more (Some key) rows row rising rises =
    subst (λ (ks : List (List ℕ)). AllPairs IsBefore ks) (sym (map_push key rows row))
    (all_pairs_push IsBefore (map key rows) (key row) rising (below_row key rows row rising rises))

-- the rows with one more that rises above the last
pub rows_more : {A : Type 0} (P : A → Type 0) (order : Option (A → List ℕ)) (rows : List A) (row : A) → AreRows P order rows
    → P row → RisesAbove order rows row → AreRows P order (rows ++ row ∷ [])
rows_more P order rows row good form rises =
    record { each = All-push P rows row good.each form; rising = rise_more order rows row good.rising rises }

-- the text with one more row read
pub text_more : {A : Type 0} (line_of : A → List ℕ) (rows : List A) (row : A) (text rest next : List ℕ)
    → text ≡ flat_map line_of rows ++ rest → rest ≡ line_of row ++ next → text ≡ flat_map line_of (rows ++ row ∷ []) ++ next
text_more line_of rows row text rest next e f = grind (arith, append_assoc, append-nil, flat_map-append)

-- what reading so far amounts to
pub record IsReadSoFar {A : Type 0} (P : A → Type 0) (line_of : A → List ℕ) (order : Option (A → List ℕ)) (text rest : List ℕ)
    (rows : List A) (count line at : ℕ) : Type 0 where
  pub size : length rows ≡ count
  pub good : AreRows P order rows
  pub front : text ≡ flat_map line_of rows ++ rest
  pub place : at ≡ line_after line (length rows)

one_more_read : {A : Type 0} (P : A → Type 0) (line_of : A → List ℕ) (order : Option (A → List ℕ)) (text rest next : List ℕ)
    (rows more : List A) (row : A) (count line at : ℕ) → IsReadSoFar P line_of order text rest rows count line at → P row
    → rest ≡ line_of row ++ next → RisesAbove order rows row → more ≡ rows ++ row ∷ []
    → IsReadSoFar P line_of order text next more (count + 1) line (min (at + 1) (2 ^ 64 - 1))
one_more_read {A} P line_of order text rest next rows more row count line at so form front rises is =
    let size : length (rows ++ row ∷ []) ≡ length rows + 1 = length-append rows (row ∷ []) in
    subst (λ (rs : List A). IsReadSoFar P line_of order text next rs (count + 1) line (min (at + 1) (2 ^ 64 - 1)))
    (sym is) (record {
      size = omega (arith, size, so.size);
      good = rows_more P order rows row so.good form rises;
      front = text_more line_of rows row text rest next so.front front;
      place = omega (arith, size, so.place);
    })

pub bad_row : {A : Type 0} (P : A → Type 0) (line_of : A → List ℕ) (order : Option (A → List ℕ)) (text rest : List ℕ)
    (rows : List A) (total count line at : ℕ) (r : LineRefusal) → IsReadSoFar P line_of order text rest rows count line at
    → count < total → BeginsWithNone P line_of rest → IsCutOrBad at rest r
    → WithMemory r (IsRefusedRow P line_of order total line text r)
bad_row P line_of order text rest rows total count line at r so less none why = grind arith

row_out_of_order : {A : Type 0} (P : A → Type 0) (line_of : A → List ℕ) (order : Option (A → List ℕ)) (text rest next : List ℕ)
    (rows : List A) (row : A) (total count line at : ℕ) → IsReadSoFar P line_of order text rest rows count line at
    → count < total → P row → rest ≡ line_of row ++ next → ¬ RisesAbove order rows row
    → IsRefusedRow P line_of order total line text (Order at)
row_out_of_order P line_of order text rest next rows row total count line at so less form front falls = grind arith

pub row_out_of_order_at : {A : Type 0} (P : A → Type 0) (line_of : A → List ℕ) (order : Option (A → List ℕ))
    (text rest next : List ℕ) (rows shown : List A) (row : A) (total count line at : ℕ)
    → IsReadSoFar P line_of order text rest rows count line at → count < total → P row → rest ≡ line_of row ++ next
    → shown ≡ rows → ¬ RisesAbove order shown row
    → IsRefusedRow P line_of order total line text (Order at)
row_out_of_order_at {A} P line_of order text rest next rows shown row total count line at so less form front same falls =
    row_out_of_order P line_of order text rest next rows row total count line at so less form front
    (subst (λ (rs : List A). ¬ RisesAbove order rs row) same falls)

-- nothing lies before the empty row
pub before_nil : (xs ys : List ℕ) → length ys ≡ 0 → IsBefore xs ys → ⊥
before_nil [] ys e h = h
before_nil (x ∷ xs) [] e h = h
before_nil (x ∷ xs) (y ∷ ys) e h = omega arith

-- ---- what the code's tests say
pub pushed : {A E X : Type 0} (r : Result A E) (new old : List X) (x : X) → false ≡ is_err r
    → new ≡ cond (is_ok r) (old ++ x ∷ []) old → new ≡ old ++ x ∷ []
pushed (Ok v) new old x e h = h
pushed (Err v) new old x e h = absurd (cc)

pub one_more_read_at : {A : Type 0} (P : A → Type 0) (line_of : A → List ℕ) (order : Option (A → List ℕ))
    (text rest next : List ℕ) (rows shown more : List A) (row : A) (count line at after : ℕ)
    → IsReadSoFar P line_of order text rest rows count line at → P row → rest ≡ line_of row ++ next → shown ≡ rows
    → RisesAbove order shown row → more ≡ rows ++ row ∷ [] → after ≡ min (at + 1) (2 ^ 64 - 1)
    → IsReadSoFar P line_of order text next more (count + 1) line after
one_more_read_at {A} P line_of order text rest next rows shown more row count line at after so form front same rises is place =
    subst (λ (n : ℕ). IsReadSoFar P line_of order text next more (count + 1) line n) (sym place)
    (one_more_read P line_of order text rest next rows more row count line at so form front
    (subst (λ (rs : List A). RisesAbove order rs row) same rises) is)

pub some_left : (xs : List ℕ) (b : Bool) → b ≡ (length xs == 0) → b ≡ false → ¬ (xs ≡ [])
some_left [] b e f g = absurd (cc)
some_left (x ∷ xs) b e f g = absurd (cc)

pub none_left : (xs : List ℕ) (b : Bool) → b ≡ (length xs == 0) → b ≡ true → xs ≡ []
none_left [] b e f = refl
none_left (x ∷ xs) b e f =
    absurd (let h : (length (x ∷ xs) == 0) ≡ true = sym e ∙ f in omega (arith, eqb-true (length (x ∷ xs)) 0 h))

-- a fact about an error that went through a `?`
pub IfErr-holds : {A E : Type 0} (o : Result A E) (e : E) (P : E → Type 0) → IsErrAnd o (λ f. f ≡ e) → P e → IfErr o P
IfErr-holds (Ok x) e P s p = absurd s
IfErr-holds (Err f) e P s p = subst P (sym s) p

pub IfErr-weaker : {A E : Type 0} (o : Result A E) (P Q : E → Type 0) → ((e : E) → P e → Q e) → IfErr o P → IfErr o Q
IfErr-weaker (Ok x) P Q f p = tt
IfErr-weaker (Err e) P Q f p = f e p
