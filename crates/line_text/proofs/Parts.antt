-- Parts of a text, one behind the other: the whole is refused in one way, and not where all parts are good.
--
-- A part is either refused, or good and followed by something (AtPart). If its text is a code, the two exclude each other,
-- and where it is good both what it is and what follows are one. So two refusals are both of this part or both behind it
-- (part_once), and a text with a good part here can only be refused behind it (part_passed). A fixed word, a word and a
-- number, rows and a list are such parts (word_, number_, rows_, list_).
use Rattle.std.proofs.Common.{ℕ, ◌≡◌, ◌+◌, ◌-◌, ◌<◌, ◌^◌, inl, inr, refl, ap, sym, subst, ◌∙◌, arith, Option, List, [], ◌++◌}
use Rattle.std.proofs.Common.{length, append_assoc}
use Rattle.std.specs.List.{flat_map}
use Rattle.line_text.specs.Numbers.{counted, BeginsWithNone}
use Rattle.geo_sign.specs.Numbers.{IsBetween}
use Rattle.line_text.specs.declared.refusal.LineRefusal.{LineRefusal}
use Rattle.line_text.specs.Refusals.{line_after, RefusedWord, RefusedNumber, AreRows, AreCountedRows, IsRefusedRow, AtPart, AtWord}
use Rattle.line_text.specs.Refusals.{AtNumber, AtRows, AtList, IsBehindEnd}
use Rattle.line_text.specs.Lists.{RefusedList, list_text, IsList}
use Rattle.line_text.proofs.Codes.{IsCode, behind_same, code_list, counted_between_code}
use Rattle.line_text.proofs.Fronts.{cut_or_bad_same, row_same, row_not_good}

-- what is said of a text and a refusal has one refusal of a text
abbrev pub IsOnce : (List ℕ → LineRefusal → Type 0) → Type 0
IsOnce At = (text : List ℕ) (r s : LineRefusal) → At text r → At text s → r ≡ s

-- it has none of this text
abbrev pub IsPassed : (List ℕ → LineRefusal → Type 0) → List ℕ → Type 0
IsPassed At text = (r : LineRefusal) → At text r → ⊥

-- ---- any part
pub part_once : {A : Type 0} (P : A → Type 0) (text_of : A → List ℕ) → IsCode P text_of
    → (Refused : List ℕ → LineRefusal → Type 0) (At : A → List ℕ → LineRefusal → Type 0) → IsOnce Refused
    → ((text : List ℕ) (r : LineRefusal) → Refused text r → BeginsWithNone P text_of text) → ((a : A) → P a → IsOnce (At a))
    → IsOnce (λ t r. AtPart P text_of t (Refused t r) (λ a u. At a u r))
part_once P text_of code Refused At once none next text r s (inl h) (inl k) = once text r s h k
part_once P text_of code Refused At once none next text r s (inl h) (inr k) =
    absurd (none text r h k.value k.rest k.form k.front)
part_once P text_of code Refused At once none next text r s (inr h) (inl k) =
    absurd (none text s k h.value h.rest h.form h.front)
part_once {A} P text_of code Refused At once none next text r s (inr h) (inr k) = grind arith

pub part_passed : {A : Type 0} (P : A → Type 0) (text_of : A → List ℕ) → IsCode P text_of
    → (Refused : List ℕ → LineRefusal → Type 0) (At : A → List ℕ → LineRefusal → Type 0)
    → ((text : List ℕ) (r : LineRefusal) → Refused text r → BeginsWithNone P text_of text) → (text rest : List ℕ) (a : A) → P a
    → text ≡ text_of a ++ rest → IsPassed (At a) rest → IsPassed (λ t r. AtPart P text_of t (Refused t r) (λ b u. At b u r)) text
part_passed P text_of code Refused At none text rest a form front never r (inl h) = none text r h a rest form front
part_passed {A} P text_of code Refused At none text rest a form front never r (inr h) = grind arith

-- ---- a fixed text
pub word_once : (word : List ℕ) (n : ℕ) (At : List ℕ → LineRefusal → Type 0) → IsOnce At
    → IsOnce (λ t r. AtWord word n t r (λ u. At u r))
word_once word n At next text r s (inl h) (inl k) = cut_or_bad_same n text r s h.1 k.1
word_once word n At next text r s (inl h) (inr k) = absurd (h.0 k.0 k.1)
word_once word n At next text r s (inr h) (inl k) = absurd (k.0 h.0 h.1)
word_once word n At next text r s (inr h) (inr k) =
    next h.0 r s h.2 (subst (λ (t : List ℕ). At t s) (behind_same word k.0 h.0 (sym k.1 ∙ h.1)) k.2)

pub word_passed : (word : List ℕ) (n : ℕ) (At : List ℕ → LineRefusal → Type 0) (text rest : List ℕ) → text ≡ word ++ rest
    → IsPassed At rest → IsPassed (λ t r. AtWord word n t r (λ u. At u r)) text
word_passed word n At text rest front never r (inl h) = h.0 rest front
word_passed word n At text rest front never r (inr h) =
    never r (subst (λ (t : List ℕ). At t r) (behind_same word h.0 rest (sym h.1 ∙ front)) h.2)

-- the line as the code has it: its word is a value that is this text
pub word_refused : (shown word : List ℕ) (n : ℕ) (text : List ℕ) (r : LineRefusal) (Next : List ℕ → Type 0) → shown ≡ word
    → RefusedWord shown n text r → AtWord word n text r Next
word_refused shown word n text r Next e h = inl (subst (λ (w : List ℕ). RefusedWord w n text r) e h)

pub behind_word : (shown word text rest : List ℕ) → shown ≡ word → text ≡ shown ++ rest → text ≡ word ++ rest
behind_word shown word text rest e f = f ∙ ap (λ (w : List ℕ). w ++ rest) e

pub word_good : (shown word : List ℕ) (n : ℕ) (text rest : List ℕ) (r : LineRefusal) (Next : List ℕ → Type 0) → shown ≡ word
    → text ≡ shown ++ rest → Next rest → AtWord word n text r Next
word_good shown word n text rest r Next e f next = inr (rest, behind_word shown word text rest e f, next)

-- ---- a word and a number
pub number_once : (word : List ℕ) (least greatest n : ℕ) (At : ℕ → List ℕ → LineRefusal → Type 0) → greatest < 2 ^ 64
    → ((a : ℕ) → IsBetween least greatest a → IsOnce (At a)) → IsOnce (λ t r. AtNumber word least greatest n t r (λ a u. At a u r))
number_once word least greatest n At fits =
    part_once (IsBetween least greatest) (counted word) (counted_between_code word least greatest fits)
    (RefusedNumber word least greatest n) At (λ text r s h k. cut_or_bad_same n text r s h.1 k.1) (λ text r h. h.0)

pub number_passed : (word : List ℕ) (least greatest n a : ℕ) (At : ℕ → List ℕ → LineRefusal → Type 0) (text rest : List ℕ)
    → greatest < 2 ^ 64 → IsBetween least greatest a → text ≡ counted word a ++ rest → IsPassed (At a) rest
    → IsPassed (λ t r. AtNumber word least greatest n t r (λ b u. At b u r)) text
number_passed word least greatest n a At text rest fits =
    part_passed (IsBetween least greatest) (counted word) (counted_between_code word least greatest fits)
    (RefusedNumber word least greatest n) At (λ t r h. h.0) text rest a

-- the line as the code has it
pub number_refused : (shown word : List ℕ) (least greatest n : ℕ) (text : List ℕ) (r : LineRefusal) (Next : ℕ → List ℕ → Type 0)
    → shown ≡ word → RefusedNumber shown least greatest n text r → AtNumber word least greatest n text r Next
number_refused shown word least greatest n text r Next e h =
    inl (subst (λ (w : List ℕ). RefusedNumber w least greatest n text r) e h)

pub behind_number : (shown word text rest : List ℕ) (a : ℕ) → shown ≡ word → text ≡ counted shown a ++ rest
    → text ≡ counted word a ++ rest
behind_number shown word text rest a e f = f ∙ ap (λ (w : List ℕ). counted w a ++ rest) e

pub number_good : (shown word : List ℕ) (least greatest n a : ℕ) (text rest : List ℕ) (r : LineRefusal)
    (Next : ℕ → List ℕ → Type 0) → shown ≡ word → IsBetween least greatest a → text ≡ counted shown a ++ rest → Next a rest
    → AtNumber word least greatest n text r Next
number_good shown word least greatest n a text rest r Next e form f next =
    inr (record { value = a; rest = rest; form = form; front = behind_number shown word text rest a e f; next = next })

-- ---- rows
rows_code : {A : Type 0} (P : A → Type 0) (line_of : A → List ℕ) (order : Option (A → List ℕ)) (count : ℕ) → IsCode P line_of
    → IsCode (AreCountedRows P order count) (flat_map line_of)
rows_code P line_of order count code =
    λ xs ys r s a b e. code_list P line_of code xs ys r s (a.0 ∙ sym b.0) (a.1).each (b.1).each e

pub rows_once : {A : Type 0} (P : A → Type 0) (line_of : A → List ℕ) (order : Option (A → List ℕ)) → IsCode P line_of
    → (count n : ℕ) (At : List A → List ℕ → LineRefusal → Type 0)
    → ((rows : List A) → AreCountedRows P order count rows → IsOnce (At rows))
    → IsOnce (λ t r. AtRows P line_of order count n t r (λ rows u. At rows u r))
rows_once P line_of order code count n At =
    part_once (AreCountedRows P order count) (flat_map line_of) (rows_code P line_of order count code)
    (IsRefusedRow P line_of order count n) At (row_same P line_of order code count n)
    (λ text r h rows rest form front. row_not_good P line_of order code count n text rest rows r h form.0 form.1 front)

pub rows_passed : {A : Type 0} (P : A → Type 0) (line_of : A → List ℕ) (order : Option (A → List ℕ)) → IsCode P line_of
    → (count n : ℕ) (At : List A → List ℕ → LineRefusal → Type 0) (text rest : List ℕ) (rows : List A)
    → AreCountedRows P order count rows → text ≡ flat_map line_of rows ++ rest → IsPassed (At rows) rest
    → IsPassed (λ t r. AtRows P line_of order count n t r (λ some u. At some u r)) text
rows_passed P line_of order code count n At text rest rows =
    part_passed (AreCountedRows P order count) (flat_map line_of) (rows_code P line_of order count code)
    (IsRefusedRow P line_of order count n) At
    (λ t r h some behind good is. row_not_good P line_of order code count n t behind some r h good.0 good.1 is) text rest rows

pub rows_good : {A : Type 0} (P : A → Type 0) (line_of : A → List ℕ) (order : Option (A → List ℕ)) (count n : ℕ)
    (text rest : List ℕ) (rows : List A) (r : LineRefusal) (Next : List A → List ℕ → Type 0) → AreCountedRows P order count rows
    → text ≡ flat_map line_of rows ++ rest → Next rows rest → AtRows P line_of order count n text r Next
rows_good P line_of order count n text rest rows r Next form front next =
    inr (record { value = rows; rest = rest; form = form; front = front; next = next })

-- ---- a list with its length before it
pub list_once : {A : Type 0} (P : A → Type 0) (line_of : A → List ℕ) (order : Option (A → List ℕ)) → IsCode P line_of
    → (word : List ℕ) (n : ℕ) (At : ℕ → List ℕ → LineRefusal → Type 0) → ((m : ℕ) → IsOnce (At m))
    → IsOnce (λ t r. AtList P line_of order word n t r (λ m u. At m u r))
list_once P line_of order code word n At next =
    number_once word 0 (2 ^ 64 - 1) n
    (λ count t r. AtRows P line_of order count (line_after n 1) t r (λ _ u. At (line_after (line_after n 1) count) u r))
    (omega arith) (λ count _.
    rows_once P line_of order code count (line_after n 1) (λ _. At (line_after (line_after n 1) count))
    (λ _ _. next (line_after (line_after n 1) count)))

pub list_passed : {A : Type 0} (P : A → Type 0) (line_of : A → List ℕ) (order : Option (A → List ℕ)) → IsCode P line_of
    → (word : List ℕ) (n : ℕ) (At : ℕ → List ℕ → LineRefusal → Type 0) (text rest : List ℕ) (rows : List A)
    → length rows < 2 ^ 64 → AreRows P order rows → text ≡ counted word (length rows) ++ (flat_map line_of rows ++ rest)
    → IsPassed (At (line_after (line_after n 1) (length rows))) rest
    → IsPassed (λ t r. AtList P line_of order word n t r (λ m u. At m u r)) text
list_passed P line_of order code word n At text rest rows few good front never =
    number_passed word 0 (2 ^ 64 - 1) n (length rows)
    (λ count t r. AtRows P line_of order count (line_after n 1) t r (λ _ u. At (line_after (line_after n 1) count) u r))
    text (flat_map line_of rows ++ rest) (omega arith) (omega arith, omega arith) front
    (rows_passed P line_of order code (length rows) (line_after n 1) (λ _. At (line_after (line_after n 1) (length rows)))
    (flat_map line_of rows ++ rest) rest rows (refl, good) refl never)

pub list_refused : {A : Type 0} (P : A → Type 0) (line_of : A → List ℕ) (order : Option (A → List ℕ)) (word : List ℕ) (n : ℕ)
    (text : List ℕ) (r : LineRefusal) (Next : ℕ → List ℕ → Type 0) → RefusedList P line_of order word n text r
    → AtList P line_of order word n text r Next
list_refused P line_of order word n text r Next (inl h) = inl h
list_refused P line_of order word n text r Next (inr h) = grind arith

pub list_good : {A : Type 0} (P : A → Type 0) (line_of : A → List ℕ) (order : Option (A → List ℕ)) (word : List ℕ) (n m : ℕ)
    (text rest : List ℕ) (rows : List A) (r : LineRefusal) (Next : ℕ → List ℕ → Type 0) → IsList P order rows
    → text ≡ list_text line_of word rows ++ rest → m ≡ line_after n (1 + length rows) → Next m rest
    → AtList P line_of order word n text r Next
list_good P line_of order word n m text rest rows r Next form front is next =
    grind (arith, number_good, append_assoc, rows_good)

-- ---- the end
pub end_once : (n : ℕ) → IsOnce (IsBehindEnd n)
end_once n rest r s h k = h.1 ∙ sym k.1

pub end_passed : (n : ℕ) → IsPassed (IsBehindEnd n) []
end_passed n r h = h.0 refl
