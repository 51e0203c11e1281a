-- Why a text that is read line by line is rejected: the first error in line order.
--
--   line_after n k               the number of the line k lines after line n, at most the greatest 64-bit number
--   IsCutOrBad n text r          the error if a line is not of its form: truncated if the text ends before the line
--                                does, else a bad line with its number
--   RefusedWord                  line n is not this text
--   RefusedNumber                line n is not this text and a number from the least to the greatest
--   Rise order rows              rows with strictly ascending keys, if they have to ascend
--   RisesAbove order rows row    a row is above the last of these rows, if it has to be
--   AreRows IsForm order rows    rows of their form, strictly ascending by their keys if an order is required
--   IsOutOfOrder                 a valid row that is not above the row before it
--   IsRefusedRow                 one of the stated number of rows is rejected, after valid rows
--   BeginsWith                   the text begins with a valid part, and the text after it has a property
--   AtPart                       a part is rejected, or it is valid and the text after it has a property
--   AtWord, AtNumber, AtRows, AtList
--                                the next line or list of a text is an error, or it is valid and something holds of the
--                                text after it. So the error of a whole text is that of its first invalid line
--   IsBehindEnd n rest r         something follows the last line, as line n
use Rattle.std.specs.Prelude.{ℕ, ◌≡◌, ◌⊎◌, ◌+◌, ◌-◌, ◌<◌, ◌^◌, min, Option, Some, None, List, [], ◌∷◌, ◌++◌, All, AllPairs}
use Rattle.std.specs.Prelude.{Contains, length, map}
use Rattle.std.specs.List.{flat_map}
use Rattle.line_text.specs.Numbers.{line_feed, counted, Lacks, BeginsWithNone}
use Rattle.geo_sign.specs.Numbers.{IsBetween}
use Rattle.geo_sign.specs.Rising.{IsBefore}
use Rattle.line_text.specs.declared.refusal.LineRefusal.{LineRefusal}
use Rattle.line_text.specs.declared.refusal.LineRefusal.TheVariants.{BadLine, Order, Cut, NoMemory}

-- the number of the line k lines after line n, at most the greatest 64-bit number
abbrev pub line_after : ℕ → ℕ → ℕ
line_after n k = min (n + k) (2 ^ 64 - 1)

-- An invalid line: the text ends before the line does, or line n exists and is bad.
abbrev pub IsCutOrBad : ℕ → List ℕ → LineRefusal → Type 0
IsCutOrBad n text Cut = Lacks line_feed text
IsCutOrBad n text (BadLine m) = (m ≡ n) × Contains text line_feed
IsCutOrBad n text (Order m) = ⊥
IsCutOrBad n text NoMemory = ⊥

-- line n is not this fixed text
abbrev pub RefusedWord : List ℕ → ℕ → List ℕ → LineRefusal → Type 0
RefusedWord word n text r = ((rest : List ℕ) → ¬ (text ≡ word ++ rest)) × IsCutOrBad n text r

-- line n is not the prefix and a number from the least to the greatest
abbrev pub RefusedNumber : List ℕ → (least greatest : ℕ) → ℕ → List ℕ → LineRefusal → Type 0
RefusedNumber word least greatest n text r = BeginsWithNone (IsBetween least greatest) (counted word) text × IsCutOrBad n text r

-- ---- rows
-- rows with strictly ascending keys, or in any order
abbrev pub Rise : {A : Type 0} → Option (A → List ℕ) → List A → Type 0
Rise None rows = Unit {0}
Rise (Some key) rows = AllPairs IsBefore (map key rows)

-- the row is above the row before it, if there is one and rows have to ascend
abbrev pub RisesAbove : {A : Type 0} → Option (A → List ℕ) → List A → A → Type 0
RisesAbove None rows row = Unit {0}
RisesAbove {A} (Some key) rows row =
    (earlier : List A) (before : A) → rows ≡ earlier ++ before ∷ [] → IsBefore (key before) (key row)

-- valid rows in ascending order
pub record AreRows {A : Type 0} (IsForm : A → Type 0) (order : Option (A → List ℕ)) (rows : List A) : Type 0 where
  pub each : All IsForm rows
  pub rising : Rise order rows

-- this number of rows
abbrev pub AreCountedRows : {A : Type 0} → (A → Type 0) → Option (A → List ℕ) → ℕ → List A → Type 0
AreCountedRows IsForm order count rows = (length rows ≡ count) × AreRows IsForm order rows

-- line n is valid, but its row is not above the row before it
pub record IsOutOfOrder {A : Type 0} (IsForm : A → Type 0) (line_of : A → List ℕ) (order : Option (A → List ℕ)) (rows : List A)
    (n : ℕ) (text : List ℕ) (r : LineRefusal) : Type 0 where
  pub row : A
  pub rest : List ℕ
  pub form : IsForm row
  pub front : text ≡ line_of row ++ rest
  pub falls : ¬ RisesAbove order rows row
  pub says : r ≡ Order n

-- the row at line n, after these rows, is invalid or out of order
abbrev pub IsRefusedLine : {A : Type 0} → (A → Type 0) → (A → List ℕ) → Option (A → List ℕ) → List A → ℕ → List ℕ → LineRefusal
    → Type 0
IsRefusedLine IsForm line_of order rows n text r =
    (BeginsWithNone IsForm line_of text × IsCutOrBad n text r) ⊎ IsOutOfOrder IsForm line_of order rows n text r

-- one of `count` rows that begin at line n is rejected, and the rows before it are valid
pub record IsRefusedRow {A : Type 0} (IsForm : A → Type 0) (line_of : A → List ℕ) (order : Option (A → List ℕ)) (count n : ℕ)
    (text : List ℕ) (r : LineRefusal) : Type 0 where
  pub rows : List A
  pub rest : List ℕ
  pub few : length rows < count
  pub good : AreRows IsForm order rows
  pub front : text ≡ flat_map line_of rows ++ rest
  pub refused : IsRefusedLine IsForm line_of order rows (line_after n (length rows)) rest r

-- ---- parts, one after the other
-- the text begins with a valid part, and the text after it has a property
pub record BeginsWith {A : Type 0} (IsForm : A → Type 0) (text_of : A → List ℕ) (text : List ℕ)
    (Next : A → List ℕ → Type 0) : Type 0 where
  pub value : A
  pub rest : List ℕ
  pub form : IsForm value
  pub front : text ≡ text_of value ++ rest
  pub next : Next value rest

-- a part is rejected, or it is valid and the text after it has a property
abbrev pub AtPart : {A : Type 0} → (A → Type 0) → (A → List ℕ) → List ℕ → Type 0 → (A → List ℕ → Type 0) → Type 0
AtPart IsForm text_of text Refused Next = Refused ⊎ BeginsWith IsForm text_of text Next

-- line n, a fixed text
abbrev pub AtWord : List ℕ → ℕ → List ℕ → LineRefusal → (List ℕ → Type 0) → Type 0
AtWord word n text r Next = RefusedWord word n text r ⊎ ((rest : List ℕ) × (text ≡ word ++ rest) × Next rest)

-- line n, a word and a number
abbrev pub AtNumber : List ℕ → (least greatest : ℕ) → ℕ → List ℕ → LineRefusal → (ℕ → List ℕ → Type 0) → Type 0
AtNumber word least greatest n text r =
    AtPart (IsBetween least greatest) (counted word) text (RefusedNumber word least greatest n text r)

-- this number of rows from line n on
abbrev pub AtRows : {A : Type 0} → (A → Type 0) → (A → List ℕ) → Option (A → List ℕ) → (count : ℕ) → ℕ → List ℕ → LineRefusal
    → (List A → List ℕ → Type 0) → Type 0
AtRows IsForm line_of order count n text r =
    AtPart (AreCountedRows IsForm order count) (flat_map line_of) text (IsRefusedRow IsForm line_of order count n text r)

-- a list from line n on, after its length; the property gets the first line of the text after it
abbrev pub AtList : {A : Type 0} → (A → Type 0) → (A → List ℕ) → Option (A → List ℕ) → (word : List ℕ) → ℕ → List ℕ
    → LineRefusal → (ℕ → List ℕ → Type 0) → Type 0
AtList IsForm line_of order word n text r Next =
    AtNumber word 0 (2 ^ 64 - 1) n text r
    (λ count rows.
    AtRows IsForm line_of order count (line_after n 1) rows r (λ _ rest. Next (line_after (line_after n 1) count) rest))

-- something follows the last line, as line n
abbrev pub IsBehindEnd : ℕ → List ℕ → LineRefusal → Type 0
IsBehindEnd n rest r = (¬ (rest ≡ [])) × (r ≡ BadLine n)
