-- Lists after their length, and errors that may be out of memory.
--
--   WithMemory r P               out of memory, or this statement
--   RefusedList                  a list is rejected
--   list_text, IsList            the text of a whole list; its rows are valid
use Rattle.std.specs.Prelude.{ℕ, ◌<◌, ◌^◌, Option, List, ◌++◌}
use Rattle.std.specs.Prelude.{length}
use Rattle.std.specs.List.{flat_map}
use Rattle.line_text.specs.Numbers.{counted}
use Rattle.line_text.specs.declared.refusal.LineRefusal.{LineRefusal}
use Rattle.line_text.specs.declared.refusal.LineRefusal.TheVariants.{NoMemory}
use Rattle.line_text.specs.Refusals.{AreRows, AtList}

-- a statement about the text, unless memory ran out
abbrev pub WithMemory : LineRefusal → Type 0 → Type 0
WithMemory NoMemory P = Unit {0}
WithMemory _ P = P

-- a list is rejected, at its length or at one of its rows
abbrev pub RefusedList : {A : Type 0} → (A → Type 0) → (A → List ℕ) → Option (A → List ℕ) → (word : List ℕ) → ℕ → List ℕ
    → LineRefusal → Type 0
RefusedList IsForm line_of order word n text r = AtList IsForm line_of order word n text r (λ _ _. ⊥)

-- the text of a whole list; its rows are valid
abbrev pub list_text : {A : Type 0} → (A → List ℕ) → List ℕ → List A → List ℕ
list_text line_of word rows = counted word (length rows) ++ flat_map line_of rows

abbrev pub IsList : {A : Type 0} → (A → Type 0) → Option (A → List ℕ) → List A → Type 0
IsList IsForm order rows = (length rows < 2 ^ 64) × AreRows IsForm order rows
