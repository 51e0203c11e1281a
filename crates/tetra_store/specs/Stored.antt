-- The cells of a store as a list of names, which is what the theorems on cells speak of.
--
--   with_number b n rest    the list, and n before it if b
--   live_below slots n      the numbers below n that have a cell
--   live_of slots           all numbers that have a cell
use Rattle.std.specs.Prelude.{ℕ, zero, suc, Bool, true, false, List, [], ◌∷◌, Option, is_some, length}
use Rattle.tetra_store.specs.declared.link.Cell.{Cell}
use Rattle.tetra_store.specs.Links.{slot_at}

-- the list, and n before it where the flag is set
abbrev pub with_number : Bool → ℕ → List ℕ → List ℕ
with_number true n rest = n ∷ rest
with_number false n rest = rest

-- the numbers below n that have a cell, the largest first
abbrev pub live_below : List (Option Cell) → ℕ → List ℕ
live_below slots zero = []
live_below slots (suc n) = with_number (is_some (slot_at slots n)) n (live_below slots n)

-- all of them
abbrev pub live_of : List (Option Cell) → List ℕ
live_of slots = live_below slots (length slots)
