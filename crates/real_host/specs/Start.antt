-- The start of a program: its arguments, and a fresh host.
--
--   arguments_of args    the arguments after the program's name
--   fresh_state          a fresh host, which exposes no bytes
use Rattle.std.specs.Prelude.{ℕ, List, map, drop, None, false, string_bytes}
use Rattle.std.specs.Vec.Iter.{into_iter_items}
use Rattle.std.specs.declared.string.String.{String}
use Rattle.std.specs.declared.vec.IntoIter.{IntoIter}
use Rattle.host.specs.State.{State}

-- the arguments after the program's name
abbrev pub arguments_of : {A : Type 0} → IntoIter (String A) A → List (List ℕ)
arguments_of args = map string_bytes (drop 1 (into_iter_items args))

-- a host with no file open and no call so far, which exposes no bytes
abbrev pub fresh_state : State
fresh_state = record { told = None; faults = 0; opens = 0; reading = false; writing = false }
