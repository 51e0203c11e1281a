-- What one change of a host's state after another makes.
use Rattle.std.proofs.Common.{◌≡◌, ℕ, ◌+◌, ◌-◌, List, [], ◌++◌, length, take, drop, Option, Some, Bool, cond}
use Rattle.std.proofs.Common.{ap, arith, append_assoc, drop-drop}
use mathlib.Core.Path.{fun_ext}
use Rattle.std.specs.Str.{bytes_eq}
use Rattle.std.specs.Option.{option_map}
use Rattle.std.proofs.lemmas.List.{take_rest}
use Rattle.std.proofs.Math.Seq.{take-add, take-length}
use Rattle.host.specs.State.{State, Told, FailedFrom, after_change, takes, says, appends, with_more, with_file, Files, creates}
use Rattle.host.specs.State.{finishes}
use Rattle.host.specs.Whole.{writes, WritesFront}

-- one change after another
after_change-after_change : (second first both : Told → Told) → ((told : Told) → second (first told) ≡ both told)
    → (told : Option Told) → after_change second (after_change first told) ≡ after_change both told
after_change-after_change second first both same told = grind arith

-- a front, and a front of what is left
front_more : (done count : ℕ) (bytes : List ℕ)
    → take done bytes ++ take count (take (length bytes - done) (drop done bytes)) ≡ take (done + count) bytes
front_more done count bytes = grind (arith, take_rest, take-add)

says-says : (first second : List ℕ) (state : State) → says second (says first state) ≡ says (first ++ second) state
says-says first second state = grind (arith, append_assoc)

more_more : (is_it : Bool) (first second : List ℕ) (old : Option (List ℕ))
    → cond is_it (option_map (λ bytes. bytes ++ second) (cond is_it (option_map (λ bytes. bytes ++ first) old) old))
    (cond is_it (option_map (λ bytes. bytes ++ first) old) old)
    ≡ cond is_it (option_map (λ bytes. bytes ++ (first ++ second)) old) old
more_more is_it first second old = grind (arith, append_assoc)

with_more-with_more : (name first second : List ℕ) (files : Files)
    → with_more name second (with_more name first files) ≡ with_more name (first ++ second) files
with_more-with_more name first second files = fun_ext (λ asked. more_more (bytes_eq asked name) first second (files asked))

appends-appends : (first second : List ℕ) (state : State)
    → appends second (appends first state) ≡ appends (first ++ second) state
appends-appends first second state =
    ap (λ (told : Option Told). record state { told = told })
    (after_change-after_change _ _ _
    (λ told. ap (λ (files : Files). record told { files = files }) (with_more-with_more told.target first second told.files))
    state.told)

-- the step of a loop that says a front, and then a front of what is left
pub says_step : (done count : ℕ) (bytes : List ℕ) (before now after : State)
    → now ≡ says (take done bytes) before → after ≡ says (take count (take (length bytes - done) (drop done bytes))) now
    → after ≡ says (take (done + count) bytes) before
says_step done count bytes before now after first second = grind (arith, says-says, front_more)

-- the same of a loop that adds to a file
pub appends_step : (done count : ℕ) (bytes : List ℕ) (before now after : State)
    → now ≡ appends (take done bytes) before → after ≡ appends (take count (take (length bytes - done) (drop done bytes))) now
    → after ≡ appends (take (done + count) bytes) before
appends_step done count bytes before now after first second = grind (arith, appends-appends, front_more)

-- bytes were taken, and then more
pub takes_more : (taken more : ℕ) (before now after : State) → now ≡ takes taken before → after ≡ takes more now
    → after ≡ takes (taken + more) before
takes_more taken more before now after first second = grind (arith, drop-drop)

more_of_new : (is_it : Bool) (bytes : List ℕ) (old : Option (List ℕ))
    → cond is_it (option_map (λ made. made ++ bytes) (cond is_it (Some []) old)) (cond is_it (Some []) old)
    ≡ cond is_it (Some bytes) old
more_of_new is_it bytes old = grind arith

with_more-with_file : (name bytes : List ℕ) (files : Files)
    → with_more name bytes (with_file name [] files) ≡ with_file name bytes files
with_more-with_file name bytes files = fun_ext (λ asked. more_of_new (bytes_eq asked name) bytes (files asked))

-- a file that was made, added to and finished
pub made_file : (name bytes : List ℕ) (state : State) → finishes (appends bytes (creates name state)) ≡ writes name bytes state
made_file name bytes state = grind (arith, with_more-with_file)

-- a file was made and written, and its closing failed
pub failed_last : (name bytes : List ℕ) (before made written after : State)
    → made ≡ creates name before → written ≡ appends bytes made → FailedFrom (finishes written) after
    → WritesFront name bytes before after
failed_last name bytes before made written after created added failed =
    grind (arith, made_file name bytes before, take-length bytes)
