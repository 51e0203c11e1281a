-- The exit status as a number.
--
--   code_of status           the number of a status: 0 to 5
--   ExitsWith code Holds     the number is that of a status with this property
use Rattle.std.specs.Prelude.{ℕ, ◌≡◌}
use Rattle.command_run.specs.declared.status.Status.{Status}
use Rattle.command_run.specs.declared.status.Status.TheVariants.{Done, No, BadArguments, Refused, Failed, NoMemory}

-- the exit status as a number
abbrev pub code_of : Status → ℕ
code_of Done = 0
code_of No = 1
code_of BadArguments = 2
code_of Refused = 3
code_of Failed = 4
code_of NoMemory = 5

-- the number is that of a status with this property
abbrev pub ExitsWith : (code : ℕ) → (Holds : Status → Type 0) → Type 0
ExitsWith code Holds = (status : Status) × (code ≡ code_of status) × Holds status
