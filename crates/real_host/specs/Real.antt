-- The operating system as a host: it exposes no bytes except those that its open files expose.
--
--   real_state host           the view of the system's host: its counts and whether files are open, and no bytes
--   left_of remaining host, held_of contents host
--                             the bytes left of the file that is read, and those of the file that is written, if such
--                             files state them
use Rattle.std.specs.Prelude.{ℕ, List, Option, None}
use Rattle.std.specs.Option.{is_some, option_and_then}
use Rattle.host.specs.State.{State}
use Rattle.real_host.specs.declared.real.RealHost.{RealHost}

-- the counts and the open files; no bytes are exposed
abbrev pub real_state : {R F A : Type 0} → RealHost R F A → State
real_state host = record {
  told = None;
  faults = host.faults;
  opens = host.opens;
  reading = is_some host.reading;
  writing = is_some host.writing;
}

-- the bytes left of the file that is open for reading, if there is one and files expose them
abbrev pub left_of : {R F A : Type 0} → (F → Option (List ℕ)) → RealHost R F A → Option (List ℕ)
left_of remaining host = option_and_then remaining host.reading

-- the bytes of the file that is open for writing, if there is one and files expose them
abbrev pub held_of : {R F A : Type 0} → (F → Option (List ℕ)) → RealHost R F A → Option (List ℕ)
held_of contents host = option_and_then contents host.writing
