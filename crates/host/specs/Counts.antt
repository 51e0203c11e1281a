-- Counts that stop at the maximum of a `u64`, and the index of each call's count.
--
--   next count         one more, or the maximum
--   Rose before after  the count of faults has risen, or is at its greatest value
--   call_index call    the index of a kind
use Rattle.std.specs.Prelude.{ℕ, ◌+◌, ◌-◌, ◌^◌, ◌≤◌, min}
use Rattle.host.specs.declared.plan.HostCall.{HostCall}
use Rattle.host.specs.declared.plan.HostCall.TheVariants.{Open, Read, Create, Append, Finish, Say}

-- one more, up to the maximum of a u64
abbrev pub next : ℕ → ℕ
next count = min (count + 1) (2 ^ 64 - 1)

-- the count rose, or is at its maximum; it never decreases
abbrev pub Rose : ℕ → ℕ → Type 0
Rose before after = (before ≤ after) × (next before ≤ after)

-- the index of a call's count, in the order in which the calls are declared
abbrev pub call_index : HostCall → ℕ
call_index Open = 0
call_index Read = 1
call_index Create = 2
call_index Append = 3
call_index Finish = 4
call_index Say = 5
