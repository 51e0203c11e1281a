use Rattle.std.proofs.Common.{map, string_bytes, take}
use Rattle.std.specs.List.{zip}
use Rattle.command_run.specs.Steps.{IsWritten}
use Rattle.recon_cmd.proofs.whole_run.forms.write_forms.Given as goal

abbrev pub invariant-loop-k : goal.invariant-loop-k
invariant-loop-k g l =
    IsWritten (take l.k
    (zip (map string_bytes l.outputs) (map (λ form. (goal.Form-dyn g (form.vtable, form.value)).text_of form.value) l.forms)))
    (g.H.Host.state l.fn.host) (g.H.Host.state l.host)
