use Rattle.std.proofs.Common.{◌≡◌, ◌++◌, Bool, OnOk, sym, subst}
use Rattle.scan.specs.PlainForm.{spaced, numbers_behind_point, row_showing}
use Rattle.scan.proofs.print.push_sights.Goals as goal

pub returns-then-wide-clause-printed : goal.returns-then-wide-clause-printed
returns-then-wide-clause-printed c p =
    subst (λ (wide : Bool).
    OnOk c.push_counted.result
    (c.push_counted.new.out.items ≡ c.args.out.now.items ++ spaced (numbers_behind_point wide (row_showing p c.args.sights.now))))
    (sym c.if-wide.true) (c.push_counted.ensures.printed p)
