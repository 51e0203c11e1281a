use Rattle.std.proofs.Common.{◌≡◌, rules}
use Rattle.scan.proofs.Fronts.{kept, on_err, whole_front}
use Rattle.scan.proofs.print.push_vertex_line.Goals as goal

pub returns-in_err-push-clause-front : goal.returns-in_err-push-clause-front
returns-in_err-push-clause-front c =
    let same : c.push.new.self.items ≡ c.push_sights.new.out.items = search rules in
    on_err _ (kept _ _ _ _ c.in_ok-push_coordinates.ensures.printed
    (kept _ _ _ _ (c.in_ok-push_sights.ensures.printed c.args.point.now) (whole_front _ _ same)))
