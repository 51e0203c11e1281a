use Rattle.std.proofs.Common.{◌<◌, ◌≡◌, ⊎_elim, arith, rules, slice_index}
use Rattle.sight.proofs.Fronts.{set_seen}
use Rattle.sight.proofs.Steps.{known_at}
use Rattle.sight.proofs.exit.go_through.Goals as goal

pub front_of-reached-requires-clause-known : goal.front_of-reached-requires-clause-known
front_of-reached-requires-clause-known c =
    let known = known_at c.args.t.now c.args.ray.now c.args.reached.now c.facts.ensures c.requires.walking in search rules

pub returns-clause-seen : goal.returns-clause-seen
returns-clause-seen c =
    let a = c.args in let e = a.reached.now in let r = c.requires in let i = a.exit.behind in
    let l : i < 3 =
    ⊎_elim (λ (z : (e.entered ≡ 4) × (i ≡ 3)). let b = z.1 in absurd (omega (arith, b, c.if-exit-eq-NO_VERTEX.false))) (λ z. z.1)
    r.exit.1 in
    set_seen a.t.now a.ray.now e.front i (slice_index e.vertices e.entered) a.exit.image r.front.three r.front.three_images l
    r.front.seen (r.exit.2 l)
