use Rattle.std.proofs.Common.{◌∙◌, sym, subst, ap, List, [], ◌∷◌, ◌++◌}
use Rattle.std.proofs.lemmas.List.Elements.{All-set, All-push, All-same}
use Rattle.beam.specs.declared.waiting.Waiting.{Waiting}
use Rattle.beam.specs.Beams.{AreWaiting}
use Rattle.beam.proofs.Queues.{joined, alone}
use Rattle.beam.proofs.waiting.put.Goals as goal

pub returns-in_ok-join-in-Some-clause-waiting : goal.returns-in_ok-join-in-Some-clause-waiting
returns-in_ok-join-in-Some-clause-waiting c =
    let s = c.args.view.now.t.now in let o = c.args.view.now.s in let old = c.index_mut.result.now in let v = c.index_mut.ensures.value in
    All-set (AreWaiting s o) c.args.queue.now.cells.items c.in-Some.place c.join.new.waiting
    (joined s o old c.join.new.waiting c.args.cell c.args.ray
    (subst (λ (w : Waiting). AreWaiting s o w) (sym v) (c.requires.waiting c.in-Some.place old c.in-Some.ensures.0))
    c.requires.ray (ap (λ (w : Waiting). w.cell) v ∙ c.in-Some.ensures.1 old) c.join.ensures.cell c.in_ok-join-in-Some.ensures.rays)
    c.requires.waiting

pub returns-in_ok-push-in-None-clause-waiting : goal.returns-in_ok-push-in-None-clause-waiting
returns-in_ok-push-in-None-clause-waiting c =
    let s = c.args.view.now.t.now in let o = c.args.view.now.s in let w = c.in_ok-alone-in-None in let old = c.args.queue.now.cells.items in
    All-same (AreWaiting s o) c.push.new.self.items (old ++ w.field-0 ∷ [])
    (c.in_ok-push-in-None.ensures.items ∙ ap (λ (ws : List Waiting). ws ++ w.field-0 ∷ []) (c.note_rank.ensures ∙ c.note_place.ensures))
    (All-push (AreWaiting s o) old w.field-0 c.requires.waiting
    (alone s o w.field-0 c.args.cell c.args.ray c.requires.ray w.ensures.0 w.ensures.1))
