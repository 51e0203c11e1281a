use Rattle.std.proofs.Common.{◌≡◌, inr, refl, subst, sym, take, drop, suc, List, ℕ}
use Rattle.std.proofs.lemmas.List.{take_all}
use Rattle.host.specs.State.{State}
use Rattle.host.specs.Whole.{writes, WritesFront}
use Rattle.command_run.specs.Answers.{Write}
use Rattle.command_run.specs.Replies.{texts_of}
use Rattle.command_run.specs.declared.reply.Text.{Text}
use Rattle.command_run.specs.Steps.{IsWritten, StopsOnTheWay}
use Rattle.command_run.proofs.Written.{texts_next, texts_split, written_more, stopped_at, said_front}
use Rattle.command_run.proofs.carrying.conclude.Goals as goal

pub loop-text-preserved : goal.loop-text-preserved
loop-text-preserved g c =
    let before : State = g.H.Host.state c.args.host.now in
    let now : State = g.H.Host.state c.loop-text.host in
    let after : State = g.H.Host.state c.write_file.new.host in
    subst (λ (writes : List Write). IsWritten writes before after)
    (sym (texts_next c.args.texts.now c.loop-text.text-index c.text-item.result c.loop-text-test.true c.text-item.is))
    (written_more (texts_of (take c.loop-text.text-index c.args.texts.now)) c.text-item.result.name.now
    c.text-item.result.bytes.items before now after c.loop-text.invariant
    (subst (λ (bytes : List ℕ). after ≡ writes c.text-item.result.name.now bytes now) c.deref.ensures.value
    c.in-Ok.ensures.written))

pub returns-in-Err : goal.returns-in-Err
returns-in-Err g c =
    let before : State = g.H.Host.state c.args.host.now in
    let now : State = g.H.Host.state c.loop-text.host in
    let after : State = g.H.Host.state c.write_file.new.host in
    inr (
      refl,
      subst (λ (writes : List Write). StopsOnTheWay writes c.args.line.now before after)
          (sym (texts_split c.args.texts.now c.loop-text.text-index c.text-item.result c.loop-text-test.true c.text-item.is))
          (stopped_at (texts_of (take c.loop-text.text-index c.args.texts.now))
          (texts_of (drop (suc c.loop-text.text-index) c.args.texts.now)) c.text-item.result.name.now
          c.text-item.result.bytes.items c.args.line.now before now after c.loop-text.invariant
          (subst (λ (bytes : List ℕ). WritesFront c.text-item.result.name.now bytes now after) c.deref.ensures.value
          c.in-Err.ensures.failed)),
    )

pub returns-in-Err-say_all : goal.returns-in-Err-say_all
returns-in-Err-say_all g c =
    let before : State = g.H.Host.state c.args.host.now in
    let now : State = g.H.Host.state c.loop-text.host in
    let after : State = g.H.Host.state c.say_all.new.host in
    inr (
      refl,
      subst (λ (texts : List Text). StopsOnTheWay (texts_of texts) c.args.line.now before after)
          (take_all c.loop-text.text-index c.args.texts.now c.loop-text-test.false)
          (said_front (texts_of (take c.loop-text.text-index c.args.texts.now)) c.args.line.now before now after
          c.loop-text.invariant c.in-Err-say_all.ensures.failed),
    )
