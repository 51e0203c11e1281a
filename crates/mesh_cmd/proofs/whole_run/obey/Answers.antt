use Rattle.std.proofs.Common.{Some}
use Rattle.command_run.specs.Replies.{line_bytes, texts_of}
use Rattle.command_run.proofs.Outcomes.{obeyed_by}
use Rattle.mesh_cmd.specs.Commands.{asked, AnswerOf, StatusFits, most_reads}
use Rattle.mesh_cmd.proofs.whole_run.obey.Goals as goal

pub returns-in-Ok : goal.returns-in-Ok
returns-in-Ok g c =
    let command = Some (asked c.args.command.now) in
    obeyed_by (λ s. StatusFits s command) (most_reads command) (AnswerOf command) c.in-Ok.reply.status
    (texts_of c.in-Ok.reply.texts.items) (line_bytes c.in-Ok.reply.line) c.carry_out.result
    (g.H.Host.state c.args.host.now) (g.H.Host.state c.reply_to-reply.new.host) (g.H.Host.state c.carry_out.new.host) tt
    c.in-Ok.ensures.replied.fits c.in-Ok.ensures.replied.answered c.in-Ok.ensures.replied.answers
    c.reply_to-reply.ensures.reads c.in-Ok.ensures.cause c.carry_out.ensures
