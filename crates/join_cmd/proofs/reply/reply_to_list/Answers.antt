use Rattle.std.proofs.Common.{◌≡◌, ◌≤◌, ◌∙◌, ap, length}
use Rattle.command_run.specs.Replies.{answer_of, line_bytes}
use Rattle.command_run.specs.declared.meshes.TheConstants.{FILE_LIMIT}
use Rattle.join_cmd.specs.Join.{join_reads, meshes_read, tiles_of}
use Rattle.join_cmd.proofs.FileReads.{reads_within}
use Rattle.join_cmd.proofs.JoinReplies.{list_rejected, rejected_ends, tile_rejected, tiles_answered, tiles_within}
use Rattle.join_cmd.proofs.reply.reply_to_list.Goals as goal

pub returns-in-Err-clause-answers : goal.returns-in-Err-clause-answers
returns-in-Err-clause-answers g c =
    list_rejected FILE_LIMIT c.args.output.now c.args.bytes.now c.in_ok-line-in-Err.line.items c.in-Err.why c.invalid_input.result
    (g.H.Host.state c.args.host.now).told c.in-Err.ensures.refused c.in_ok-line-in-Err.ensures (c.invalid_input.ensures join_reads)

pub returns-in-Err-clause-ended : goal.returns-in-Err-clause-ended
returns-in-Err-clause-ended g c =
    rejected_ends join_reads c.in_ok-line-in-Err.line.items c.invalid_input.result (c.invalid_input.ensures join_reads)

pub returns-in_err-meshes-clause-only : goal.returns-in_err-meshes-clause-only
returns-in_err-meshes-clause-only g c =
    reads_within (length c.deref-2.result.now) meshes_read _ _
    (tiles_within c.args.bytes.now c.in-Ok.entries.items c.deref-2.result.now c.in-Ok.ensures.ok
    (c.deref-2.ensures.value ∙ (c.in_ok-tiles.ensures.tiles ∙ ap tiles_of c.deref.ensures.value))) c.in_err-meshes.ensures.only

pub returns-in_err-reply_to_meshes-in-Ok-2-clause-only : goal.returns-in_err-reply_to_meshes-in-Ok-2-clause-only
returns-in_err-reply_to_meshes-in-Ok-2-clause-only g c =
    reads_within (length c.deref-2.result.now) meshes_read _ _
    (tiles_within c.args.bytes.now c.in-Ok.entries.items c.deref-2.result.now c.in-Ok.ensures.ok
    (c.deref-2.ensures.value ∙ (c.in_ok-tiles.ensures.tiles ∙ ap tiles_of c.deref.ensures.value))) c.in_ok-meshes.ensures.only

pub returns-in-Ok-2-clause-answers : goal.returns-in-Ok-2-clause-answers
returns-in-Ok-2-clause-answers g c =
    let tiles = c.in_ok-tiles.ensures.tiles ∙ ap tiles_of c.deref.ensures.value in
    tiles_answered FILE_LIMIT c.args.output.now c.args.bytes.now c.in-Ok.entries.items c.deref-2.result.now
    c.deref-in-Ok-2.result.now c.in-Ok-2.meshes.items (answer_of join_reads c.in_ok-reply_to_meshes-in-Ok-2.field-0)
    (g.H.Host.state c.args.host.now).told c.in-Ok.ensures.ok (c.deref-2.ensures.value ∙ tiles)
    (c.deref-in-Ok-2.ensures.value ∙ tiles) (rw c.in-Ok-2.is at c.in_ok-meshes.ensures.read)
    c.in_ok-reply_to_meshes-in-Ok-2.ensures.answers

pub returns-in-Ok-2-clause-only : goal.returns-in-Ok-2-clause-only
returns-in-Ok-2-clause-only g c =
    reads_within (length c.deref-2.result.now) meshes_read _ _
    (tiles_within c.args.bytes.now c.in-Ok.entries.items c.deref-2.result.now c.in-Ok.ensures.ok
    (c.deref-2.ensures.value ∙ (c.in_ok-tiles.ensures.tiles ∙ ap tiles_of c.deref.ensures.value))) c.in_ok-meshes.ensures.only

pub returns-clause-answers : goal.returns-clause-answers
returns-clause-answers g c =
    tile_rejected FILE_LIMIT c.args.output.now c.args.bytes.now (line_bytes c.in-Err-2.line) c.in-Ok.entries.items
    c.deref-2.result.now c.invalid_input-in-Err-2.result (g.H.Host.state c.args.host.now).told c.in-Ok.ensures.ok
    (c.deref-2.ensures.value ∙ (c.in_ok-tiles.ensures.tiles ∙ ap tiles_of c.deref.ensures.value))
    (rw c.in-Err-2.is at c.in_ok-meshes.ensures.rejected)
    (c.invalid_input-in-Err-2.ensures join_reads)

pub returns-clause-ended : goal.returns-clause-ended
returns-clause-ended g c =
    rejected_ends join_reads (line_bytes c.in-Err-2.line) c.invalid_input-in-Err-2.result
    (c.invalid_input-in-Err-2.ensures join_reads)

pub returns-clause-only : goal.returns-clause-only
returns-clause-only g c =
    reads_within (length c.deref-2.result.now) meshes_read _ _
    (tiles_within c.args.bytes.now c.in-Ok.entries.items c.deref-2.result.now c.in-Ok.ensures.ok
    (c.deref-2.ensures.value ∙ (c.in_ok-tiles.ensures.tiles ∙ ap tiles_of c.deref.ensures.value))) c.in_ok-meshes.ensures.only
