use Rattle.std.proofs.Common.{arith, rules}
use Rattle.command_run.specs.declared.meshes.TheConstants.{FILE_LIMIT}
use Rattle.command_run.specs.declared.reply.Line.TheVariants.{Fixed}
use Rattle.join_cmd.specs.Join.{join_names, join_reads, meshes_read}
use Rattle.join_cmd.proofs.FileReads.{reads_none, reads_within}
use Rattle.join_cmd.proofs.JoinReplies.{list_replied_if, long_replied, reads_all}
use Rattle.join_cmd.proofs.reply.reply_to_join.Goals as goal

pub returns-in-Err-TooLong-clause-replied : goal.returns-in-Err-TooLong-clause-replied
returns-in-Err-TooLong-clause-replied g c =
    long_replied (join_names c.args.words.now) FILE_LIMIT (Fixed c.line_of_too_long_list.result) c.invalid_input.result
    (g.H.Host.state c.args.host.now) c.line_of_too_long_list.ensures (c.invalid_input.ensures join_reads)
    (c.in-Err-TooLong.ensures.longer (search rules))

pub returns-in-Err-TooLong-clause-reads : goal.returns-in-Err-TooLong-clause-reads
returns-in-Err-TooLong-clause-reads g c =
    reads_all (join_names c.args.words.now) FILE_LIMIT (g.H.Host.state c.args.host.now) (g.H.Host.state c.read_all.new.host)
    (g.H.Host.state c.read_all.new.host) c.requires c.in-Err-TooLong.ensures.only_reads
    (reads_within 0 meshes_read _ _ (omega arith) (reads_none (g.H.Host.state c.read_all.new.host)))

pub returns-in-Err-Failed-clause-reads : goal.returns-in-Err-Failed-clause-reads
returns-in-Err-Failed-clause-reads g c =
    reads_all (join_names c.args.words.now) FILE_LIMIT (g.H.Host.state c.args.host.now) (g.H.Host.state c.read_all.new.host)
    (g.H.Host.state c.read_all.new.host) c.requires c.in-Err-Failed.ensures.only_reads
    (reads_within 0 meshes_read _ _ (omega arith) (reads_none (g.H.Host.state c.read_all.new.host)))

pub returns-in-Err-NoMemory-clause-reads : goal.returns-in-Err-NoMemory-clause-reads
returns-in-Err-NoMemory-clause-reads g c =
    reads_all (join_names c.args.words.now) FILE_LIMIT (g.H.Host.state c.args.host.now) (g.H.Host.state c.read_all.new.host)
    (g.H.Host.state c.read_all.new.host) c.requires c.in-Err-NoMemory.ensures.only_reads
    (reads_within 0 meshes_read _ _ (omega arith) (reads_none (g.H.Host.state c.read_all.new.host)))

pub returns-clause-replied : goal.returns-clause-replied
returns-clause-replied g c =
    list_replied_if (join_names c.args.words.now) FILE_LIMIT c.in-Ok.bytes.items c.deref.result.now c.reply_to_list.result
    (g.H.Host.state c.args.host.now) (g.H.Host.state c.read_all.new.host) c.in-Ok.ensures.only_reads c.reply_to_list.ensures.ended
    c.deref.ensures.value c.in-Ok.ensures.within c.in-Ok.ensures.bytes c.reply_to_list.ensures.answers

pub returns-clause-reads : goal.returns-clause-reads
returns-clause-reads g c =
    reads_all (join_names c.args.words.now) FILE_LIMIT (g.H.Host.state c.args.host.now) (g.H.Host.state c.read_all.new.host)
    (g.H.Host.state c.reply_to_list.new.host) c.requires c.in-Ok.ensures.only_reads c.reply_to_list.ensures.only
