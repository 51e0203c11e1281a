use Rattle.std.proofs.Common.{IfSome, refl, subst}
use Rattle.command_run.specs.declared.meshes.TheConstants.{FILE_LIMIT}
use Rattle.mesh_cmd.specs.declared.options.FinishRequest.{FinishRequest}
use Rattle.mesh_cmd.specs.Moving.{MoveNames, move_answers, move_names, move_task}
use Rattle.mesh_cmd.specs.Input.{IsInputReading}
use Rattle.mesh_cmd.specs.declared.input.InputReading.{InputReading}
use Rattle.mesh_cmd.specs.declared.input.Role.TheVariants.{First, Targets}
use Rattle.mesh_cmd.proofs.Moving.{move_reads}
use Rattle.mesh_cmd.proofs.SecondFile.{first_answers, first_replied, reads_both, reads_first}
use Rattle.mesh_cmd.proofs.InputReplies.{reply_refused}
use Rattle.mesh_cmd.proofs.commands.moving.reply_to_move.Goals as goal

pub returns-in-Mesh-clause-replied : goal.returns-in-Mesh-clause-replied
returns-in-Mesh-clause-replied g c =
    let names : MoveNames = move_names c.args.words.now in
    let request : FinishRequest = c.args.words.now.request in
    first_replied ⊥ Targets FILE_LIMIT names.mesh names.targets (move_answers names.output request) c.in-Mesh.home c.reply_to_home.result
    (g.H.Host.state c.args.host.now) (g.H.Host.state c.read_input.new.host) c.in_ok-home.ensures.only
    (subst (λ (reading : InputReading).
    IfSome (g.H.Host.state c.args.host.now).told (IsInputReading First FILE_LIMIT names.mesh reading)) c.in-Mesh.is
    c.in_ok-home.ensures.read)
    c.reply_to_home.ensures.replied

pub returns-in-Mesh-clause-reads : goal.returns-in-Mesh-clause-reads
returns-in-Mesh-clause-reads g c =
    let names : MoveNames = move_names c.args.words.now in
    let request : FinishRequest = c.args.words.now.request in
    reads_both ⊥ Targets FILE_LIMIT names.mesh names.targets (move_answers names.output request) c.in-Mesh.home (g.H.Host.state c.args.host.now)
    (g.H.Host.state c.read_input.new.host) (g.H.Host.state c.reply_to_home.new.host) refl (move_reads names.output request) c.requires
    c.in_ok-home.ensures.only c.reply_to_home.ensures.only
    (subst (λ (reading : InputReading).
    IfSome (g.H.Host.state c.args.host.now).told (IsInputReading First FILE_LIMIT names.mesh reading)) c.in-Mesh.is
    c.in_ok-home.ensures.read)

pub returns-in-Refused-clause-replied : goal.returns-in-Refused-clause-replied
returns-in-Refused-clause-replied g c =
    let names : MoveNames = move_names c.args.words.now in
    let request : FinishRequest = c.args.words.now.request in
    reply_refused (move_task names request) First FILE_LIMIT names.mesh (first_answers FILE_LIMIT Targets names.targets (move_answers names.output request))
    c.in-Refused.line c.invalid_input.result (g.H.Host.state c.args.host.now) tt (c.invalid_input.ensures 1)
    (subst (λ (reading : InputReading).
    IfSome (g.H.Host.state c.args.host.now).told (IsInputReading First FILE_LIMIT names.mesh reading)) c.in-Refused.is
    c.in_ok-home.ensures.read)

pub returns-in-Refused-clause-reads : goal.returns-in-Refused-clause-reads
returns-in-Refused-clause-reads g c =
    let names : MoveNames = move_names c.args.words.now in
    let request : FinishRequest = c.args.words.now.request in
    reads_first ⊥ Targets FILE_LIMIT names.mesh names.targets (move_answers names.output request) (g.H.Host.state c.args.host.now)
    (g.H.Host.state c.read_input.new.host) refl (move_reads names.output request) c.requires c.in_ok-home.ensures.only

pub returns-in_err-home-clause-reads : goal.returns-in_err-home-clause-reads
returns-in_err-home-clause-reads g c =
    let names : MoveNames = move_names c.args.words.now in
    let request : FinishRequest = c.args.words.now.request in
    reads_first ⊥ Targets FILE_LIMIT names.mesh names.targets (move_answers names.output request) (g.H.Host.state c.args.host.now)
    (g.H.Host.state c.read_input.new.host) refl (move_reads names.output request) c.requires c.in_err-home.ensures.only
