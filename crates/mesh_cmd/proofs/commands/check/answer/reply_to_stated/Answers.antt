use Rattle.std.proofs.Common.{◌≢◌, List, ℕ, inl, ap, ◌∙◌, rules}
use Rattle.command_run.specs.declared.status.Status.TheVariants.{No}
use Rattle.mesh_cmd.specs.Check.{line_answer}
use Rattle.mesh_cmd.proofs.commands.check.answer.reply_to_stated.Goals as goal

pub returns-then-ne : goal.returns-then-ne
returns-then-ne c =
    let other : c.args.provenance.now.digest ≢ c.args.home.now.digest = search rules in
    inl (other, c.reply_of_line.ensures ∙ ap (λ (line : List ℕ). line_answer No line) c.in_ok-line.ensures)
