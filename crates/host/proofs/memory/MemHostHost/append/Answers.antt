use Rattle.std.proofs.Common.{◌≡◌, ◌-◌, List, length, arith, inr, subst, refl}
use Rattle.std.proofs.lemmas.Grind.{common_steps}
use Rattle.host.specs.State.{file_bytes}
use Rattle.host.specs.Files.{files_of, name_at, room_at}
use Rattle.host.specs.declared.files.MemFile.{MemFile}
use Rattle.host.proofs.FileList.{exists_lt, no_room_left}
use Rattle.host.proofs.memory.MemHostHost.append.Goals as goal

pub returns-then-is_full-clause-fails : goal.returns-then-is_full-clause-fails
returns-then-is_full-clause-fails c =
    let at = c.in-Writing.at in
    let there = c.args.self.now.writes at c.in-Writing.is in (
      λ _. inr (
        grind (arith, common_steps),
        no_room_left c.args.self.now.files.items c.args.self.now.activity at _ c.in-Writing.is
            (c.args.self.now.rooms at (exists_lt c.args.self.now.files.items at there))
            (subst (λ (files : List MemFile). room_at files c.in-Writing.at
            - length (file_bytes (files_of files) (name_at files c.in-Writing.at)) ≡ 0)
            c.deref.ensures.value (c.if-is_full.ensures.0 refl)),
      ),
      λ _. c.fail-then-is_full.ensures.err,
    )
