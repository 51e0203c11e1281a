use Rattle.std.proofs.Common.{List, Contains, inl, inr, subst}
use Rattle.host.specs.Files.{names_of_files}
use Rattle.host.specs.declared.files.MemFile.{MemFile}
use Rattle.host.proofs.memory.MemHostHost.create.Goals as goal

pub returns-in-Some-clause-fails : goal.returns-in-Some-clause-fails
returns-in-Some-clause-fails c = (
  λ failed. let never : ⊥ = cc in absurd never,
  λ cause. elim cause [
    | inl listed ↦ c.if-is_to_fail.ensures.listed.1 listed
    | inr lacks ↦
        absurd (lacks
        (subst (λ (files : List MemFile). Contains (names_of_files files) c.args.name.now) c.deref.ensures.value
        c.in-Some.ensures.named))
  ],
)

pub returns-in-None-clause-fails : goal.returns-in-None-clause-fails
returns-in-None-clause-fails c = (
  λ _. inr (subst (λ (files : List MemFile). Contains (names_of_files files) c.args.name.now → ⊥) c.deref.ensures.value
      c.in-None.ensures.unnamed),
  λ _. c.fail-in-None.ensures.err,
)
