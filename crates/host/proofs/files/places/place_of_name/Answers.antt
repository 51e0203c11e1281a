use Rattle.std.proofs.Common.{arith, below_more, ◌≡◌}
use Rattle.std.proofs.lemmas.Slice.Eq.{bytes_eq-Decides}
use Rattle.host.specs.Files.{name_at}
use Rattle.host.proofs.FileList.{name_at-get, names_differ, Contains-name_at, lacks_name}
use Rattle.host.proofs.files.places.place_of_name.Goals as goal

pub loop-i-preserved : goal.loop-i-preserved
loop-i-preserved c =
    let e = name_at-get c.args.files.now c.loop-i.i c.index-files-i.result c.loop-i-test.true in
    let f : name_at c.args.files.now c.loop-i.i ≡ c.as_str.result.now = cc in
    below_more _ _ c.loop-i.invariant (names_differ _ _ _ _ c.eq.ensures c.if-eq.false f)

pub returns-then-eq-clause-found : goal.returns-then-eq-clause-found
returns-then-eq-clause-found c =
    let e = name_at-get c.args.files.now c.loop-i.i c.index-files-i.result c.loop-i-test.true in
    (omega arith, grind (arith, bytes_eq-Decides))

pub returns-then-eq-clause-named : goal.returns-then-eq-clause-named
returns-then-eq-clause-named c =
    let e = name_at-get c.args.files.now c.loop-i.i c.index-files-i.result c.loop-i-test.true in
    let same : name_at c.args.files.now c.loop-i.i ≡ c.args.name.now = grind (arith, bytes_eq-Decides) in
    Contains-name_at c.args.files.now c.loop-i.i c.args.name.now c.loop-i-test.true same

pub returns-clause-unnamed : goal.returns-clause-unnamed
returns-clause-unnamed c = lacks_name c.args.files.now c.args.name.now (λ i lt. c.loop-i.invariant i (omega arith))
