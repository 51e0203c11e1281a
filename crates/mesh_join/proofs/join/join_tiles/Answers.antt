use Rattle.std.proofs.Common.{List, refl, subst, sym}
use Rattle.mesh_join.specs.Joins.{lists_of, AreListsOf}
use Rattle.mesh_join.specs.declared.held.Tile.{Tile}
use Rattle.mesh_join.specs.declared.owners.Owners.{Owners}
use Rattle.mesh_join.proofs.Joining.{are_tiles, joining, opening}
use Rattle.mesh_join.proofs.join.join_tiles.Goals as goal

pub returns-in-Err-clause-refused : goal.returns-in-Err-clause-refused
returns-in-Err-clause-refused c = (rw c.in-Err.is at c.in_ok-numbering.ensures.refused) c.args.cores.items

pub close-requires-clause-few : goal.close-requires-clause-few
close-requires-clause-few c = (rw c.in-Ok.is at c.in_ok-numbering.ensures.lists).few

pub close-requires-clause-tiles : goal.close-requires-clause-tiles
close-requires-clause-tiles c =
    let o : Owners = record { cores = c.args.cores; places = c.in-Ok.numbering.places; moved = c.in_ok-moved.moved } in
    are_tiles o (lists_of c.deref-4.result.now) c.args.cores.items c.args.meshes.now refl
    (subst (λ (ts : List Tile). AreListsOf o.places.items c.args.meshes.now (lists_of ts)) (sym c.deref-4.ensures.value)
    (rw c.in-Ok.is at c.in_ok-numbering.ensures.lists)) c.requires.count

pub returns-in-Ok-2-clause-joining : goal.returns-in-Ok-2-clause-joining
returns-in-Ok-2-clause-joining c =
    let o : Owners = record { cores = c.args.cores; places = c.in-Ok.numbering.places; moved = c.in_ok-moved.moved } in
    joining o (lists_of c.deref-4.result.now) c.args.cores.items c.args.meshes.now refl
    (subst (λ (ts : List Tile). AreListsOf o.places.items c.args.meshes.now (lists_of ts)) (sym c.deref-4.ensures.value)
    (rw c.in-Ok.is at c.in_ok-numbering.ensures.lists)) c.in-Ok-2.joined (rw c.in-Ok-2.is at c.in_ok-joined.ensures.closed)
    (rw c.in-Ok-2.is at c.in_ok-joined.ensures.moved)

pub returns-in-Ok-2-clause-valid : goal.returns-in-Ok-2-clause-valid
returns-in-Ok-2-clause-valid c = rw c.in-Ok-2.is at c.in_ok-joined.ensures.valid

pub returns-clause-refused : goal.returns-clause-refused
returns-clause-refused c =
    let o : Owners = record { cores = c.args.cores; places = c.in-Ok.numbering.places; moved = c.in_ok-moved.moved } in
    opening o (lists_of c.deref-4.result.now) c.args.cores.items c.args.meshes.now refl
    (subst (λ (ts : List Tile). AreListsOf o.places.items c.args.meshes.now (lists_of ts)) (sym c.deref-4.ensures.value)
    (rw c.in-Ok.is at c.in_ok-numbering.ensures.lists)) c.in-Err-2.edge (rw c.in-Err-2.is at c.in_ok-joined.ensures.open)
