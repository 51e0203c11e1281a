use Rattle.std.proofs.Common.{◌≡◌, ◌+◌, ◌∙◌, ◌++◌, ◌∷◌, [], arith, ap, sym, subst, List, length, length-append, IfSome, IfOk, Result, Ok, Err}
use Rattle.std.specs.List.{All}
use Rattle.std.proofs.lemmas.List.{get_or_default}
use Rattle.std.proofs.lemmas.List.Elements.{All-push}
use Rattle.line_text.proofs.Rows.{pushed}
use Rattle.mesh.specs.Meshes.{IsMesh}
use Rattle.mesh.specs.declared.mesh.Mesh.{Mesh}
use Rattle.tile_list.specs.declared.entry.TileLine.{TileLine}
use Rattle.command_run.specs.declared.meshes.TheConstants.{FILE_LIMIT}
use Rattle.command_run.specs.declared.reply.Line.{Line}
use Rattle.join_cmd.specs.Reading.{IsTileReading}
use Rattle.join_cmd.proofs.FileReads.{FilesBelow, all_read, read_more, read_rejected, reads_more}
use Rattle.join_cmd.proofs.meshes.read_meshes.Goals as goal

pub returns-in-Err-clause-rejected : goal.returns-in-Err-clause-rejected
returns-in-Err-clause-rejected g c =
    read_rejected FILE_LIMIT (g.H.Host.state c.args.host.now).told (g.H.Host.state c.loop-i.host).told c.args.tiles.now c.loop-i.i _
    c.in-Err.line c.loop-i.invariant.only.told c.loop-i-test.true
    (rw c.in-Err.is at c.in_ok-mesh.ensures.read) (λ t. ap (λ (x : TileLine). x.file.now) (get_or_default c.args.tiles.now c.loop-i.i t _ c.loop-i-test.true))

pub loop-i-preserved : goal.loop-i-preserved
loop-i-preserved g c =
    let old = c.loop-i.meshes.items in
    let new = c.push.new.self.items in
    let mesh = c.in-Ok.mesh in
    let is : new ≡ old ++ mesh ∷ [] = pushed c.push.result new old mesh c.if-is_err.ensures.value c.push.ensures.items in
    record {
      count = subst (λ (ms : List Mesh). length ms ≡ c.loop-i.i + 1) (sym is)
          (omega (arith, length-append old (mesh ∷ []), c.loop-i.invariant.count));
      read = subst
          (λ (ms : List Mesh). IfSome (g.H.Host.state c.args.host.now).told
          (λ told. FilesBelow FILE_LIMIT c.args.tiles.now ms (c.loop-i.i + 1) told.files)) (sym is)
          (read_more FILE_LIMIT (g.H.Host.state c.args.host.now).told (g.H.Host.state c.loop-i.host).told c.args.tiles.now old mesh
          c.loop-i.i _ c.loop-i.invariant.only.told c.loop-i.invariant.count c.loop-i.invariant.read
          (rw c.in-Ok.is at c.in_ok-mesh.ensures.read) (λ t. ap (λ (x : TileLine). x.file.now) (get_or_default c.args.tiles.now c.loop-i.i t _ c.loop-i-test.true)));
      valid = subst (λ (ms : List Mesh). All (λ m. IsMesh m.points.items m.faces.items) ms) (sym is)
          (All-push (λ (m : Mesh). IsMesh m.points.items m.faces.items) old mesh c.loop-i.invariant.valid
          (subst (λ (r : Result Mesh Line). IfOk r (λ m. IsMesh m.points.items m.faces.items)) c.in-Ok.is c.in_ok-mesh.ensures.valid));
      only =
          reads_more c.loop-i.i (g.H.Host.state c.args.host.now) (g.H.Host.state c.loop-i.host)
          (g.H.Host.state c.read_tile.new.host) c.loop-i.invariant.only c.in_ok-mesh.ensures.only;
      faults = c.in_ok-mesh.ensures.cause ∙ c.loop-i.invariant.faults;
    }

pub returns-clause-read : goal.returns-clause-read
returns-clause-read g c =
    all_read FILE_LIMIT (g.H.Host.state c.args.host.now).told c.args.tiles.now c.loop-i.meshes.items c.loop-i.i
    (omega (arith, c.loop-i-test.false, c.loop-i.auto.i-end)) c.loop-i.invariant.count c.loop-i.invariant.read
