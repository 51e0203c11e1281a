use Rattle.std.proofs.Common.{◌≡◌, IfSome, length}
use Rattle.std.specs.List.{All}
use Rattle.mesh.specs.Meshes.{IsMesh}
use Rattle.command_run.specs.Answers.{file_limit}
use Rattle.join_cmd.specs.Reading.{OnlyReadsTimes}
use Rattle.join_cmd.proofs.FileReads.{FilesBelow}
use Rattle.join_cmd.proofs.meshes.read_meshes.Given as goal

abbrev pub invariant-loop-i : goal.invariant-loop-i
invariant-loop-i g l =
    record {
      count : length l.meshes.items ≡ l.i;
      read : IfSome (g.H.Host.state l.fn.host).told (λ told. FilesBelow file_limit l.tiles l.meshes.items l.i told.files);
      valid : All (λ m. IsMesh m.points.items m.faces.items) l.meshes.items;
      only : OnlyReadsTimes l.i (g.H.Host.state l.fn.host) (g.H.Host.state l.host);
      faults : (g.H.Host.state l.host).faults ≡ (g.H.Host.state l.fn.host).faults;
    }
