use Rattle.std.proofs.Common.{Some, rules, sym, ap, ◌∙◌}
use Rattle.host.proofs.FileList.{empties, name_at-get, name_at-set, room_at-get, room_at-set, names_of_files-set, exists_at-set}
use Rattle.host.proofs.files.places.empty_file.Goals as goal

pub returns-clause-files : goal.returns-clause-files
returns-clause-files c =
    empties c.args.files.now c.args.at _ c.requires.apart c.requires.at (sym (name_at-get _ _ _ c.requires.at))
    (ap Some c.clear.ensures.bytes)

pub returns-clause-there : goal.returns-clause-there
returns-clause-there c = exists_at-set c.args.files.now c.args.at _ c.requires.at

pub returns-clause-places : goal.returns-clause-places
returns-clause-places c =
    let name = sym (name_at-get c.args.files.now c.args.at c.index-files-at.result c.requires.at) in
    record {
      count = search rules;
      names = names_of_files-set c.args.files.now c.args.at _ name;
      each_name = name_at-set c.args.files.now c.args.at _ name;
      each_room =
          room_at-set c.args.files.now c.args.at _
          (c.clear.ensures.room ∙ sym (room_at-get c.args.files.now c.args.at c.index-files-at.result c.requires.at));
    }
