use Rattle.std.proofs.Common.{arith, rules, sym, ◌∙◌}
use Rattle.host.proofs.FileList.{adds, content_more, name_at-get, name_at-set, room_at-set, names_of_files-set, exists_at-set}
use Rattle.host.proofs.FileList.{exists_at-get, room_at-get, exists_lt, file_bytes-name_at}
use Rattle.host.proofs.files.places.add_to_file.Goals as goal

pub returns-clause-count : goal.returns-clause-count
returns-clause-count c =
    let within = exists_lt c.args.files.now c.args.at c.requires.there in
    let room = room_at-get c.args.files.now c.args.at c.index-files-at.result within in
    let bytes =
    file_bytes-name_at c.args.files.now c.args.at c.index-files-at.result c.requires.apart within
    (sym (exists_at-get c.args.files.now c.args.at c.index-files-at.result within) ∙ c.requires.there) in
    grind arith

pub returns-clause-files : goal.returns-clause-files
returns-clause-files c =
    let within = exists_lt c.args.files.now c.args.at c.requires.there in
    adds c.args.files.now c.args.at _ _ _ c.requires.apart within
    (sym (name_at-get c.args.files.now c.args.at c.index-files-at.result within)) (content_more _ _ _ _ c.add.ensures.bytes)

pub returns-clause-there : goal.returns-clause-there
returns-clause-there c =
    let within = exists_lt c.args.files.now c.args.at c.requires.there in
    exists_at-set c.args.files.now c.args.at _ within
    ∙ sym (exists_at-get c.args.files.now c.args.at c.index-files-at.result within)

pub returns-clause-places : goal.returns-clause-places
returns-clause-places c =
    let within = exists_lt c.args.files.now c.args.at c.requires.there in
    let name = sym (name_at-get c.args.files.now c.args.at c.index-files-at.result within) in
    record {
      count = search rules;
      names = names_of_files-set c.args.files.now c.args.at _ name;
      each_name = name_at-set c.args.files.now c.args.at _ name;
      each_room =
          room_at-set c.args.files.now c.args.at _
          (c.add.ensures.room ∙ sym (room_at-get c.args.files.now c.args.at c.index-files-at.result within));
    }
