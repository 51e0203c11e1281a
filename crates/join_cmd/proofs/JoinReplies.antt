-- The answers of `join`: how they end, how many files they read, and what they say of the files as they were at the start.
use Rattle.std.proofs.Common.{ℕ, ◌≡◌, inl, inr, ◌+◌, ◌<◌, ◌≤◌, ◌∙◌, arith, ap, sym, refl, subst, List, [], ◌∷◌, length}
use Rattle.std.proofs.Common.{Option, Some, None, IfSome, false, unwrap_or, Result, Ok, Err, IfOk}
use Rattle.host.specs.State.{State, Told, Files, file_bytes}
use Rattle.host.specs.Whole.{OnlyReads}
use Rattle.line_text.specs.Lists.{WithMemory}
use Rattle.line_text.specs.declared.refusal.LineRefusal.{LineRefusal}
use Rattle.line_text.specs.declared.refusal.LineRefusal.TheVariants.{BadLine, Order, Cut, NoMemory}
use Rattle.mesh.specs.declared.mesh.Mesh.{Mesh}
use Rattle.mesh_join.specs.declared.owners.Core.{Core}
use Rattle.tile_list.specs.Entries.{IsTileList}
use Rattle.tile_list.specs.Refusals.{IsRefusedTiles}
use Rattle.tile_list.specs.declared.entry.Entry.{Entry}
use Rattle.tile_list.specs.declared.entry.Entry.TheVariants as entries
use Rattle.tile_list.specs.declared.entry.TileLine.{TileLine}
use Rattle.command_run.specs.Answers.{Answer, MayEnd, invalid}
use Rattle.command_run.specs.Replies.{answer_of, line_bytes}
use Rattle.command_run.specs.Steps.{IsAnswered, IsReplied, ReadsFor}
use Rattle.command_run.specs.Words.{Names}
use Rattle.command_run.specs.declared.reply.Line.{Line}
use Rattle.command_run.specs.declared.reply.Reply.{Reply}
use Rattle.command_run.proofs.MeshReplies.{done_or_refused}
use Rattle.join_cmd.specs.Lines.{too_long_tiles_line, tiles_error_line}
use Rattle.join_cmd.specs.Join.{join_reads, join_task, meshes_read, tiles_of, cores_of, IsRejectedTile, JoinAnswer}
use Rattle.join_cmd.specs.Join.{AreMeshFiles, TilesAnswer, ListAnswer, ToTiles}
use Rattle.join_cmd.specs.Reading.{HasEnded, OnlyReadsTimes}
use Rattle.join_cmd.proofs.FileReads.{files_back}

-- ---- how many files
-- each answer states the most files
answer_joined : (output : List ℕ) (cores : List Core) (meshes : List Mesh) (answer : Answer)
    → JoinAnswer output cores meshes answer → answer.reads ≡ join_reads
answer_joined output cores meshes answer (inl writes) = ap (λ (a : Answer). a.reads) writes.is
answer_joined output cores meshes answer (inr (why, so, is)) = ap (λ (a : Answer). a.reads) is

answer_tiles : (limit : ℕ) (output : List ℕ) (files : Files) (tiles : List TileLine) (answer : Answer)
    → TilesAnswer limit output files tiles answer → answer.reads ≡ join_reads
answer_tiles limit output files tiles answer (inl (meshes, are, joined)) = answer_joined output (cores_of tiles) meshes answer joined
answer_tiles limit output files tiles answer (inr (line, rejected, is)) = ap (λ (a : Answer). a.reads) is

answer_list : (limit : ℕ) (output : List ℕ) (files : Files) (bytes : List ℕ) (answer : Answer)
    → ListAnswer limit output files bytes answer → answer.reads ≡ join_reads
answer_list limit output files bytes answer (inl (list, is, tiles)) = answer_tiles limit output files (tiles_of list) answer tiles
answer_list limit output files bytes answer (inr (line, rejected, is)) = ap (λ (a : Answer). a.reads) is

answer_reads : (limit : ℕ) (names : Names) (files : Files) (answer : Answer) → ToTiles limit names files answer
    → answer.reads ≡ join_reads
answer_reads limit names files answer (bytes, there, inl long) = ap (λ (a : Answer). a.reads) long.is
answer_reads limit names files answer (bytes, there, inr (within, list)) =
    answer_list limit names.output files bytes answer list

-- no more tiles than entries
pub tiles_few : (list : List Entry) → length (tiles_of list) ≤ length list
tiles_few [] = omega arith
tiles_few (entries.Cut cut ∷ rest) = omega (arith, tiles_few rest)
tiles_few (entries.Tile tile ∷ rest) = omega (arith, tiles_few rest)

pub tiles_within : (text : List ℕ) (list : List Entry) (tiles : List TileLine) → IsTileList text list → tiles ≡ tiles_of list
    → length tiles ≤ meshes_read
tiles_within text list tiles is same =
    subst (λ (ts : List TileLine). length ts ≤ meshes_read) (sym same) (omega (arith, tiles_few list, is.lines, is.most))

-- the list was read, and then the meshes
pub reads_all : (names : Names) (limit : ℕ) (before mid after : State) → before.writing ≡ false → OnlyReads before mid
    → OnlyReadsTimes meshes_read mid after → ReadsFor limit (join_task names) before after
reads_all names limit before mid after closed one many =
    record {
      told = many.told ∙ one.told;
      writing = many.writing ∙ (one.writing ∙ closed);
      opens = omega (arith, one.opens, many.opens);
      no_more = by_cases before.told;
    }
  where
    by_cases : (o : Option Told)
        → IfSome o (λ told. (answer : Answer) → ToTiles limit names told.files answer → after.opens ≤ before.opens + answer.reads)
    by_cases None = tt
    by_cases (Some told) =
        λ answer is. omega (arith, one.opens, many.opens, answer_reads limit names told.files answer is)

-- ---- how they end
-- an answer that rejects
pub rejected_ends : (reads : ℕ) (line : List ℕ) (reply : Reply) → answer_of reads reply ≡ invalid reads line → HasEnded reply.status
rejected_ends reads line reply is = inr (ap (λ (a : Answer). a.status) is)

-- ---- what they say
-- an error that has a line is one of the text
with_line : (why : LineRefusal) (P : Type 0) (line : List ℕ) → tiles_error_line why ≡ Some line → WithMemory why P → P
with_line (BadLine n) P line said p = p
with_line (Order n) P line said p = p
with_line Cut P line said p = p
with_line NoMemory P line said p = absurd (cc)

-- a list is rejected
pub list_rejected : (limit : ℕ) (output bytes line : List ℕ) (why : LineRefusal) (reply : Reply) (o : Option Told)
    → WithMemory why (IsRefusedTiles bytes why) → tiles_error_line why ≡ Some line
    → answer_of join_reads reply ≡ invalid join_reads line
    → IfSome o (λ told. ListAnswer limit output told.files bytes (answer_of join_reads reply))
list_rejected limit output bytes line why reply None refused said is = tt
list_rejected limit output bytes line why reply (Some told) refused said is =
    inr (line, (why, with_line why (IsRefusedTiles bytes why) line said refused, said), is)

-- the files of all tiles are read, and their meshes are answered
pub tiles_answered : (limit : ℕ) (output bytes : List ℕ) (list : List Entry) (read held : List TileLine) (meshes : List Mesh)
    (answer : Answer) (o : Option Told) → IsTileList bytes list → read ≡ tiles_of list → held ≡ tiles_of list
    → IfSome o (λ told. AreMeshFiles limit told.files read meshes) → JoinAnswer output (cores_of held) meshes answer
    → IfSome o (λ told. ListAnswer limit output told.files bytes answer)
tiles_answered limit output bytes list read held meshes answer None is_list same_read same_held are joined = tt
tiles_answered limit output bytes list read held meshes answer (Some told) is_list same_read same_held are joined =
    inl (
      list,
      is_list,
      inl (
        meshes,
        subst (λ (ts : List TileLine). AreMeshFiles limit told.files ts meshes) same_read are,
        subst (λ (ts : List TileLine). JoinAnswer output (cores_of ts) meshes answer) same_held joined,
      ),
    )

-- the file of a tile is rejected
pub tile_rejected : (limit : ℕ) (output bytes line : List ℕ) (list : List Entry) (tiles : List TileLine) (reply : Reply)
    (o : Option Told) → IsTileList bytes list → tiles ≡ tiles_of list
    → IfSome o (λ told. IsRejectedTile limit told.files tiles line)
    → answer_of join_reads reply ≡ invalid join_reads line
    → IfSome o (λ told. ListAnswer limit output told.files bytes (answer_of join_reads reply))
tile_rejected limit output bytes line list tiles reply None is_list same rejected is = tt
tile_rejected limit output bytes line list tiles reply (Some told) is_list same rejected is =
    inl (
      list,
      is_list,
      inr (line, subst (λ (ts : List TileLine). IsRejectedTile limit told.files ts line) same rejected, is),
    )

-- ---- the whole
-- a reply with one of the statuses
replied : (names : Names) (limit : ℕ) (reply : Reply) (before : State) → HasEnded reply.status
    → IfSome before.told (λ told. ToTiles limit names told.files (answer_of join_reads reply))
    → IsReplied limit (join_task names) reply before
replied names limit reply before ends answers =
    record {
      fits = done_or_refused (MayEnd (join_task names)) reply.status tt tt ends;
      answered = done_or_refused IsAnswered reply.status tt tt ends;
      answers = counted before.told answers;
    }
  where
    counted : (o : Option Told) → IfSome o (λ told. ToTiles limit names told.files (answer_of join_reads reply))
        → IfSome o (λ told. (reads : ℕ) × ToTiles limit names told.files (answer_of reads reply))
    counted None has = tt
    counted (Some told) has = (join_reads, has)

-- a reply to the list's bytes, made after it was read, is one to the files as they were before
pub list_replied : (names : Names) (limit : ℕ) (bytes held : List ℕ) (reply : Reply) (before mid : State) → OnlyReads before mid
    → HasEnded reply.status → held ≡ bytes → length bytes ≤ limit
    → IfSome before.told (λ told. told.files names.input ≡ Some bytes)
    → IfSome mid.told (λ told. ListAnswer limit names.output told.files held (answer_of join_reads reply))
    → IsReplied limit (join_task names) reply before
list_replied names limit bytes held reply before mid only ends same within there answers =
    replied names limit reply before ends
    (both before.told there
    (files_back before.told mid.told (λ files. ListAnswer limit names.output files held (answer_of join_reads reply)) only.told
    answers))
  where
    both : (o : Option Told) → IfSome o (λ told. told.files names.input ≡ Some bytes)
        → IfSome o (λ told. ListAnswer limit names.output told.files held (answer_of join_reads reply))
        → IfSome o (λ told. ToTiles limit names told.files (answer_of join_reads reply))
    both None there has = tt
    both (Some told) there has = (
      bytes,
      there,
      inr (within, subst (λ (b : List ℕ). ListAnswer limit names.output told.files b (answer_of join_reads reply)) same has),
    )

-- the same of a result
pub list_replied_if : {E : Type 0} (names : Names) (limit : ℕ) (bytes held : List ℕ) (result : Result Reply E) (before mid : State)
    → OnlyReads before mid → IfOk result (λ reply. HasEnded reply.status) → held ≡ bytes → length bytes ≤ limit
    → IfSome before.told (λ told. told.files names.input ≡ Some bytes)
    → IfOk result
    (λ reply. IfSome mid.told (λ told. ListAnswer limit names.output told.files held (answer_of join_reads reply)))
    → IfOk result (λ reply. IsReplied limit (join_task names) reply before)
list_replied_if names limit bytes held (Err e) before mid only ends same within there answers = tt
list_replied_if names limit bytes held (Ok reply) before mid only ends same within there answers =
    list_replied names limit bytes held reply before mid only ends same within there answers

-- the list is too long
pub long_replied : (names : Names) (limit : ℕ) (line : Line) (reply : Reply) (before : State)
    → line_bytes line ≡ too_long_tiles_line → answer_of join_reads reply ≡ invalid join_reads (line_bytes line)
    → IfSome before.told (λ told. limit < length (file_bytes told.files names.input))
    → IsReplied limit (join_task names) reply before
long_replied names limit line reply before said is longer =
    replied names limit reply before (rejected_ends join_reads (line_bytes line) reply is) (by_cases before.told longer)
  where
    with_bytes : (told : Told) (found : Option (List ℕ)) → told.files names.input ≡ found → limit < length (unwrap_or found [])
        → ToTiles limit names told.files (answer_of join_reads reply)
    with_bytes told None has more = absurd (omega arith)
    with_bytes told (Some bytes) has more =
        (bytes, has, inl (record { longer = more; is = is ∙ ap (λ (l : List ℕ). invalid join_reads l) said }))

    by_cases : (o : Option Told) → IfSome o (λ told. limit < length (file_bytes told.files names.input))
        → IfSome o (λ told. ToTiles limit names told.files (answer_of join_reads reply))
    by_cases None more = tt
    by_cases (Some told) more = with_bytes told (told.files names.input) refl more
