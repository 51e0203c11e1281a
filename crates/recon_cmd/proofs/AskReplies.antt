-- The answer of `ask` to what it reads after the scan.
use Rattle.std.proofs.Common.{◌≡◌, ◌⊎◌, inl, inr, ℕ, List, [], ◌∷◌, length, count_by, Bool, Some, IfSome, Result, Err, ap, ◌∙◌}
use Rattle.flow_net.specs.declared.votes.Settings.{Settings}
use Rattle.geo_sign.specs.Point.{Point}
use Rattle.host.specs.State.{State, Files}
use Rattle.scan_rows.specs.Shown.{Shown}
use Rattle.solid_query.specs.Labels.{AreLabels}
use Rattle.solid_query.specs.Queries.{Fails}
use Rattle.solid_query.specs.declared.refusal.QueryRefusal.{QueryRefusal}
use Rattle.solid_query.specs.declared.refusal.QueryRefusal.TheVariants as queries
use Rattle.solution.specs.Scans.{points_of}
use Rattle.command_run.specs.Answers.{Answer, Write}
use Rattle.command_run.specs.Replies.{answer_of}
use Rattle.command_run.specs.Steps.{IsReplyOf}
use Rattle.command_run.specs.declared.reply.Reply.{Reply}
use Rattle.command_run.specs.declared.status.Status.TheVariants.{Done, Refused}
use Rattle.recon_cmd.specs.Answers.{ToContent, or_line}
use Rattle.recon_cmd.specs.Ask.{AskAnswer, WritesLabels, ask_task, ask_line, labels_text, points_within, query_refusal_line, QueryNames}
use Rattle.recon_cmd.specs.Options.{Options}
use Rattle.recon_cmd.proofs.FileAnswers.{Found, content_cases, file_cases}
use Rattle.recon_cmd.proofs.FileReplies.{IsFound, reply_to_found}

-- each answer read two files
pub ask_reads : (limit : ℕ) (names : QueryNames) (options : Options) (scan : Shown) (files : Files) (answer : Answer)
    → AskAnswer limit names options files scan answer → answer.reads ≡ 2
ask_reads limit names options scan files answer =
    file_cases 2 names.points (points_within limit options) (λ _. WritesLabels names.output options scan) files answer
    (answer.reads ≡ 2) (λ bytes line has so is. ap (λ (a : Answer). a.reads) is)
    (λ bytes points has so written. ap (λ (a : Answer). a.reads) written.is)

-- the points were read, and are rejected or answered
pub points_reply : (limit : ℕ) (names : QueryNames) (options : Options) (scan : Shown) (bytes : List ℕ)
    (found : Found (List Point)) (reply : Reply) (before : State)
    → IfSome before.told (IsFound names.points (points_within limit options) bytes found)
    → ToContent 2 (WritesLabels names.output options scan) found (answer_of 2 reply)
    → IsReplyOf (ask_task names options) (λ files. AskAnswer limit names options files scan) reply before
points_reply limit names options scan bytes found reply before there answers =
    by (content_cases 2 (WritesLabels names.output options scan) found (answer_of 2 reply)
    ((reply.status ≡ Done) ⊎ (reply.status ≡ Refused)) (λ line so is. inr (ap (λ (a : Answer). a.status) is))
    (λ points so written. inl (ap (λ (a : Answer). a.status) written.is)) answers)
  where
    by : (reply.status ≡ Done) ⊎ (reply.status ≡ Refused)
        → IsReplyOf (ask_task names options) (λ files. AskAnswer limit names options files scan) reply before
    by (inl done) =
        reply_to_found (ask_task names options) 2 names.points (points_within limit options)
        (λ _. WritesLabels names.output options scan) bytes found Done reply before done tt tt answers there
    by (inr refused) =
        reply_to_found (ask_task names options) 2 names.points (points_within limit options)
        (λ _. WritesLabels names.output options scan) bytes found Refused reply before refused tt tt answers there

-- points are rejected with the line of their error
pub points_failed : {X : Type 0} (why : QueryRefusal) (read : Result X QueryRefusal) (line : List ℕ) → Fails why read
    → query_refusal_line why ≡ Some line → or_line query_refusal_line read ≡ Err (Some line)
points_failed queries.NoMemory read line fails is = cc
points_failed (queries.BadToken token) read line fails is = ap (or_line query_refusal_line) fails ∙ ap Err is
points_failed (queries.LongNumber token) read line fails is = ap (or_line query_refusal_line) fails ∙ ap Err is
points_failed (queries.OutOfRange token) read line fails is = ap (or_line query_refusal_line) fails ∙ ap Err is
points_failed (queries.Uneven tokens) read line fails is = ap (or_line query_refusal_line) fails ∙ ap Err is
points_failed (queries.TooMany tokens) read line fails is = ap (or_line query_refusal_line) fails ∙ ap Err is

-- labels are written, from the reply that writes them
pub labels_written : (output : List ℕ) (options : Options) (scan : Shown) (settings : Settings) (points : List Point)
    (labels : List Bool) (writes : List Write) (text line : List ℕ)
    → settings.vote ≡ options.vote → settings.smooth ≡ options.smooth → AreLabels scan settings points labels
    → writes ≡ (output, text) ∷ [] → text ≡ labels_text labels
    → line ≡ ask_line (length (points_of scan)) (length labels) (count_by (λ label. label) labels)
    → WritesLabels output options scan points (record { status = Done; reads = 2; writes = writes; line = line })
labels_written output options scan settings points labels writes text line vote smooth labelled writes_is text_is line_is =
    record {
      settings = settings;
      vote = vote;
      smooth = smooth;
      labels = labels;
      labelled = labelled;
      is =
          ap (λ (w : List Write). record { status = Done; reads = 2; writes = w; line = line })
          (writes_is ∙ ap (λ (t : List ℕ). (output, t) ∷ []) text_is)
          ∙ ap (λ (l : List ℕ). record { status = Done; reads = 2; writes = (output, labels_text labels) ∷ []; line = l }) line_is;
    }
