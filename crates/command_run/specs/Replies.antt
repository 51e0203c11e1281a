-- The answers that the program holds in memory.
--
--   line_bytes line            the bytes of a line
--   write_of, texts_of         a text and texts, as what is written
--   answer_of reads reply      a reply, as an answer
use Rattle.std.specs.Prelude.{ℕ, List, map}
use Rattle.command_run.specs.Answers.{Write, Answer}
use Rattle.command_run.specs.declared.reply.Line.{Line}
use Rattle.command_run.specs.declared.reply.Line.TheVariants.{Fixed, Made}
use Rattle.command_run.specs.declared.reply.Reply.{Reply}
use Rattle.command_run.specs.declared.reply.Text.{Text}

-- the bytes of a line
abbrev pub line_bytes : Line → List ℕ
line_bytes (Fixed bytes) = bytes.now
line_bytes (Made bytes) = bytes.items

-- a text, as what is written
abbrev pub write_of : Text → Write
write_of text = (text.name.now, text.bytes.items)

-- the texts, as what is written
abbrev pub texts_of : List Text → List Write
texts_of texts = map write_of texts

-- a reply after this number of files was read, as an answer
abbrev pub answer_of : ℕ → Reply → Answer
answer_of reads reply =
    record { status = reply.status; reads = reads; writes = texts_of reply.texts.items; line = line_bytes reply.line }
