use Rattle.ply_head.proofs.SpellingLaw.{printed_read}
use Rattle.ply_head.proofs.GrammarFound.{header_found}
use Rattle.ply_head.proofs.ReadableLemmas.{readable_has}
use Rattle.ply_head.proofs.laws.printed_headers_are_read.Goals as goal

pub returns : goal.returns
returns c = record {
  readable = printed_read;
  again =
      λ bytes head body other read keeps.
      printed_read head other (readable_has bytes head body (header_found bytes head body read)) keeps;
}
