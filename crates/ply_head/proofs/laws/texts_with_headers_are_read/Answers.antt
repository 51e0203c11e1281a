use Rattle.ply_head.proofs.GrammarLemmas.{header_read}
use Rattle.ply_head.proofs.GrammarFound.{header_found}
use Rattle.ply_head.proofs.ReadableLemmas.{readable_has}
use Rattle.ply_head.proofs.laws.texts_with_headers_are_read.Goals as goal

pub returns : goal.returns
returns c =
    record { exactly = λ bytes head body. (header_found bytes head body, header_read bytes head body); readable = readable_has }
