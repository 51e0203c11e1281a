use Rattle.num_text.proofs.PrintedLemmas.{whole_of-signed_decimal, scaled_of-signed_decimal}
use Rattle.num_text.proofs.laws.printed_numbers_are_read.Goals as goal

pub returns : goal.returns
returns c = record { whole = whole_of-signed_decimal; scaled = scaled_of-signed_decimal }
