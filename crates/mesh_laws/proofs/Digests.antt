-- A SHA-256 is 32 bytes.
use Rattle.std.proofs.Common.{ℕ, zero, suc, ◌≡◌, ◌<◌, ◌/◌, ◌%◌, ◌^◌, arith, List, [], ◌∷◌, ◌++◌, slice_index}
use Rattle.std.specs.Int.{to_be_bytes, bytes_high_first, byte_at}
use Rattle.std.proofs.lemmas.List.{get_or_past}
use mir.Syntax.{w32}
use Rattle.hex.specs.Hex.{IsBytes}
use Rattle.certificate.specs.Stamps.{IsDigest}
use Rattle.sha2.specs.Sha256.{sha256, digest_bytes, final_hash, initial_hash_256}
use Rattle.sha2.proofs.Facts256.{length-sha256}

no_bytes : IsBytes []
no_bytes i = let none : slice_index [] i ≡ 0 = get_or_past [] i 0 (omega arith) in omega (arith, none)

joined : (a b : List ℕ) → IsBytes a → IsBytes b → IsBytes (a ++ b)
joined [] b ha hb i = hb i
joined (x ∷ a) b ha hb zero = ha 0
joined (x ∷ a) b ha hb (suc i) = joined a b (λ k. ha (suc k)) hb i

byte_below : (k n : ℕ) → byte_at k n < 256
byte_below zero n = omega arith
byte_below (suc k) n = mod_below (n / 256 ^ suc k)
  where
    mod_below : (q : ℕ) → q % 256 < 256
    mod_below q = omega arith

high_first : (k n : ℕ) → IsBytes (bytes_high_first k n)
high_first zero n i = no_bytes i
high_first (suc k) n zero = byte_below k n
high_first (suc k) n (suc i) = high_first k n i

of_words : (h : List ℕ) (n : ℕ) → IsBytes (digest_bytes h n)
unfolding digest_bytes
of_words h zero = no_bytes
of_words h (suc n) = joined (digest_bytes h n) (to_be_bytes w32 (slice_index h n)) (of_words h n) (high_first 4 (slice_index h n))

pub is_digest : (bytes : List ℕ) → IsDigest (sha256 bytes)
unfolding sha256
is_digest bytes = (length-sha256 bytes, of_words (final_hash initial_hash_256 bytes) 8)
