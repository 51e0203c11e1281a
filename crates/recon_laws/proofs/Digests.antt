-- The digest of a file has 32 bytes.
use Rattle.std.proofs.Common.{ℕ, zero, suc, ◌-◌, ◌<◌, ◌≤◌, sym, subst, arith, List, ◌++◌, length, get_or, w32, ⊎_elim}
use Rattle.std.proofs.lemmas.Bool.{cases_lt}
use Rattle.std.proofs.lemmas.List.{get_or_append_left, get_or-append_right}
use Rattle.std.specs.Int.{to_be_bytes}
use Rattle.certificate.specs.Stamps.{IsDigest}
use Rattle.hex.specs.Hex.{IsBytes}
use Rattle.sha2.proofs.Facts256.{length-sha256}
use Rattle.sha2.specs.Sha256.{digest_bytes, sha256}

both : (xs ys : List ℕ) → IsBytes xs → IsBytes ys → IsBytes (xs ++ ys)
both xs ys a b i =
    ⊎_elim (λ (l : i < length xs). subst (λ (n : ℕ). n < 256) (sym (get_or_append_left xs ys 0 i l)) (a i))
    (λ (l : length xs ≤ i).
    subst (λ (n : ℕ). n < 256) (sym (get_or-append_right xs ys (length xs) i 0 (omega arith) l)) (b (i - length xs)))
    (cases_lt i (length xs))

word_bytes : (n : ℕ) → IsBytes (to_be_bytes w32 n)
word_bytes n zero = omega arith
word_bytes n (suc zero) = omega arith
word_bytes n (suc (suc zero)) = omega arith
word_bytes n (suc (suc (suc zero))) = omega arith
word_bytes n (suc (suc (suc (suc i)))) = omega arith

words_bytes : (h : List ℕ) (n : ℕ) → IsBytes (digest_bytes h n)
unfolding digest_bytes
words_bytes h zero = λ i. omega arith
words_bytes h (suc n) = both (digest_bytes h n) (to_be_bytes w32 (get_or h n 0)) (words_bytes h n) (word_bytes (get_or h n 0))

pub is_digest : (bytes : List ℕ) → IsDigest (sha256 bytes)
unfolding sha256
is_digest bytes = (length-sha256 bytes, words_bytes _ 8)
