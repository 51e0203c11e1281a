-- The words of a line, one after another.
use Rattle.std.proofs.Common.{◌≡◌, ℕ, zero, suc, ◌+◌, ◌-◌, ◌<◌, ◌≤◌, true, false, List, [], ◌∷◌, ◌++◌, length, get_or, take}
use Rattle.std.proofs.Common.{drop, refl, sym, ap, ◌∙◌, arith, All}
use Rattle.std.specs.Prelude.{filter}
use Rattle.std.proofs.lemmas.List.{drop_more, drop_all, take-append-drop, length-take, take_rest}
use Rattle.std.proofs.lemmas.Bool.{false≢true}
use Rattle.std.proofs.lemmas.List.Splits.{slice_split-cons_yes, slice_split_at, slice_split_none}
use Rattle.ply_head.specs.Lines.{words_of, is_blank, has_bytes}

pub words_nil : words_of [] ≡ []
unfolding words_of
words_nil = refl

-- a blank at the front is passed over
pub words_blank : (b : ℕ) (xs : List ℕ) → is_blank b ≡ true → words_of (b ∷ xs) ≡ words_of xs
unfolding words_of
words_blank b xs blank = ap (filter has_bytes) (slice_split-cons_yes is_blank b xs blank)

-- the first word ends at the next blank
pub words_word : (w : List ℕ) (b : ℕ) (rest : List ℕ) → 0 < length w → All (λ x. is_blank x ≡ false) w → is_blank b ≡ true
    → words_of (w ++ b ∷ rest) ≡ w ∷ words_of rest
unfolding words_of
words_word [] b rest some all blank = absurd (omega arith)
words_word (x ∷ w) b rest some all blank = ap (filter has_bytes) (slice_split_at is_blank (x ∷ w) b rest all blank)

-- or at the end of the line
pub words_last : (w : List ℕ) → 0 < length w → All (λ x. is_blank x ≡ false) w → words_of w ≡ w ∷ []
unfolding words_of
words_last [] some all = absurd (omega arith)
words_last (x ∷ w) some all = ap (filter has_bytes) (slice_split_none is_blank (x ∷ w) all)

-- a blank at position i is passed over
pub blank_next : (line : List ℕ) (i : ℕ) → i < length line → is_blank (get_or line i 0) ≡ true
    → words_of (drop i line) ≡ words_of line → words_of (drop (i + 1) line) ≡ words_of line
blank_next line i lt blank so_far = sym (words_blank _ _ blank) ∙ ap words_of (sym (drop_more line i 0 lt)) ∙ so_far

-- no word is left behind the end
pub words_past : (line : List ℕ) (n : ℕ) → length line ≤ n → words_of (drop n line) ≡ []
words_past line n le = ap words_of (drop_all n line le) ∙ words_nil

-- the word that ends at position i
pub word_ends : (line : List ℕ) (i : ℕ) → i < length line → 0 < i → All (λ x. is_blank x ≡ false) (take i line)
    → is_blank (get_or line i 0) ≡ true → words_of line ≡ take i line ∷ words_of (drop (i + 1) line)
word_ends line i lt some all blank =
    let parts : line ≡ take i line ++ get_or line i 0 ∷ drop (i + 1) line =
    sym (take-append-drop i line) ∙ ap (λ (r : List ℕ). take i line ++ r) (drop_more line i 0 lt) in
    let len : 0 < length (take i line) = omega (arith, length-take i line) in
    ap words_of parts ∙ words_word (take i line) (get_or line i 0) (drop (i + 1) line) len all blank

-- what the code takes from a line
pub word_taken : (line rest : List ℕ) (i : ℕ) → words_of rest ≡ words_of line
    → (0 < length rest → is_blank (get_or rest 0 0) ≡ false) → i < length rest → All (λ x. is_blank x ≡ false) (take i rest)
    → is_blank (get_or rest i 0) ≡ true
    → words_of line ≡ take i rest ∷ words_of (take (length rest - (i + 1)) (drop (i + 1) rest))
word_taken line rest zero same begins lt all blank = absurd (false≢true (sym (begins (omega arith)) ∙ blank))
word_taken line rest (suc i) same begins lt all blank =
    sym same ∙ word_ends rest (suc i) lt (omega arith) all blank
    ∙ ap (λ (r : List ℕ). take (suc i) rest ∷ words_of r) (sym (take_rest rest (suc i + 1)))

pub last_taken : (line rest : List ℕ) → words_of rest ≡ words_of line → 0 < length rest → All (λ x. is_blank x ≡ false) rest
    → words_of line ≡ rest ∷ words_of (take (length rest - length rest) (drop (length rest) rest))
last_taken line rest same some all =
    sym same ∙ words_last rest some all
    ∙ ap (λ (ws : List (List ℕ)). rest ∷ ws)
    (sym (ap words_of (take_rest rest (length rest)) ∙ words_past rest (length rest) (omega arith)))
