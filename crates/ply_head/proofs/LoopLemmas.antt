-- One line of a header after another.
use Rattle.std.proofs.Common.{◌≡◌, ℕ, zero, ◌+◌, ◌-◌, ◌≤◌, length, drop, List, [], ◌∷◌, Option, Result, Ok, Err, refl, sym, ap}
use Rattle.std.proofs.Common.{◌∙◌, arith}
use Rattle.std.proofs.lemmas.Bool.{le-ltb, lt-ltb}
use Rattle.std.proofs.lemmas.List.{drop-drop, length-drop}
use Rattle.std.proofs.lemmas.List.Splits.{join_with_byte-slice_split}
use Rattle.ply_head.specs.Lines.{parts_of, words_of}
use Rattle.ply_head.specs.Statements.{statement_of_words}
use Rattle.ply_head.specs.Answers.{◌>>=◌}
use Rattle.ply_head.specs.Headers.{Fails, step_of, Step, goes, ends, then_lines, header_from}
use Rattle.ply_head.specs.Reading.{line_at, IsEndOf}
use Rattle.ply_head.specs.declared.header.Header.{Header}
use Rattle.ply_head.specs.declared.refusal.HeadRefusal.{HeadRefusal}
use Rattle.ply_head.specs.declared.refusal.HeadRefusal.TheVariants.{LongHeader, NoMemory}
use Rattle.ply_head.proofs.HeadLemmas.{Parts, some_part}

abbrev pub Whole : Type 0
Whole = Result (Header × List ℕ) HeadRefusal

abbrev pub whole_and : Header → List ℕ → Whole
whole_and whole body = Ok (whole, body)

-- what comes of a line
abbrev pub line_done : ℕ → Option Header → List ℕ × List (List ℕ) → Whole
line_done n head x =
    step_of n head (statement_of_words (words_of x.0)) >>= λ step. then_lines step x.1 (λ next. header_from (n + 1) next x.1)

pub header_step : (n : ℕ) (head : Option Header) (parts : List (List ℕ)) → n ≤ 1000
    → header_from n head parts ≡ (line_at n parts >>= line_done n head)
unfolding header_from
header_step n head [] le = refl
header_step n head (part ∷ more) le = grind (arith, le-ltb)

-- the line is refused
pub line_refused : (e : HeadRefusal) (n : ℕ) (head : Option Header) (parts : List (List ℕ)) (total : Whole) → n ≤ 1000
    → Fails e (line_at n parts) → header_from n head parts ≡ total → Fails e total
line_refused NoMemory n head parts total le h so_far = tt
line_refused e n head parts total le h so_far = grind (arith, header_step)

abbrev step_done : ℕ → List (List ℕ) → Step → Whole
step_done n more step = then_lines step more (λ next. header_from (n + 1) next more)

read_line : (n : ℕ) (head : Option Header) (parts : List (List ℕ)) (text : List ℕ) (more : List (List ℕ)) → n ≤ 1000
    → line_at n parts ≡ Ok (text, more)
    → header_from n head parts ≡ (step_of n head (statement_of_words (words_of text)) >>= step_done n more)
read_line n head parts text more le h =
    header_step n head parts le ∙ ap (λ (r : Result (List ℕ × List (List ℕ)) HeadRefusal). r >>= line_done n head) h

-- what the line says is refused
pub step_refused : (e : HeadRefusal) (n : ℕ) (head : Option Header) (parts : List (List ℕ)) (text : List ℕ)
    (more : List (List ℕ)) (total : Whole) → n ≤ 1000 → line_at n parts ≡ Ok (text, more)
    → Fails e (step_of n head (statement_of_words (words_of text))) → header_from n head parts ≡ total → Fails e total
step_refused NoMemory n head parts text more total le h f so_far = tt
step_refused e n head parts text more total le h f so_far =
    sym so_far ∙ read_line n head parts text more le h ∙ ap (λ (r : Result Step HeadRefusal). r >>= step_done n more) f

-- the header goes on
pub step_goes : (n : ℕ) (head next : Option Header) (parts : List (List ℕ)) (text : List ℕ) (more : List (List ℕ))
    (total : Whole) → n ≤ 1000 → line_at n parts ≡ Ok (text, more)
    → step_of n head (statement_of_words (words_of text)) ≡ Ok (goes next) → header_from n head parts ≡ total
    → header_from (n + 1) next more ≡ total
step_goes n head next parts text more total le h f so_far =
    sym (ap (λ (r : Result Step HeadRefusal). r >>= step_done n more) f) ∙ sym (read_line n head parts text more le h) ∙ so_far

-- the header ends
pub step_ends : (n : ℕ) (head : Option Header) (whole : Header) (parts : List (List ℕ)) (text behind : List ℕ) (total : Whole)
    → n ≤ 1000 → line_at n parts ≡ Ok (text, parts_of behind)
    → step_of n head (statement_of_words (words_of text)) ≡ Ok (ends whole) → header_from n head parts ≡ total
    → total ≡ Ok (whole, behind)
unfolding parts_of
step_ends n head whole parts text behind total le h f so_far =
    sym so_far ∙ read_line n head parts text (parts_of behind) le h
    ∙ ap (λ (r : Result Step HeadRefusal). r >>= step_done n (parts_of behind)) f
    ∙ ap (λ (body : List ℕ). whole_and whole body) (join_with_byte-slice_split 10 behind)

-- no line is left
pub lines_over : (n : ℕ) (head : Option Header) (rest : List ℕ) (total : Whole) → 1001 ≤ n
    → header_from n head (parts_of rest) ≡ total → total ≡ Err LongHeader
unfolding header_from
lines_over n head rest total ge so_far =
    let part : Parts rest zero = some_part rest in
    sym so_far ∙ ap (header_from n head) part.is ∙ rw (lt-ltb 1000 n (omega arith)) refl

pub tail_of_tail : (body rest bytes : List ℕ) → IsEndOf body rest → IsEndOf rest bytes → IsEndOf body bytes
tail_of_tail body rest bytes a b = record {
  from = b.from + a.from;
  fits = omega (arith, a.fits, b.fits, ap length b.is, length-drop b.from bytes);
  is = a.is ∙ ap (drop a.from) b.is ∙ drop-drop a.from b.from bytes;
}

pub tail_fits : (body bytes : List ℕ) → IsEndOf body bytes → length body ≤ length bytes
tail_fits body bytes a = omega (arith, ap length a.is, length-drop a.from bytes)

pub tail_is : (body bytes : List ℕ) → IsEndOf body bytes → drop (length bytes - length body) bytes ≡ body
tail_is body bytes a =
    let from : length bytes - length body ≡ a.from = omega (arith, a.fits, ap length a.is, length-drop a.from bytes) in
    ap (λ (n : ℕ). drop n bytes) from ∙ sym a.is
