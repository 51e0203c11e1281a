-- Lines, and the elements of a header.
--
-- A text is cut at its LFs into parts, of which there is a first (some_part). Where no LF is found among enough bytes the
-- first part is too long to be a line, ended or not (long_line); among all bytes, the line is cut off (cut_line); and where
-- one is found the bytes before it are the first part, which is a line or too long (line_is). Its text is without one CR at
-- the end (return_cut, no_return). with_property_last puts a property to the last element.
use Rattle.std.proofs.Common.{◌≡◌, ℕ, zero, suc, ◌+◌, ◌-◌, ◌<◌, ◌≤◌, Bool, true, false, cond, eqb, ltb, List, [], ◌∷◌, ◌++◌}
use Rattle.std.proofs.Common.{length, get_or, take, drop, Result, Ok, Err, refl, sym, ap, ◌∙◌, arith, All}
use Rattle.std.proofs.lemmas.List.{drop_more, take-append-drop, take_rest}
use Rattle.std.proofs.lemmas.List.Splits.{slice_split-cons_yes, slice_split-cons_no, slice_split_at, slice_split_none}
use Rattle.std.specs.List.{slice_split, onto_first}
use Rattle.std.proofs.lemmas.Bool.{le-ltb, lt-ltb}
use Rattle.std.proofs.lemmas.Bool.Decides.{nat_tests}
use Rattle.ply_head.specs.Lines.{parts_of, is_line_feed, line_text}
use Rattle.ply_head.specs.Answers.{◌>>=◌}
use Rattle.ply_head.specs.Headers.{with_property, has_property}
use Rattle.ply_head.specs.Reading.{line_at}
use Rattle.ply_head.specs.declared.header.Property.{Property}
use Rattle.ply_head.specs.declared.header.Element.{Element}
use Rattle.ply_head.specs.declared.refusal.HeadRefusal.{HeadRefusal}
use Rattle.ply_head.specs.declared.refusal.HeadRefusal.TheVariants.{LongLine, Twice, HeadCut}

-- ---- the end of a line

pub return_cut : (line : List ℕ) (n : ℕ) → suc n ≡ length line → get_or line n 0 ≡ 13 → take n line ≡ line_text line
return_cut [] n e h = absurd (omega arith)
return_cut (b ∷ []) zero e h = rw h refl
return_cut (b ∷ []) (suc n) e h = absurd (omega arith)
return_cut (b ∷ c ∷ xs) zero e h = absurd (omega arith)
return_cut (b ∷ c ∷ xs) (suc n) e h = ap (λ (ys : List ℕ). b ∷ ys) (return_cut (c ∷ xs) n (omega arith) h)

other_byte : (b : ℕ) → (b ≡ 13 → ⊥) → eqb b 13 ≡ false
other_byte b h = grind (arith, nat_tests)

pub no_return : (line : List ℕ) (n : ℕ) → suc n ≡ length line → (get_or line n 0 ≡ 13 → ⊥) → line ≡ line_text line
no_return [] n e h = absurd (omega arith)
no_return (b ∷ []) zero e h = rw (other_byte b h) refl
no_return (b ∷ []) (suc n) e h = absurd (omega arith)
no_return (b ∷ c ∷ xs) zero e h = absurd (omega arith)
no_return (b ∷ c ∷ xs) (suc n) e h = ap (λ (ys : List ℕ). b ∷ ys) (no_return (c ∷ xs) n (omega arith) h)

-- at most one byte belongs to the end
pub long_text : (line : List ℕ) → length line ≤ length (line_text line) + 1
long_text [] = omega arith
long_text (b ∷ []) = omega arith
long_text (b ∷ c ∷ xs) = omega (arith, long_text (c ∷ xs))

-- ---- the parts of a text

-- there is a first part
pub record Parts (bytes : List ℕ) (least : ℕ) : Type 0 where
  pub first : List ℕ
  pub more : List (List ℕ)
  pub is : parts_of bytes ≡ first ∷ more
  pub long : least ≤ length first

by_feed : (b : ℕ) (bytes : List ℕ) (f : Bool) → is_line_feed b ≡ f → Parts bytes zero → Parts (b ∷ bytes) zero
unfolding parts_of
by_feed b bytes true e rest = record {
  first = [];
  more = slice_split is_line_feed bytes;
  is = slice_split-cons_yes is_line_feed b bytes e;
  long = omega arith;
}
by_feed b bytes false e rest = record {
  first = b ∷ rest.first;
  more = rest.more;
  is = slice_split-cons_no is_line_feed b bytes e ∙ ap (onto_first b) rest.is;
  long = omega arith;
}

pub some_part : (bytes : List ℕ) → Parts bytes zero
unfolding parts_of
some_part [] = record { first = []; more = []; is = refl; long = omega arith }
some_part (b ∷ bytes) = by_feed b bytes (is_line_feed b) refl (some_part bytes)

-- a first part as long as the bytes that have no LF
pub first_part : (bytes : List ℕ) (k : ℕ) → k ≤ length bytes → All (λ x. is_line_feed x ≡ false) (take k bytes) → Parts bytes k
unfolding parts_of
first_part bytes zero le all = some_part bytes
first_part [] (suc k) le all = absurd (omega arith)
first_part (b ∷ bytes) (suc k) le all =
    let rest : Parts bytes k = first_part bytes k (omega arith) (λ j d lt. all (suc j) d (omega arith)) in
    record {
      first = b ∷ rest.first;
      more = rest.more;
      is = slice_split-cons_no is_line_feed b bytes (all 0 0 (omega arith)) ∙ ap (onto_first b) rest.is;
      long = omega (arith, rest.long);
    }

-- a line that is too long, whether it is ended or not
long_first : (n : ℕ) (first : List ℕ) (more : List (List ℕ)) → 1002 ≤ length first → line_at n (first ∷ more) ≡ Err (LongLine n)
long_first n first [] le = rw (le-ltb (length first) 1002 le) refl
long_first n first (next ∷ more) le = rw (lt-ltb 1000 (length (line_text first)) (omega (arith, long_text first))) refl

pub long_line : (n : ℕ) (bytes : List ℕ) → 1002 ≤ length bytes → All (λ x. is_line_feed x ≡ false) (take 1002 bytes)
    → line_at n (parts_of bytes) ≡ Err (LongLine n)
long_line n bytes le all =
    let part : Parts bytes 1002 = first_part bytes 1002 le all in
    rw part.is (long_first n part.first part.more part.long)

pub cut_line : (n : ℕ) (bytes : List ℕ) → length bytes < 1002 → All (λ x. is_line_feed x ≡ false) bytes
    → line_at n (parts_of bytes) ≡ Err HeadCut
unfolding parts_of
cut_line n bytes lt all = rw (slice_split_none is_line_feed bytes all, lt-ltb (length bytes) 1002 lt) refl

-- a line that is ended at position i
ended_at : (bytes : List ℕ) (i : ℕ) → i < length bytes → All (λ x. is_line_feed x ≡ false) (take i bytes)
    → is_line_feed (get_or bytes i 0) ≡ true → parts_of bytes ≡ take i bytes ∷ parts_of (drop (i + 1) bytes)
unfolding parts_of
ended_at bytes i lt all feed =
    ap (slice_split is_line_feed)
    (sym (take-append-drop i bytes) ∙ ap (λ (r : List ℕ). take i bytes ++ r) (drop_more bytes i 0 lt))
    ∙ slice_split_at is_line_feed (take i bytes) (get_or bytes i 0) (drop (i + 1) bytes) all feed

-- the text of a line, and the parts behind it
abbrev pub line_and : List ℕ → List (List ℕ) → Result (List ℕ × List (List ℕ)) HeadRefusal
line_and text more = Ok (text, more)

pub line_is : (n : ℕ) (bytes : List ℕ) (i : ℕ) → i < length bytes → All (λ x. is_line_feed x ≡ false) (take i bytes)
    → get_or bytes i 0 ≡ 10
    → line_at n (parts_of bytes)
    ≡ cond (ltb 1000 (length (line_text (take i bytes)))) (Err (LongLine n))
    (Ok (line_text (take i bytes), parts_of (take (length bytes - (i + 1)) (drop (i + 1) bytes))))
line_is n bytes i lt all feed =
    let rest = drop (i + 1) bytes in
    let part : Parts rest zero = some_part rest in
    let is : parts_of bytes ≡ take i bytes ∷ part.first ∷ part.more =
    ended_at bytes i lt all (rw feed refl) ∙ ap (λ (ps : List (List ℕ)). take i bytes ∷ ps) part.is in
    rw (is, take_rest bytes (i + 1), part.is)
    (by_case (ltb 1000 (length (line_text (take i bytes)))) (line_text (take i bytes)) part.first part.more)
  where
    by_case : (b : Bool) (text first : List ℕ) (more : List (List ℕ))
        → (cond b (Err (LongLine n)) (Ok text) >>= λ t. line_and t (first ∷ more))
        ≡ cond b (Err (LongLine n)) (line_and text (first ∷ more))
    by_case true text first more = refl
    by_case false text first more = refl

-- ---- a property for the last element

pub with_property_last : (n : ℕ) (p : Property) (xs : List Element) (e : Element)
    → with_property n p (xs ++ e ∷ [])
    ≡ cond (has_property p.name e.properties) (Err (Twice n)) (Ok (xs ++ record e { properties = e.properties ++ p ∷ [] } ∷ []))
with_property_last n p [] e = refl
with_property_last n p (x ∷ []) e = grind arith
with_property_last n p (x ∷ y ∷ xs) e = grind (arith, with_property_last n p (y ∷ xs) e)

pub empty_text : (line : List ℕ) → length line ≤ 0 → line ≡ line_text line
empty_text [] e = refl
empty_text (b ∷ bytes) e = absurd (omega arith)

pub other_feed : (b : ℕ) → (b ≡ 10 → ⊥) → is_line_feed b ≡ false
other_feed b h = grind (arith, nat_tests)
