-- The reader and the grammar agree: where a header is read, the lines lead to it.
--
-- Reading is a chain of answers, each of which may refuse. It gave a header, so each of them gave a value (guarded,
-- bind_ok): the line is short, its words are a statement, and the statement made a step. What a step makes of the header so
-- far is what the grammar says that its statement adds (is_step, by cases on the statement and on whether there is a header
-- yet). lines_found goes on to the line that ends the header, and keeps all that was read as IsFound. The parts of a text at
-- its LFs have no LF, and joined again they are the text (parts_clean, text_of_parts), so text_has finds the lines of the
-- grammar in the bytes. At the top are two cases, `ply` with a CR and without.
use Rattle.std.proofs.Common.{◌≡◌, ℕ, zero, suc, ◌+◌, ◌<◌, ◌≤◌, Bool, true, false, cond, ltb, List, [], ◌∷◌, ◌++◌, length}
use Rattle.std.proofs.Common.{get_or, drop, Option, Some, None, Err, refl, sym, ap, subst, ◌∙◌, arith, All, codes, append_assoc}
use Rattle.std.proofs.Common.{nat_eq, inl, inr, ◌⊎◌}
use Rattle.std.specs.List.{starts_with, join_with_byte, onto_first}
use Rattle.std.proofs.lemmas.Bool.{ltb-false}
use Rattle.std.proofs.lemmas.Bool.Decides.{Decides-eqb}
use Rattle.std.proofs.lemmas.Slice.Eq.{starts_is}
use Rattle.std.proofs.lemmas.List.{get_or_append_left}
use Rattle.std.proofs.lemmas.List.Elements.{All-cons}
use Rattle.std.proofs.lemmas.List.Splits.{join_with_byte-slice_split, slice_split-cons_no}
use Rattle.ply_head.specs.declared.header.Header.{Header}
use Rattle.ply_head.specs.declared.header.Element.{Element}
use Rattle.ply_head.specs.declared.header.Property.{Property}
use Rattle.ply_head.specs.declared.refusal.HeadRefusal.TheVariants.{NotPly}
use Rattle.ply_head.specs.Lines.{parts_of, words_of, is_line_feed, line_text}
use Rattle.ply_head.specs.Statements.{Statement, nothing, format, element, property, finish, statement_of_words}
use Rattle.ply_head.specs.Answers.{◌>>=◌}
use Rattle.ply_head.specs.Headers.{text_of_line, with_property, has_property, step_of, Step, goes, ends, then_lines}
use Rattle.ply_head.specs.Headers.{header_from, header_of}
use Rattle.ply_head.specs.Spelling.{joined}
use Rattle.ply_head.specs.Grammar.{Says, Adds, Leads, HasHeader}
use Rattle.ply_head.proofs.Answers.{bind_ok, guarded, done, same_done}
use Rattle.ply_head.proofs.HeadLemmas.{Parts, some_part}
use Rattle.ply_head.proofs.LoopLemmas.{whole_and}

-- ---- results

whole_is : (a h : Header) (x body : List ℕ) → whole_and a x ≡ whole_and h body → (a ≡ h) × (x ≡ body)
whole_is a h x body e = grind arith

-- ---- what a step makes is what its statement adds

record IsAdded (p : Property) (before after : List Element) : Type 0 where
  front : List Element
  last : Element
  is_last : before ≡ front ++ last ∷ []
  is_new : has_property p.name last.properties ≡ false
  is : after ≡ front ++ record last { properties = last.properties ++ p ∷ [] } ∷ []

property_added : (n : ℕ) (p : Property) (before after : List Element) → with_property n p before ≡ done after
    → IsAdded p before after
property_added n p [] after e = absurd cc
property_added n p (x ∷ []) after e =
    let g =
    guarded (has_property p.name x.properties) _ (done (record x { properties = x.properties ++ p ∷ [] } ∷ [])) after e in
    record {
      front = [];
      last = x;
      is_last = refl;
      is_new = g.0;
      is = sym (same_done (record x { properties = x.properties ++ p ∷ [] } ∷ []) after g.1);
    }
property_added n p (x ∷ y ∷ before) after e =
    let b = bind_ok (with_property n p (y ∷ before)) (λ es. done (x ∷ es)) after e in
    let rest : IsAdded p (y ∷ before) b.0 = property_added n p (y ∷ before) b.0 b.1 in
    record {
      front = x ∷ rest.front;
      last = rest.last;
      is_last = ap (λ (es : List Element). x ∷ es) rest.is_last;
      is_new = rest.is_new;
      is = sym (same_done (x ∷ b.0) after b.2) ∙ ap (λ (es : List Element). x ∷ es) rest.is;
    }

abbrev IsStep : Option Header → Option Statement → Step → Type 0
IsStep before said (goes next) = (s : Statement) × ((said ≡ Some s) × Adds before s next)
IsStep before said (ends whole) = (said ≡ Some finish) × (before ≡ Some whole)

abbrev with_elements : Header → List Element → Option Header
with_elements head es = Some (record head { elements = es })

is_step : (n : ℕ) (before : Option Header) (said : Option Statement) (step : Step) → step_of n before said ≡ done step
    → IsStep before said step
unfolding step_of
is_step n None None step e = absurd cc
is_step n (Some head) None step e = absurd cc
is_step n None (Some nothing) step e = subst (IsStep None (Some nothing)) (same_done (goes None) step e) (nothing, (refl, refl))
is_step n (Some head) (Some nothing) step e =
    subst (IsStep (Some head) (Some nothing)) (same_done (goes (Some head)) step e) (nothing, (refl, refl))
is_step n None (Some (format kind)) step e = grind arith
is_step n None (Some (element name count)) step e = absurd cc
is_step n None (Some (property name shape)) step e = absurd cc
is_step n None (Some finish) step e = absurd cc
is_step n (Some head) (Some (format kind)) step e = absurd cc
is_step n (Some head) (Some (element name count)) step e = grind arith
is_step n (Some head) (Some (property name shape)) step e =
    let b =
    bind_ok (with_property n (record { name = name; shape = shape }) head.elements)
    (λ es. done (goes (Some (record head { elements = es })))) step e in
    let added : IsAdded (record { name = name; shape = shape }) head.elements b.0 =
    property_added n (record { name = name; shape = shape }) head.elements b.0 b.1 in
    subst (IsStep (Some head) (Some (property name shape)))
    (same_done (goes (Some (record head { elements = b.0 }))) step b.2) (
      property name shape,
      (
        refl,
        record {
          front = added.front;
          last = added.last;
          is_last = added.is_last;
          is_new = added.is_new;
          is = ap (λ (es : List Element). with_elements head es) added.is;
        },
      ),
    )
is_step n (Some head) (Some finish) step e =
    subst (IsStep (Some head) (Some finish)) (same_done (ends head) step e) (refl, refl)

-- ---- lines

record IsText (part : List ℕ) (more : List (List ℕ)) (text : List ℕ) : Type 0 where
  next : List ℕ
  rest : List (List ℕ)
  is : more ≡ next ∷ rest
  text_is : text ≡ line_text part
  short : length (line_text part) ≤ 1000

text_found : (n : ℕ) (part : List ℕ) (more : List (List ℕ)) (text : List ℕ) → text_of_line n part more ≡ done text
    → IsText part more text
text_found n part [] text e = grind arith
text_found n part (next ∷ rest) text e = grind (arith, ltb-false)

-- the lines that were read, and what is behind them
record IsFound (n : ℕ) (before : Option Header) (parts : List (List ℕ)) (head : Header) (body : List ℕ) : Type 0 where
  inner : List (List ℕ)
  last : List ℕ
  next : List ℕ
  more : List (List ℕ)
  are : parts ≡ inner ++ last ∷ next ∷ more
  body_is : join_with_byte 10 (next ∷ more) ≡ body
  few : n + length inner ≤ 1000
  short : All (λ line. length (line_text line) ≤ 1000) inner
  last_short : length (line_text last) ≤ 1000
  leads : Leads before inner (Some head)
  ends : Says last finish

by_step : (n : ℕ) (before : Option Header) (part : List ℕ) (more : List (List ℕ)) (head : Header) (body text : List ℕ)
    → IsText part more text → (step : Step) → IsStep before (statement_of_words (words_of text)) step → n ≤ 1000
    → ((next : Option Header) → header_from (n + 1) next more ≡ whole_and head body → IsFound (n + 1) next more head body)
    → then_lines step more (λ next. header_from (n + 1) next more) ≡ whole_and head body
    → IsFound n before (part ∷ more) head body
by_step n before part more head body text found (goes next) is le later e =
    let rest : IsFound (n + 1) next more head body = later next e in
    record {
      inner = part ∷ rest.inner;
      last = rest.last;
      next = rest.next;
      more = rest.more;
      are = ap (λ (ps : List (List ℕ)). part ∷ ps) rest.are;
      body_is = rest.body_is;
      few = omega (arith, rest.few);
      short = All-cons (λ line. length (line_text line) ≤ 1000) part rest.inner found.short rest.short;
      last_short = rest.last_short;
      leads = (
        next,
        (is.0, (ap (λ (t : List ℕ). statement_of_words (words_of t)) (sym found.text_is) ∙ is.1.0, is.1.1, rest.leads)),
      );
      ends = rest.ends;
    }
by_step n before part more head body text found (ends whole) is le later e =
    record {
      inner = [];
      last = part;
      next = found.next;
      more = found.rest;
      are = ap (λ (ps : List (List ℕ)). part ∷ ps) found.is;
      body_is = ap (join_with_byte 10) (sym found.is) ∙ (whole_is whole head (join_with_byte 10 more) body e).1;
      few = omega (arith, le);
      short = λ i d lt. absurd (omega arith);
      last_short = found.short;
      leads = sym (is.1 ∙ ap some_head ((whole_is whole head (join_with_byte 10 more) body e).0));
      ends = ap (λ (t : List ℕ). statement_of_words (words_of t)) (sym found.text_is) ∙ is.0;
    }
  where
    some_head : Header → Option Header
    some_head h = Some h

lines_found : (n : ℕ) (before : Option Header) (parts : List (List ℕ)) (head : Header) (body : List ℕ)
    → header_from n before parts ≡ whole_and head body → IsFound n before parts head body
unfolding header_from
lines_found n before [] head body e = absurd cc
lines_found n before (part ∷ more) head body e =
    let g =
    guarded (ltb 1000 n) _
    (text_of_line n part more >>= λ text. step_of n before (statement_of_words (words_of text))
    >>= λ step. then_lines step more (λ next. header_from (n + 1) next more)) (head, body) e in
    let b =
    bind_ok (text_of_line n part more)
    (λ text. step_of n before (statement_of_words (words_of text))
    >>= λ step. then_lines step more (λ next. header_from (n + 1) next more)) (head, body) g.1 in
    let c =
    bind_ok (step_of n before (statement_of_words (words_of b.0)))
    (λ step. then_lines step more (λ next. header_from (n + 1) next more)) (head, body) b.2 in
    by_step n before part more head body b.0 (text_found n part more b.0 b.1) c.0
    (is_step n before (statement_of_words (words_of b.0)) c.0 c.1) (ltb-false 1000 n g.0)
    (λ next is. lines_found (n + 1) next more head body is) c.2

-- ---- lines joined again are the text

abbrev IsClean : List ℕ → Type 0
IsClean part = All (λ b. is_line_feed b ≡ false) part

parts_by_feed : (b : ℕ) (bytes : List ℕ) (f : Bool) → is_line_feed b ≡ f → All IsClean (parts_of bytes)
    → All IsClean (parts_of (b ∷ bytes))
unfolding parts_of
parts_by_feed b bytes true e rest = grind arith
parts_by_feed b bytes false e rest =
    let part : Parts bytes zero = some_part bytes in
    let all : All IsClean (part.first ∷ part.more) = subst (All IsClean) part.is rest in
    subst (All IsClean) (sym (slice_split-cons_no is_line_feed b bytes e ∙ ap (onto_first b) part.is))
    (All-cons IsClean (b ∷ part.first) part.more
    (All-cons (λ x. is_line_feed x ≡ false) b part.first e (all 0 part.first (omega arith)))
    (λ i d lt. all (suc i) d (omega arith)))

parts_clean : (bytes : List ℕ) → All IsClean (parts_of bytes)
unfolding parts_of
parts_clean [] = All-cons IsClean [] [] (λ i d lt. absurd (omega arith)) (λ i d lt. absurd (omega arith))
parts_clean (b ∷ bytes) = parts_by_feed b bytes (is_line_feed b) refl (parts_clean bytes)

joined_parts : (inner : List (List ℕ)) (last next : List ℕ) (more : List (List ℕ))
    → join_with_byte 10 (inner ++ last ∷ next ∷ more) ≡ joined (inner ++ last ∷ []) ++ join_with_byte 10 (next ∷ more)
joined_parts [] last next more = sym (append_assoc last (10 ∷ []) (join_with_byte 10 (next ∷ more)))
joined_parts (x ∷ []) last next more =
    ap (λ (r : List ℕ). x ++ 10 ∷ r) (joined_parts [] last next more)
    ∙ sym (append_assoc x (10 ∷ joined (last ∷ [])) (join_with_byte 10 (next ∷ more)))
joined_parts (x ∷ y ∷ inner) last next more =
    ap (λ (r : List ℕ). x ++ 10 ∷ r) (joined_parts (y ∷ inner) last next more)
    ∙ sym (append_assoc x (10 ∷ joined (y ∷ inner ++ last ∷ [])) (join_with_byte 10 (next ∷ more)))

text_of_parts : (bytes : List ℕ) → join_with_byte 10 (parts_of bytes) ≡ bytes
unfolding parts_of
text_of_parts bytes = join_with_byte-slice_split 10 bytes

get_last : (inner more : List (List ℕ)) (last d : List ℕ) → get_or (inner ++ last ∷ more) (length inner) d ≡ last
get_last [] more last d = refl
get_last (x ∷ inner) more last d = get_last inner more last d

within : (inner more : List (List ℕ)) (last : List ℕ) → length inner < length (inner ++ last ∷ more)
within [] more last = omega arith
within (x ∷ inner) more last = omega (arith, within inner more last)

text_has : (first rest bytes : List ℕ) (head : Header) (body : List ℕ) → (first ≡ codes "ply") ⊎ (first ≡ codes "ply\r")
    → bytes ≡ first ++ 10 ∷ rest → IsFound 2 None (parts_of rest) head body → HasHeader bytes head body
text_has first rest bytes head body begins is found =
    let clean : All IsClean (found.inner ++ found.last ∷ found.next ∷ found.more) =
    subst (All IsClean) found.are (parts_clean rest) in
    let behind : rest ≡ joined (found.inner ++ found.last ∷ []) ++ body =
    sym (text_of_parts rest) ∙ ap (join_with_byte 10) found.are ∙ joined_parts found.inner found.last found.next found.more
    ∙ ap (λ (b : List ℕ). joined (found.inner ++ found.last ∷ []) ++ b) found.body_is in
    record {
      first = first;
      inner = found.inner;
      last = found.last;
      bytes_are =
          is ∙ ap (λ (r : List ℕ). first ++ 10 ∷ r) behind
          ∙ sym (append_assoc first (10 ∷ joined (found.inner ++ found.last ∷ [])) body);
      begins = begins;
      inner_lines = λ i d lt. record {
        no_feed =
            subst IsClean (get_or_append_left found.inner (found.last ∷ found.next ∷ found.more) d i lt)
            (clean i d (omega (arith, within found.inner (found.next ∷ found.more) found.last)));
        short = found.short i d lt;
      };
      last_line = record {
        no_feed =
            subst IsClean (get_last found.inner (found.next ∷ found.more) found.last [])
            (clean (length found.inner) [] (within found.inner (found.next ∷ found.more) found.last));
        short = found.last_short;
      };
      few = omega (arith, found.few);
      leads = found.leads;
      ends = found.ends;
    }

by_return : (bytes : List ℕ) (head : Header) (body : List ℕ) (b : Bool) → b ≡ starts_with nat_eq bytes (codes "ply\r\n")
    → cond b (header_from 2 None (parts_of (drop 5 bytes))) (Err NotPly) ≡ whole_and head body → HasHeader bytes head body
by_return bytes head body true is e =
    text_has (codes "ply\r") (drop 5 bytes) bytes head body (inr refl)
    ((starts_is Decides-eqb bytes (codes "ply\r\n") true is).0 refl) (lines_found 2 None (parts_of (drop 5 bytes)) head body e)
by_return bytes head body false is e = absurd cc

by_plain : (bytes : List ℕ) (head : Header) (body : List ℕ) (b : Bool) → b ≡ starts_with nat_eq bytes (codes "ply\n")
    → cond b (header_from 2 None (parts_of (drop 4 bytes)))
    (cond (starts_with nat_eq bytes (codes "ply\r\n")) (header_from 2 None (parts_of (drop 5 bytes))) (Err NotPly))
    ≡ whole_and head body → HasHeader bytes head body
by_plain bytes head body true is e =
    text_has (codes "ply") (drop 4 bytes) bytes head body (inl refl)
    ((starts_is Decides-eqb bytes (codes "ply\n") true is).0 refl) (lines_found 2 None (parts_of (drop 4 bytes)) head body e)
by_plain bytes head body false is e = by_return bytes head body (starts_with nat_eq bytes (codes "ply\r\n")) refl e

-- a text whose header is read has that header
pub header_found : (bytes : List ℕ) (head : Header) (body : List ℕ) → header_of bytes ≡ whole_and head body
    → HasHeader bytes head body
unfolding header_of
header_found bytes head body e = by_plain bytes head body (starts_with nat_eq bytes (codes "ply\n")) refl e
