-- The reader and the grammar agree: where lines lead to a header, it is read.
use Rattle.std.proofs.Common.{◌≡◌, ℕ, zero, suc, ◌+◌, ◌≤◌, false, List, [], ◌∷◌, ◌++◌, length, Option, Some, None, Result, Ok}
use Rattle.std.proofs.Common.{refl, sym, ap, ◌∙◌, arith, All, codes, append_assoc, inl, inr, ◌⊎◌}
use Rattle.std.proofs.lemmas.Bool.{le-ltb}
use Rattle.std.proofs.lemmas.List.Splits.{slice_split_at}
use Rattle.ply_head.specs.declared.header.Header.{Header}
use Rattle.ply_head.specs.declared.header.Element.{Element}
use Rattle.ply_head.specs.declared.header.Property.{Property}
use Rattle.ply_head.specs.declared.refusal.HeadRefusal.{HeadRefusal}
use Rattle.ply_head.specs.Lines.{parts_of, is_line_feed, line_text}
use Rattle.ply_head.specs.Statements.{Statement, nothing, format, element, property, finish}
use Rattle.ply_head.specs.Answers.{◌>>=◌}
use Rattle.ply_head.specs.Headers.{with_property, step_of, Step, goes, ends, header_from, header_of}
use Rattle.ply_head.specs.Reading.{line_at}
use Rattle.ply_head.specs.Spelling.{joined}
use Rattle.ply_head.specs.Grammar.{Says, Adds, AddsProperty, Leads, IsLine, HasHeader}
use Rattle.ply_head.proofs.HeadLemmas.{Parts, line_and, some_part, with_property_last}
use Rattle.ply_head.proofs.LoopLemmas.{whole_and, step_goes, step_ends}

abbrev goes_on : Option Header → Result Step HeadRefusal
goes_on next = Ok (goes next)

abbrev goes_with : Header → List Element → Result Step HeadRefusal
goes_with head elements = Ok (goes (Some (record head { elements = elements })))

-- ---- what a statement adds is what the step makes

property_step : (n : ℕ) (head : Header) (p : Property) (after : Option Header) → AddsProperty head p after
    → (with_property n p head.elements >>= goes_with head) ≡ goes_on after
property_step n head p after a = grind (arith, with_property_last)

pub adds_step : (n : ℕ) (before after : Option Header) (s : Statement) → Adds before s after
    → step_of n before (Some s) ≡ goes_on after
unfolding step_of
adds_step n None after nothing a = ap goes_on (sym a)
adds_step n (Some head) after nothing a = ap goes_on (sym a)
adds_step n None after (format kind) a = ap goes_on (sym a)
adds_step n None after (element name count) a = absurd a
adds_step n None after (property name shape) a = absurd a
adds_step n None after finish a = absurd a
adds_step n (Some head) after (format kind) a = absurd a
adds_step n (Some head) after (element name count) a = rw a.is_new (ap goes_on (sym a.is))
adds_step n (Some head) after (property name shape) a = property_step n head (record { name = name; shape = shape }) after a
adds_step n (Some head) after finish a = absurd a

-- ---- a line at the front

ended : (line rest : List ℕ) → All (λ b. is_line_feed b ≡ false) line → parts_of (line ++ 10 ∷ rest) ≡ line ∷ parts_of rest
unfolding parts_of
ended line rest all = slice_split_at is_line_feed line 10 rest all refl

line_is_text : (n : ℕ) (line first : List ℕ) (more : List (List ℕ)) → length (line_text line) ≤ 1000
    → line_at n (line ∷ first ∷ more) ≡ line_and (line_text line) (first ∷ more)
line_is_text n line first more le = rw (le-ltb 1000 (length (line_text line)) le) refl

line_taken : (n : ℕ) (line rest : List ℕ) → IsLine line
    → line_at n (parts_of (line ++ 10 ∷ rest)) ≡ line_and (line_text line) (parts_of rest)
line_taken n line rest is =
    let part : Parts rest zero = some_part rest in
    ap (line_at n) (ended line rest is.no_feed ∙ ap (λ (ps : List (List ℕ)). line ∷ ps) part.is)
    ∙ line_is_text n line part.first part.more is.short ∙ ap (line_and (line_text line)) (sym part.is)

line_step : (n : ℕ) (before after : Option Header) (s : Statement) (line rest : List ℕ) → n ≤ 1000 → IsLine line → Says line s
    → Adds before s after
    → header_from n before (parts_of (line ++ 10 ∷ rest)) ≡ header_from (n + 1) after (parts_of rest)
line_step n before after s line rest le is says adds =
    sym (step_goes n before after (parts_of (line ++ 10 ∷ rest)) (line_text line) (parts_of rest)
    (header_from n before (parts_of (line ++ 10 ∷ rest))) le (line_taken n line rest is)
    (ap (step_of n before) says ∙ adds_step n before after s adds) refl)

finish_step : (n : ℕ) (head : Header) → step_of n (Some head) (Some finish) ≡ Ok (ends head)
unfolding step_of
finish_step n head = refl

last_step : (n : ℕ) (head : Header) (line body : List ℕ) → n ≤ 1000 → IsLine line → Says line finish
    → header_from n (Some head) (parts_of (line ++ 10 ∷ body)) ≡ whole_and head body
last_step n head line body le is says =
    step_ends n (Some head) head (parts_of (line ++ 10 ∷ body)) (line_text line) body
    (header_from n (Some head) (parts_of (line ++ 10 ∷ body))) le (line_taken n line body is)
    (ap (step_of n (Some head)) says ∙ finish_step n head) refl

-- ---- all lines

pub lines_read : (n : ℕ) (before : Option Header) (inner : List (List ℕ)) (last body : List ℕ) (head : Header)
    → n + length inner ≤ 1000 → All IsLine inner → IsLine last → Leads before inner (Some head) → Says last finish
    → header_from n before (parts_of (joined (inner ++ last ∷ []) ++ body)) ≡ whole_and head body
lines_read n before [] last body head le all is leads says = grind (arith, append_assoc, last_step)
lines_read n before (line ∷ inner) last body head le all is leads says =
    ap (λ (text : List ℕ). header_from n before (parts_of text)) (append_assoc line (10 ∷ joined (inner ++ last ∷ [])) body)
    ∙ line_step n before leads.0 leads.1.0 line (joined (inner ++ last ∷ []) ++ body) (omega arith) (all 0 line (omega arith))
    leads.1.1.0 leads.1.1.1
    ∙ lines_read (n + 1) leads.0 inner last body head (omega arith) (λ i d lt. all (suc i) d (omega arith)) is leads.1.1.2 says

plain_begin : (rest : List ℕ) → header_of (codes "ply\n" ++ rest) ≡ header_from 2 None (parts_of rest)
unfolding header_of
plain_begin rest = refl

return_begin : (rest : List ℕ) → header_of (codes "ply\r\n" ++ rest) ≡ header_from 2 None (parts_of rest)
unfolding header_of
return_begin rest = refl

begun : (first : List ℕ) (rest : List ℕ) → (first ≡ codes "ply") ⊎ (first ≡ codes "ply\r")
    → header_of (first ++ 10 ∷ rest) ≡ header_from 2 None (parts_of rest)
begun first rest (inl plain) = ap (λ (f : List ℕ). header_of (f ++ 10 ∷ rest)) plain ∙ plain_begin rest
begun first rest (inr return) = ap (λ (f : List ℕ). header_of (f ++ 10 ∷ rest)) return ∙ return_begin rest

-- a text that has a header is read so
pub header_read : (bytes : List ℕ) (head : Header) (body : List ℕ) → HasHeader bytes head body
    → header_of bytes ≡ whole_and head body
header_read bytes head body h = grind (arith, append_assoc, begun, lines_read)
