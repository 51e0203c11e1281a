-- A printed header is read again, whatever body follows.
use Rattle.std.proofs.Common.{◌≡◌, ℕ, zero, suc, ◌≤◌, true, List, [], ◌∷◌, ◌++◌, length, get_or, refl, sym, subst, arith, All}
use Rattle.std.proofs.Common.{codes, inl, length-append}
use Rattle.std.specs.Prelude.{map}
use Rattle.std.specs.List.{list_all, flat_map}
use Rattle.std.proofs.lemmas.List.{get_or_append_left}
use Rattle.std.proofs.lemmas.List.Elements.{All-append, All-cons}
use Rattle.std.proofs.lemmas.List.Concat.{flat_map-cons}
use Rattle.ply_head.specs.declared.header.Property.{Property}
use Rattle.ply_head.specs.declared.header.Element.{Element}
use Rattle.ply_head.specs.declared.header.Header.{Header}
use Rattle.ply_head.specs.Headers.{header_of}
use Rattle.ply_head.specs.Spelling.{element_text, property_text, element_lines, inner_lines, spelling}
use Rattle.ply_head.specs.Grammar.{HasHeader}
use Rattle.ply_head.specs.Readable.{IsReadableProperty, IsReadableElement, IsReadable, KeepsLimits}
use Rattle.ply_head.proofs.LoopLemmas.{whole_and}
use Rattle.ply_head.proofs.GrammarLemmas.{header_read}
use Rattle.ply_head.proofs.SpellingReads.{is_plain, line_plain, format_plain, element_plain, property_plain, end_plain}
use Rattle.ply_head.proofs.SpellingReads.{end_says}
use Rattle.ply_head.proofs.SpellingLeads.{printed_leads}

-- a line of printed characters
abbrev IsPlain : List ℕ → Type 0
IsPlain line = list_all is_plain line ≡ true

properties_plain : (ps : List Property) → All IsReadableProperty ps → All IsPlain (map property_text ps)
properties_plain [] readable i d lt = absurd (omega arith)
properties_plain (p ∷ ps) readable zero d lt = property_plain p (readable 0 p (omega arith)).name
properties_plain (p ∷ ps) readable (suc i) d lt =
    properties_plain ps (λ j e less. readable (suc j) e (omega arith)) i d (omega arith)

elements_plain : (es : List Element) → All IsReadableElement es → All IsPlain (flat_map element_lines es)
elements_plain [] readable = λ i d lt. absurd (omega arith)
elements_plain (e ∷ es) readable =
    let first : IsReadableElement e = readable 0 e (omega arith) in
    let lines : All IsPlain (element_lines e) =
    All-cons IsPlain (element_text e.name e.count) (map property_text e.properties)
    (element_plain e.name e.count first.name first.count) (properties_plain e.properties first.properties) in
    let rest : All IsPlain (flat_map element_lines es) = elements_plain es (λ j x less. readable (suc j) x (omega arith)) in
    subst (All IsPlain) (sym (flat_map-cons element_lines e es))
    (All-append IsPlain (element_lines e) (flat_map element_lines es) lines rest)

inner_plain : (head : Header) → IsReadable head → All IsPlain (inner_lines head)
inner_plain head is = grind (arith, format_plain, elements_plain)

inner_short : (head : Header) → KeepsLimits head → All (λ line. length line ≤ 1000) (inner_lines head)
inner_short head keeps i d lt =
    subst (λ line. length line ≤ 1000) (get_or_append_left (inner_lines head) (codes "end_header" ∷ []) d i lt)
    (keeps.short (suc i) d (omega (arith, length-append (inner_lines head) (codes "end_header" ∷ []))))

printed_has : (head : Header) (body : List ℕ) → IsReadable head → KeepsLimits head → HasHeader (spelling head ++ body) head body
unfolding spelling
printed_has head body is keeps = record {
  first = codes "ply";
  inner = inner_lines head;
  last = codes "end_header";
  bytes_are = refl;
  begins = inl refl;
  inner_lines =
      λ i d lt. line_plain (get_or (inner_lines head) i d) (inner_plain head is i d lt) (inner_short head keeps i d lt);
  last_line = line_plain (codes "end_header") end_plain (omega arith);
  few = omega (arith, keeps.few, length-append (inner_lines head) (codes "end_header" ∷ []));
  leads = printed_leads head is;
  ends = end_says;
}

pub printed_read : (head : Header) (body : List ℕ) → IsReadable head → KeepsLimits head
    → header_of (spelling head ++ body) ≡ whole_and head body
printed_read head body is keeps = header_read (spelling head ++ body) head body (printed_has head body is keeps)
