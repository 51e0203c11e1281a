-- What each printed line of a header says: the statement that it was printed for.
--
-- Printed lines are plain, that is of visible bytes and spaces, so they have no LF and no CR to be dropped (line_plain,
-- text_same), and are cut into words at their spaces (next_word, last_word). The words are read as what they were printed
-- from: a kind, a type, a name, a count (kind_read, scalar_read, name_read, count_read). Both together give what `format`,
-- `element`, `property` and `end_header` lines say.
use Rattle.std.proofs.Common.{◌≡◌, ℕ, zero, suc, ◌<◌, ◌≤◌, Bool, true, false, leb, eqb, ◌&&◌, List, [], ◌∷◌, ◌++◌, length, Some}
use Rattle.std.proofs.Common.{refl, ap, ◌∙◌, arith, All, codes, decimal, append_assoc}
use Rattle.std.specs.Prelude.{nat_le}
use Rattle.std.specs.List.{list_all}
use Rattle.std.specs.Char.{is_ascii_digit}
use Rattle.std.proofs.lemmas.Bool.Decides.{nat_tests}
use Rattle.std.proofs.lemmas.Fmt.{decimal_is_IsNumeral, length-decimal-le}
use Rattle.std.proofs.lemmas.List.Folds.{list_all-append}
use Rattle.std.proofs.lemmas.Bool.{and_parts}
use Rattle.num_text.proofs.PrintedLemmas.{decimal_digits}
use Rattle.ply_head.specs.declared.header.Kind.{Kind}
use Rattle.ply_head.specs.declared.header.Kind.TheVariants.{Ascii, BinaryLittle, BinaryBig}
use Rattle.ply_head.specs.declared.header.Scalar.{Scalar}
use Rattle.ply_head.specs.declared.header.Scalar.TheVariants.{Char, Uchar, Short, Ushort, Int, Uint, Float, Double}
use Rattle.ply_head.specs.declared.header.Shape.{Shape}
use Rattle.ply_head.specs.declared.header.Shape.TheVariants.{One, Many}
use Rattle.ply_head.specs.declared.header.Property.{Property}
use Rattle.ply_head.specs.Lines.{is_line_feed, is_blank, line_text, words_of}
use Rattle.ply_head.specs.Statements.{Statement, format, element, property, finish, is_name_byte, kind_of, scalar_of}
use Rattle.ply_head.specs.Statements.{whole_scalar, count_of, name_of, format_line, element_line, property_line, finish_line}
use Rattle.ply_head.specs.Statements.{statement_of_words}
use Rattle.ply_head.specs.Spelling.{kind_name, scalar_name, format_text, element_text, shape_text, property_text}
use Rattle.ply_head.specs.Grammar.{Says, IsLine}
use Rattle.ply_head.specs.Readable.{IsName, HasWholeCount}
use Rattle.ply_head.proofs.WordLemmas.{words_word, words_last}

-- ---- printed bytes

-- a space or a visible character
abbrev pub is_plain : ℕ → Bool
is_plain b = nat_le 32 b && nat_le b 126

visible_plain : (b : ℕ) → is_name_byte b ≡ true → is_plain b ≡ true
visible_plain b e = grind (arith, nat_tests)

visible_whole : (b : ℕ) → is_name_byte b ≡ true → is_blank b ≡ false
visible_whole b e = grind (arith, nat_tests)

digit_visible : (b : ℕ) → is_ascii_digit b ≡ true → is_name_byte b ≡ true
digit_visible b e = grind (arith, nat_tests)

plain_no_feed : (b : ℕ) → is_plain b ≡ true → is_line_feed b ≡ false
plain_no_feed b e = grind (arith, nat_tests)

plain_no_return : (b : ℕ) → is_plain b ≡ true → eqb b 13 ≡ false
plain_no_return b e = grind (arith, nat_tests)

each : (p q : ℕ → Bool) → ((b : ℕ) → p b ≡ true → q b ≡ true) → (bs : List ℕ) → list_all p bs ≡ true → list_all q bs ≡ true
each p q follows [] all = refl
each p q follows (b ∷ bs) all =
    let parts = and_parts (p b) (list_all p bs) all in
    rw (follows b parts.0, each p q follows bs parts.1) refl

none_of : (p q : ℕ → Bool) → ((b : ℕ) → p b ≡ true → q b ≡ false) → (bs : List ℕ) → list_all p bs ≡ true
    → All (λ b. q b ≡ false) bs
none_of p q follows [] all i d lt = absurd (omega arith)
none_of p q follows (b ∷ bs) all zero d lt = follows b (and_parts (p b) (list_all p bs) all).0
none_of p q follows (b ∷ bs) all (suc i) d lt = none_of p q follows bs (and_parts (p b) (list_all p bs) all).1 i d (omega arith)

text_same : (line : List ℕ) → list_all is_plain line ≡ true → line_text line ≡ line
text_same [] all = refl
text_same (b ∷ []) all = rw (plain_no_return b (and_parts (is_plain b) true all).0) refl
text_same (b ∷ c ∷ bs) all =
    ap (λ (r : List ℕ). b ∷ r) (text_same (c ∷ bs) (and_parts (is_plain b) (list_all is_plain (c ∷ bs)) all).1)

pub line_plain : (line : List ℕ) → list_all is_plain line ≡ true → length line ≤ 1000 → IsLine line
line_plain line all le = record {
  no_feed = none_of is_plain is_line_feed plain_no_feed line all;
  short = omega (arith, ap length (text_same line all));
}

-- two plain texts and a space between
spaced : (a b : List ℕ) → list_all is_plain a ≡ true → list_all is_plain b ≡ true → list_all is_plain (a ++ 32 ∷ b) ≡ true
spaced a b first second = list_all-append is_plain a (32 ∷ b) ∙ rw (first, second) refl

-- ---- words

-- a word: some visible characters
record IsWord (word : List ℕ) : Type 0 where
  some : 0 < length word
  visible : list_all is_name_byte word ≡ true

word_plain : (word : List ℕ) → IsWord word → list_all is_plain word ≡ true
word_plain word is = each is_name_byte is_plain visible_plain word is.visible

word_whole : (word : List ℕ) → IsWord word → All (λ b. is_blank b ≡ false) word
word_whole word is = none_of is_name_byte is_blank visible_whole word is.visible

name_word : (name : List ℕ) → IsName name → IsWord name
name_word name is = record { some = is.some; visible = is.visible }

decimal_word : (n : ℕ) → n ≤ 4294967295 → IsWord (decimal n)
decimal_word n le = record {
  some = ((decimal_is_IsNumeral n (omega arith)).0).0;
  visible = each is_ascii_digit is_name_byte digit_visible (decimal n) (decimal_digits n (omega arith));
}

scalar_word : (scalar : Scalar) → IsWord (scalar_name scalar)
scalar_word Char = record { some = omega arith; visible = refl }
scalar_word Uchar = record { some = omega arith; visible = refl }
scalar_word Short = record { some = omega arith; visible = refl }
scalar_word Ushort = record { some = omega arith; visible = refl }
scalar_word Int = record { some = omega arith; visible = refl }
scalar_word Uint = record { some = omega arith; visible = refl }
scalar_word Float = record { some = omega arith; visible = refl }
scalar_word Double = record { some = omega arith; visible = refl }

kind_word : (kind : Kind) → IsWord (kind_name kind)
kind_word Ascii = record { some = omega arith; visible = refl }
kind_word BinaryLittle = record { some = omega arith; visible = refl }
kind_word BinaryBig = record { some = omega arith; visible = refl }

next_word : (word rest : List ℕ) (words : List (List ℕ)) → IsWord word → words_of rest ≡ words
    → words_of (word ++ 32 ∷ rest) ≡ word ∷ words
next_word word rest words is more =
    words_word word 32 rest is.some (word_whole word is) refl ∙ ap (λ (ws : List (List ℕ)). word ∷ ws) more

last_word : (word : List ℕ) → IsWord word → words_of word ≡ word ∷ []
last_word word is = words_last word is.some (word_whole word is)

-- ---- what a printed line says

says_words : (line : List ℕ) (words : List (List ℕ)) (s : Statement) → list_all is_plain line ≡ true → words_of line ≡ words
    → statement_of_words words ≡ Some s → Says line s
says_words line words s all is said =
    ap (λ (t : List ℕ). statement_of_words (words_of t)) (text_same line all) ∙ ap statement_of_words is ∙ said

scalar_read : (scalar : Scalar) → scalar_of (scalar_name scalar) ≡ Some scalar
unfolding scalar_of
scalar_read Char = refl
scalar_read Uchar = refl
scalar_read Short = refl
scalar_read Ushort = refl
scalar_read Int = refl
scalar_read Uint = refl
scalar_read Float = refl
scalar_read Double = refl

kind_read : (kind : Kind) → kind_of (kind_name kind) ≡ Some kind
unfolding kind_of
kind_read Ascii = refl
kind_read BinaryLittle = refl
kind_read BinaryBig = refl

name_read : (name : List ℕ) → IsName name → name_of name ≡ Some name
unfolding name_of
name_read name is = rw is.visible refl

count_read : (n : ℕ) → n ≤ 4294967295 → count_of (decimal n) ≡ Some n
unfolding count_of
count_read n le =
    let numeral = decimal_is_IsNumeral n (omega arith) in
    let some : leb 1 (length (decimal n)) ≡ true = is_le 1 (length (decimal n)) (numeral.0).0 in
    let short : leb (length (decimal n)) 10 ≡ true =
    is_le (length (decimal n)) 10 (length-decimal-le 10 n (omega arith) (omega arith) (omega arith)) in
    rw (some, short, decimal_digits n (omega arith), numeral.1, is_le n 4294967295 le) refl
  where
    is_le : (a b : ℕ) → a ≤ b → leb a b ≡ true
    is_le a b h = grind (arith, nat_tests)

format_word : IsWord (codes "format")
format_word = record { some = omega arith; visible = refl }

version_word : IsWord (codes "1.0")
version_word = record { some = omega arith; visible = refl }

element_word : IsWord (codes "element")
element_word = record { some = omega arith; visible = refl }

property_word : IsWord (codes "property")
property_word = record { some = omega arith; visible = refl }

list_word : IsWord (codes "list")
list_word = record { some = omega arith; visible = refl }

end_word : IsWord (codes "end_header")
end_word = record { some = omega arith; visible = refl }

pub format_plain : (kind : Kind) → list_all is_plain (format_text kind) ≡ true
format_plain kind = grind (arith, spaced, word_plain, kind_word)

format_statement : (kind : Kind) → statement_of_words (codes "format" ∷ kind_name kind ∷ codes "1.0" ∷ []) ≡ Some (format kind)
unfolding statement_of_words format_line
format_statement kind = rw (kind_read kind) refl

pub format_says : (kind : Kind) → Says (format_text kind) (format kind)
format_says kind =
    says_words (format_text kind) (codes "format" ∷ kind_name kind ∷ codes "1.0" ∷ []) (format kind) (format_plain kind)
    (next_word (codes "format") (kind_name kind ++ 32 ∷ codes "1.0") (kind_name kind ∷ codes "1.0" ∷ []) format_word
    (next_word (kind_name kind) (codes "1.0") (codes "1.0" ∷ []) (kind_word kind) (last_word (codes "1.0") version_word)))
    (format_statement kind)

pub element_plain : (name : List ℕ) (count : ℕ) → IsName name → count ≤ 4294967295
    → list_all is_plain (element_text name count) ≡ true
element_plain name count is le = grind (arith, spaced, word_plain, name_word, decimal_word)

element_statement : (name : List ℕ) (count : ℕ) → IsName name → count ≤ 4294967295
    → statement_of_words (codes "element" ∷ name ∷ decimal count ∷ []) ≡ Some (element name count)
unfolding statement_of_words element_line
element_statement name count is le = rw (name_read name is, count_read count le) refl

pub element_says : (name : List ℕ) (count : ℕ) → IsName name → count ≤ 4294967295
    → Says (element_text name count) (element name count)
element_says name count is le =
    says_words (element_text name count) (codes "element" ∷ name ∷ decimal count ∷ []) (element name count)
    (element_plain name count is le)
    (next_word (codes "element") (name ++ 32 ∷ decimal count) (name ∷ decimal count ∷ []) element_word
    (next_word name (decimal count) (decimal count ∷ []) (name_word name is)
    (last_word (decimal count) (decimal_word count le))))
    (element_statement name count is le)

shape_plain : (shape : Shape) → list_all is_plain (shape_text shape) ≡ true
shape_plain (One scalar) = word_plain (scalar_name scalar) (scalar_word scalar)
shape_plain (Many count item) = grind (arith, spaced, word_plain, scalar_word)

pub property_plain : (p : Property) → IsName p.name → list_all is_plain (property_text p) ≡ true
property_plain p is = grind (arith, spaced, shape_plain, word_plain, name_word)

one_statement : (name : List ℕ) (scalar : Scalar) → IsName name
    → statement_of_words (codes "property" ∷ scalar_name scalar ∷ name ∷ []) ≡ Some (property name (One scalar))
unfolding statement_of_words property_line
one_statement name scalar is = rw (scalar_read scalar, name_read name is) refl

many_statement : (name : List ℕ) (count item : Scalar) → IsName name → whole_scalar count ≡ Some count
    → statement_of_words (codes "property" ∷ codes "list" ∷ scalar_name count ∷ scalar_name item ∷ name ∷ [])
    ≡ Some (property name (Many count item))
unfolding statement_of_words property_line
many_statement name count item is whole = rw (scalar_read count, whole, scalar_read item, name_read name is) refl

pub property_says : (name : List ℕ) (shape : Shape) → IsName name → HasWholeCount shape
    → Says (property_text (record { name = name; shape = shape })) (property name shape)
property_says name (One scalar) is whole =
    says_words (property_text (record { name = name; shape = One scalar })) (codes "property" ∷ scalar_name scalar ∷ name ∷ [])
    (property name (One scalar)) (property_plain (record { name = name; shape = One scalar }) is)
    (next_word (codes "property") (scalar_name scalar ++ 32 ∷ name) (scalar_name scalar ∷ name ∷ []) property_word
    (next_word (scalar_name scalar) name (name ∷ []) (scalar_word scalar) (last_word name (name_word name is))))
    (one_statement name scalar is)
property_says name (Many count item) is whole =
    says_words (property_text (record { name = name; shape = Many count item }))
    (codes "property" ∷ codes "list" ∷ scalar_name count ∷ scalar_name item ∷ name ∷ []) (property name (Many count item))
    (property_plain (record { name = name; shape = Many count item }) is)
    (next_word (codes "property") ((codes "list" ++ 32 ∷ (scalar_name count ++ 32 ∷ scalar_name item)) ++ 32 ∷ name)
    (codes "list" ∷ scalar_name count ∷ scalar_name item ∷ name ∷ []) property_word
    (ap words_of (append_assoc (codes "list") (32 ∷ (scalar_name count ++ 32 ∷ scalar_name item)) (32 ∷ name))
    ∙ next_word (codes "list") ((scalar_name count ++ 32 ∷ scalar_name item) ++ 32 ∷ name)
    (scalar_name count ∷ scalar_name item ∷ name ∷ []) list_word
    (ap words_of (append_assoc (scalar_name count) (32 ∷ scalar_name item) (32 ∷ name))
    ∙ next_word (scalar_name count) (scalar_name item ++ 32 ∷ name) (scalar_name item ∷ name ∷ []) (scalar_word count)
    (next_word (scalar_name item) name (name ∷ []) (scalar_word item) (last_word name (name_word name is))))))
    (many_statement name count item is whole)

end_statement : statement_of_words (codes "end_header" ∷ []) ≡ Some finish
unfolding statement_of_words finish_line
end_statement = refl

pub end_says : Says (codes "end_header") finish
end_says = grind (arith, says_words, last_word, end_word, end_statement)

pub end_plain : list_all is_plain (codes "end_header") ≡ true
end_plain = refl
