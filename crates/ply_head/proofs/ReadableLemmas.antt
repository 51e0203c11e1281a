-- What holds of each header that lines lead to.
--
-- What the words of a line say has names of visible bytes, counts that fit 32 bits, and lists that are counted in whole
-- numbers (told, by the first word of the line). Each line adds one element or one property at most, under a name that is
-- new where it is added (added, by the statement). So after k lines a header has at most k elements and each element at most
-- k properties, whose names differ in pairs (SoFar); lines_keep carries that from line to line, and readable_has ends it
-- with the most lines that a header has.
use Rattle.std.proofs.Common.{◌≡◌, ◌≢◌, ℕ, suc, ◌+◌, ◌<◌, ◌≤◌, Bool, true, false, cond, List, [], ◌∷◌, ◌++◌, length, get_or}
use Rattle.std.proofs.Common.{Option, Some, None, refl, sym, ap, subst, arith, All, codes, inl, inr, ◌⊎◌, length-append}
use Rattle.std.specs.Prelude.{AllPairs, filter}
use Rattle.std.specs.List.{list_any, slice_split}
use Rattle.std.specs.Str.{bytes_eq}
use Rattle.std.proofs.lemmas.Bool.Decides.{nat_tests}
use Rattle.std.proofs.lemmas.Slice.Eq.{bytes_eq-Decides}
use Rattle.std.proofs.lemmas.List.{get_or_append_left}
use Rattle.std.proofs.lemmas.List.Elements.{All-append, All-cons, filter_passes}
use Rattle.std.proofs.lemmas.List.Folds.{list_any_at}
use Rattle.std.proofs.lemmas.List.Quantifiers.{all_pairs_push}
use Rattle.std.proofs.lemmas.Option.{same_Some}
use Rattle.ply_head.specs.declared.header.Scalar.{Scalar}
use Rattle.ply_head.specs.declared.header.Scalar.TheVariants.{Char, Uchar, Short, Ushort, Int, Uint, Float, Double}
use Rattle.ply_head.specs.declared.header.Shape.TheVariants.{One, Many}
use Rattle.ply_head.specs.declared.header.Property.{Property}
use Rattle.ply_head.specs.declared.header.Element.{Element}
use Rattle.ply_head.specs.declared.header.Header.{Header}
use Rattle.ply_head.specs.Lines.{words_of, is_blank, has_bytes, line_text}
use Rattle.ply_head.specs.Optional.{◌>>=◌}
use Rattle.ply_head.specs.Statements.{Statement, nothing, format, element, property, finish, either_word, scalar_of}
use Rattle.ply_head.specs.Statements.{whole_scalar, count_of, name_of, format_line, element_line, property_line, finish_line}
use Rattle.ply_head.specs.Statements.{statement_of_words}
use Rattle.ply_head.specs.Headers.{has_property, has_element}
use Rattle.ply_head.specs.Grammar.{Adds, AddsProperty, Leads, HasHeader}
use Rattle.ply_head.specs.Readable.{IsName, HasWholeCount, IsReadableProperty, IsReadable}
use Rattle.ply_head.proofs.Optional.{bind_some}
use Rattle.ply_head.proofs.SpellingLeads.{before_here}

-- ---- what a statement's words tell

guard_some : {A : Type 0} (b : Bool) (o : Option A) (y : A) → cond b o None ≡ Some y → (b ≡ true) × (o ≡ Some y)
guard_some true o y e = (refl, e)
guard_some false o y e = absurd cc

choice : {A : Type 0} (b : Bool) (x y : Option A) (s : A) → cond b x y ≡ Some s → (x ≡ Some s) ⊎ (y ≡ Some s)
choice true x y s e = inl e
choice false x y s e = inr e

abbrev Stated : Statement → Type 0
Stated nothing = Unit {0}
Stated (format kind) = Unit {0}
Stated (element name count) = IsName name × (count ≤ 4294967295)
Stated (property name shape) = IsName name × HasWholeCount shape
Stated finish = Unit {0}

name_told : (word name : List ℕ) → 0 < length word → name_of word ≡ Some name → IsName name
unfolding name_of
name_told word name some e = grind (arith, guard_some)

count_told : (word : List ℕ) (count : ℕ) → count_of word ≡ Some count → count ≤ 4294967295
unfolding count_of
count_told word count e = grind (arith, nat_tests, guard_some)

whole_told : (scalar count : Scalar) → whole_scalar scalar ≡ Some count → whole_scalar count ≡ Some count
whole_told Char count e = subst (λ s. whole_scalar s ≡ Some s) (same_Some Char count e) refl
whole_told Uchar count e = subst (λ s. whole_scalar s ≡ Some s) (same_Some Uchar count e) refl
whole_told Short count e = subst (λ s. whole_scalar s ≡ Some s) (same_Some Short count e) refl
whole_told Ushort count e = subst (λ s. whole_scalar s ≡ Some s) (same_Some Ushort count e) refl
whole_told Int count e = subst (λ s. whole_scalar s ≡ Some s) (same_Some Int count e) refl
whole_told Uint count e = subst (λ s. whole_scalar s ≡ Some s) (same_Some Uint count e) refl
whole_told Float count e = absurd cc
whole_told Double count e = absurd cc

format_told : (words : List (List ℕ)) (s : Statement) → format_line words ≡ Some s → Stated s
unfolding format_line
format_told [] s e = absurd cc
format_told (a ∷ []) s e = absurd cc
format_told (kind ∷ version ∷ []) s e = grind (arith, guard_some, bind_some)
format_told (a ∷ b ∷ c ∷ words) s e = absurd cc

element_told : (words : List (List ℕ)) (s : Statement) → All (λ w. 0 < length w) words → element_line words ≡ Some s → Stated s
unfolding element_line
element_told [] s some e = absurd cc
element_told (a ∷ []) s some e = absurd cc
element_told (name ∷ count ∷ []) s some e =
    let b = bind_some (name_of name) (λ n. count_of count >>= λ c. Some (element n c)) s e in
    let c = bind_some (count_of count) (λ c. Some (element b.0 c)) s b.2 in
    subst Stated (same_Some (element b.0 c.0) s c.2)
    (name_told name b.0 (some 0 name (omega arith)) b.1, count_told count c.0 c.1)
element_told (a ∷ b ∷ c ∷ words) s some e = absurd cc

property_told : (words : List (List ℕ)) (s : Statement) → All (λ w. 0 < length w) words → property_line words ≡ Some s
    → Stated s
unfolding property_line
property_told [] s some e = absurd cc
property_told (a ∷ []) s some e = absurd cc
property_told (type ∷ name ∷ []) s some e =
    let b = bind_some (scalar_of type) (λ scalar. name_of name >>= λ n. Some (property n (One scalar))) s e in
    let c = bind_some (name_of name) (λ n. Some (property n (One b.0))) s b.2 in
    subst Stated (same_Some (property c.0 (One b.0)) s c.2) (name_told name c.0 (some 1 name (omega arith)) c.1, tt)
property_told (a ∷ b ∷ c ∷ []) s some e = absurd cc
property_told (list ∷ count ∷ item ∷ name ∷ []) s some e =
    let g =
    guard_some (bytes_eq list (codes "list"))
    (scalar_of count >>= λ t. whole_scalar t >>= λ w. scalar_of item >>= λ i. name_of name
    >>= λ n. Some (property n (Many w i))) s e in
    let t =
    bind_some (scalar_of count)
    (λ t. whole_scalar t >>= λ w. scalar_of item >>= λ i. name_of name >>= λ n. Some (property n (Many w i))) s g.1 in
    let w =
    bind_some (whole_scalar t.0) (λ w. scalar_of item >>= λ i. name_of name >>= λ n. Some (property n (Many w i))) s t.2 in
    let i = bind_some (scalar_of item) (λ i. name_of name >>= λ n. Some (property n (Many w.0 i))) s w.2 in
    let n = bind_some (name_of name) (λ n. Some (property n (Many w.0 i.0))) s i.2 in
    subst Stated (same_Some (property n.0 (Many w.0 i.0)) s n.2)
    (name_told name n.0 (some 3 name (omega arith)) n.1, whole_told t.0 w.0 w.1)
property_told (a ∷ b ∷ c ∷ d ∷ f ∷ words) s some e = absurd cc

finish_told : (words : List (List ℕ)) (s : Statement) → finish_line words ≡ Some s → Stated s
unfolding finish_line
finish_told [] s e = subst Stated (same_Some finish s e) tt
finish_told (a ∷ words) s e = absurd cc

told : (words : List (List ℕ)) (s : Statement) → All (λ w. 0 < length w) words → statement_of_words words ≡ Some s → Stated s
unfolding statement_of_words
told [] s some e = subst Stated (same_Some nothing s e) tt
told (word ∷ words) s some e =
    let rest : All (λ w. 0 < length w) words = λ i d lt. some (suc i) d (omega arith) in
    elim (choice (either_word word (codes "comment") (codes "obj_info")) (Some nothing) _ s e) [
      | inl skipped ↦ subst Stated (same_Some nothing s skipped) tt
      | inr e1 ↦ elim (choice (bytes_eq word (codes "format")) (format_line words) _ s e1) [
        | inl is ↦ format_told words s is
        | inr e2 ↦ elim (choice (bytes_eq word (codes "element")) (element_line words) _ s e2) [
          | inl is ↦ element_told words s rest is
          | inr e3 ↦ elim (choice (bytes_eq word (codes "property")) (property_line words) _ s e3) [
            | inl is ↦ property_told words s rest is
            | inr e4 ↦ finish_told words s (guard_some (bytes_eq word (codes "end_header")) (finish_line words) s e4).1
          ]
        ]
      ]
    ]

some_bytes : (word : List ℕ) → has_bytes word ≡ true → 0 < length word
some_bytes [] e = absurd cc
some_bytes (b ∷ bytes) e = omega arith

words_some : (line : List ℕ) → All (λ w. 0 < length w) (words_of line)
unfolding words_of
words_some line i d lt =
    some_bytes (get_or (filter has_bytes (slice_split is_blank line)) i d)
    (filter_passes has_bytes (slice_split is_blank line) i d lt)

-- ---- what holds of the header so far, after k lines

record IsElement (k : ℕ) (e : Element) : Type 0 where
  name : IsName e.name
  count : e.count ≤ 4294967295
  few : length e.properties ≤ k
  properties : All IsReadableProperty e.properties
  apart : AllPairs (λ p q. p.name ≢ q.name) e.properties

record IsSoFar (k : ℕ) (head : Header) : Type 0 where
  few : length head.elements ≤ k
  elements : All (IsElement k) head.elements
  apart : AllPairs (λ d e. d.name ≢ e.name) head.elements

abbrev SoFar : ℕ → Option Header → Type 0
SoFar k None = Unit {0}
SoFar k (Some head) = IsSoFar k head

element_later : (k : ℕ) (e : Element) → IsElement k e → IsElement (k + 1) e
element_later k e is =
    record { name = is.name; count = is.count; few = omega (arith, is.few); properties = is.properties; apart = is.apart }

later : (k : ℕ) (before : Option Header) → SoFar k before → SoFar (k + 1) before
later k None is = tt
later k (Some head) is = grind (arith, element_later)

not_there : {X : Type 0} (p : X → Bool) (xs : List X) (i : ℕ) (d : X) → list_any p xs ≡ false → i < length xs
    → p (get_or xs i d) ≡ true → ⊥
not_there p xs i d none lt passes = let there : list_any p xs ≡ true = list_any_at p xs i d lt passes in cc

element_added : (k : ℕ) (head : Header) (name : List ℕ) (count : ℕ) → IsSoFar k head → IsName name → count ≤ 4294967295
    → has_element name head.elements ≡ false
    → IsSoFar (k + 1) (record head { elements = head.elements ++ record { name = name; count = count; properties = [] } ∷ [] })
element_added k head name count is named counted new =
    let added : Element = record { name = name; count = count; properties = [] } in
    record {
      few = omega (arith, is.few, length-append head.elements (added ∷ []));
      elements =
          All-append (IsElement (k + 1)) head.elements (added ∷ [])
          (λ i d lt. element_later k (get_or head.elements i d) (is.elements i d lt))
          (All-cons (IsElement (k + 1)) added []
          (record {
            name = named;
            count = counted;
            few = omega arith;
            properties = λ i d lt. absurd (omega arith);
            apart = λ i j d lt le. absurd (omega arith);
          }) (λ i d lt. absurd (omega arith)));
      apart = all_pairs_push (λ d e. d.name ≢ e.name) head.elements added is.apart
          (λ i d lt same. not_there (λ e. bytes_eq e.name name) head.elements i d new lt
          ((bytes_eq-Decides (get_or head.elements i d).name name).1 same));
    }

-- the last of some elements, and those before it
at_end : {X : Type 0} (P : X → Type 0) (xs : List X) (x : X) → All P (xs ++ x ∷ []) → P x
at_end P [] x all = all 0 x (omega arith)
at_end P (y ∷ xs) x all = at_end P xs x (λ i d lt. all (suc i) d (omega arith))

shorter : {X : Type 0} (xs ys : List X) (i : ℕ) → i < length xs → i < length (xs ++ ys)
shorter xs ys i lt = omega (arith, length-append xs ys)

all_front : {X : Type 0} (P : X → Type 0) (xs ys : List X) → All P (xs ++ ys) → All P xs
all_front P xs ys all i d lt = subst P (get_or_append_left xs ys d i lt) (all i d (shorter xs ys i lt))

pairs_front : {X : Type 0} (R : X → X → Type 0) (xs ys : List X) → AllPairs R (xs ++ ys) → AllPairs R xs
pairs_front R xs ys pairs i j d lt within =
    let here : R (get_or (xs ++ ys) i d) (get_or (xs ++ ys) j d) = pairs i j d lt (shorter xs ys j within) in
    subst (λ a. R a (get_or xs j d)) (get_or_append_left xs ys d i (omega arith))
    (subst (λ b. R (get_or (xs ++ ys) i d) b) (get_or_append_left xs ys d j within) here)

with_last : (k : ℕ) (e : Element) (p : Property) → IsElement k e → IsReadableProperty p
    → has_property p.name e.properties ≡ false → IsElement (k + 1) (record e { properties = e.properties ++ p ∷ [] })
with_last k e p is readable new = record {
  name = is.name;
  count = is.count;
  few = omega (arith, is.few, length-append e.properties (p ∷ []));
  properties =
      All-append IsReadableProperty e.properties (p ∷ []) is.properties
      (All-cons IsReadableProperty p [] readable (λ i d lt. absurd (omega arith)));
  apart = all_pairs_push (λ p q. p.name ≢ q.name) e.properties p is.apart
      (λ i d lt same. not_there (λ q. bytes_eq q.name p.name) e.properties i d new lt
      ((bytes_eq-Decides (get_or e.properties i d).name p.name).1 same));
}

property_added : (k : ℕ) (head : Header) (p : Property) (after : Option Header) → IsSoFar k head → IsReadableProperty p
    → AddsProperty head p after → SoFar (k + 1) after
property_added k head p after is readable a =
    let changed : Element = record a.last { properties = a.last.properties ++ p ∷ [] } in
    let elements : All (IsElement k) (a.front ++ a.last ∷ []) = subst (All (IsElement k)) a.is_last is.elements in
    let apart : AllPairs (λ d e. d.name ≢ e.name) (a.front ++ a.last ∷ []) =
    subst (AllPairs (λ d e. d.name ≢ e.name)) a.is_last is.apart in
    let front : All (IsElement k) a.front = all_front (IsElement k) a.front (a.last ∷ []) elements in
    subst (SoFar (k + 1)) (sym a.is) (record {
      few =
          omega (arith, is.few, ap length a.is_last, length-append a.front (a.last ∷ []), length-append a.front (changed ∷ []));
      elements =
          All-append (IsElement (k + 1)) a.front (changed ∷ []) (λ i d lt. element_later k (get_or a.front i d) (front i d lt))
          (All-cons (IsElement (k + 1)) changed []
          (with_last k a.last p (at_end (IsElement k) a.front a.last elements) readable a.is_new)
          (λ i d lt. absurd (omega arith)));
      apart =
          all_pairs_push (λ d e. d.name ≢ e.name) a.front changed
          (pairs_front (λ d e. d.name ≢ e.name) a.front (a.last ∷ []) apart)
          (λ i d lt. before_here (λ d e. d.name ≢ e.name) a.front [] a.last apart i d lt);
    })

added : (k : ℕ) (before after : Option Header) (s : Statement) → Stated s → Adds before s after → SoFar k before
    → SoFar (k + 1) after
added k None after nothing stated a is = subst (SoFar (k + 1)) (sym a) tt
added k (Some head) after nothing stated a is = subst (SoFar (k + 1)) (sym a) (later k (Some head) is)
added k None after (format kind) stated a is = grind arith
added k None after (element name count) stated a is = absurd a
added k None after (property name shape) stated a is = absurd a
added k None after finish stated a is = absurd a
added k (Some head) after (format kind) stated a is = absurd a
added k (Some head) after (element name count) stated a is =
    subst (SoFar (k + 1)) (sym a.is) (element_added k head name count is stated.0 stated.1 a.is_new)
added k (Some head) after (property name shape) stated a is =
    property_added k head (record { name = name; shape = shape }) after is (record { name = stated.0; count = stated.1 }) a
added k (Some head) after finish stated a is = absurd a

lines_keep : (k : ℕ) (before : Option Header) (lines : List (List ℕ)) (head : Header) → Leads before lines (Some head)
    → SoFar k before → IsSoFar (k + length lines) head
lines_keep k before [] head leads is = subst (λ n. IsSoFar n head) (omega arith) (subst (SoFar k) (sym leads) is)
lines_keep k before (line ∷ lines) head leads is =
    let stated : Stated leads.1.0 = told (words_of (line_text line)) leads.1.0 (words_some (line_text line)) leads.1.1.0 in
    subst (λ n. IsSoFar n head) (omega arith)
    (lines_keep (k + 1) leads.0 lines head leads.1.1.2 (added k before leads.0 leads.1.0 stated leads.1.1.1 is))

pub readable_has : (bytes : List ℕ) (head : Header) (body : List ℕ) → HasHeader bytes head body → IsReadable head
readable_has bytes head body h =
    let is : IsSoFar (0 + length h.inner) head = lines_keep 0 None h.inner head h.leads tt in
    record {
      few = omega (arith, is.few, h.few);
      elements = λ i d lt. let e = is.elements i d lt in
          record {
            name = e.name;
            count = e.count;
            few = omega (arith, e.few, h.few);
            properties = e.properties;
            apart = e.apart;
          };
      apart = is.apart;
    }
