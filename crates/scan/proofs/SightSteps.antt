-- The sights of a row, added one after another, and how many they are.
use Rattle.std.proofs.Common.{◌≡◌, ℕ, zero, suc, ◌+◌, ◌≤◌, List, [], ◌∷◌, ◌++◌, length, Result, Ok, Err, refl, sym, ap, subst}
use Rattle.std.proofs.Common.{◌∙◌, arith, append_assoc}
use Rattle.std.proofs.lemmas.List.{append-nil}
use Rattle.ply_head.specs.Answers.{◌>>=◌}
use Rattle.ply_head.proofs.Answers.{done}
use Rattle.ply_head.specs.declared.header.Kind.{Kind}
use Rattle.ply_head.specs.declared.header.Kind.TheVariants.{Ascii, BinaryLittle, BinaryBig}
use Rattle.ply_head.specs.declared.header.Scalar.{Scalar}
use Rattle.ply_head.specs.declared.header.Shape.TheVariants.{Many}
use Rattle.ply_head.specs.declared.refusal.HeadRefusal.TheVariants as heads
use Rattle.ply_rows.specs.declared.place.Field.{Field}
use Rattle.ply_rows.specs.Items.{items_from, HasItems}
use Rattle.ply_rows.specs.Readers.{IsFieldOf}
use Rattle.ply_rows.proofs.ItemLemmas.{items_count}
use Rattle.scan.specs.declared.refusal.ScanRefusal.{ScanRefusal}
use Rattle.scan.specs.declared.refusal.ScanRefusal.TheVariants as refusals
use Rattle.scan_rows.specs.declared.scan.Seen.{Seen}
use Rattle.scan.specs.ScanRefusals.{Fails}
use Rattle.scan_rows.specs.Shown.{sights_in_row}
use Rattle.scan.specs.Found.{Body, values_in, each_of}

abbrev Named : Type 0
Named = Result (List ℕ) ScanRefusal

abbrev Sights : Type 0
Sights = Result (List Seen) ScanRefusal

-- sights, and then those of a row from the scanners that it names
abbrev pub seen_behind : List Seen → ℕ → ℕ → Named → Sights
seen_behind seen row weight named = named >>= λ ks. done (seen ++ sights_in_row row weight ks)

abbrev a_sight : ℕ → ℕ → ℕ → Seen
a_sight row weight k = record { row = row; scanner = k; weight = weight }

abbrev with_first : ℕ → Named → Named
with_first k named = named >>= λ others. Ok (k ∷ others)

one_more : (seen : List Seen) (row weight k : ℕ) (named : Named)
    → seen_behind (seen ++ a_sight row weight k ∷ []) row weight named ≡ seen_behind seen row weight (with_first k named)
one_more seen row weight k (Ok others) = ap done (append_assoc seen (a_sight row weight k ∷ []) (sights_in_row row weight others))
one_more seen row weight k (Err why) = refl

first_read : (read : List ℕ → Result ℕ ScanRefusal) (items others : List (List ℕ)) (first : List ℕ) → items ≡ first ∷ others
    → each_of read items ≡ (read first >>= λ k. with_first k (each_of read others))
first_read read items others first is = ap (each_of read) is

-- a sight more
pub named_taken : (read : List ℕ → Result ℕ ScanRefusal) (seen more : List Seen) (row weight k : ℕ) (first : List ℕ)
    (items others : List (List ℕ)) (total : Sights) → items ≡ first ∷ others → read first ≡ Ok k
    → more ≡ seen ++ (record { row = row; scanner = k; weight = weight }) ∷ []
    → seen_behind seen row weight (each_of read items) ≡ total → seen_behind more row weight (each_of read others) ≡ total
named_taken read seen more row weight k first items others total is first_is more_is so_far =
    grind (arith, one_more, first_read)

-- the first of the names that are left is refused
pub named_refused : (why : ScanRefusal) (read : List ℕ → Result ℕ ScanRefusal) (before seen : List Seen) (row weight : ℕ)
    (first : List ℕ) (items others : List (List ℕ)) (named : Named) → items ≡ first ∷ others → Fails why (read first)
    → seen_behind seen row weight (each_of read items) ≡ seen_behind before row weight named → Fails why named
named_refused refusals.NoMemory read before seen row weight first items others named is fails so_far = tt
named_refused (refusals.Head heads.NoMemory) read before seen row weight first items others named is fails so_far = fails
named_refused why read before seen row weight first items others named is fails so_far = grind (arith, first_read)

-- no name is left
pub all_named : (read : List ℕ → Result ℕ ScanRefusal) (seen : List Seen) (row weight : ℕ) (items : List (List ℕ))
    (total : Sights) → items ≡ [] → seen_behind seen row weight (each_of read items) ≡ total → total ≡ Ok seen
all_named read seen row weight items total none so_far =
    sym so_far ∙ ap (λ (xs : List (List ℕ)). seen_behind seen row weight (each_of read xs)) none ∙ ap done (append-nil seen)

pub no_items : (kind : Kind) (item : Scalar) (body : List ℕ) (place n : ℕ) → n ≤ 0 → items_from kind item body place n ≡ []
no_items Ascii item body place zero none = refl
no_items BinaryLittle item body place zero none = refl
no_items BinaryBig item body place zero none = refl
no_items kind item body place (suc n) none = absurd (omega arith)

-- ---- the field of the scanners

pub list_there : (kind : Kind) (count item : Scalar) (body : List ℕ) (field : Field)
    → IsFieldOf kind body (Many count item) field → HasItems kind item body field.place field.items
list_there Ascii count item body field is = is.tokens
list_there BinaryLittle count item body field is = subst (λ (n : ℕ). field.place + n ≤ length body) is.size is.inside
list_there BinaryBig count item body field is = subst (λ (n : ℕ). field.place + n ≤ length body) is.size is.inside

-- a list has as many items as its field says
pub list_count : (body : Body) (count item : Scalar) (field : Field) → IsFieldOf body.kind body.bytes (Many count item) field
    → field.items ≡ length (values_in body (Many count item) field)
list_count body count item field is =
    sym (items_count body.kind item body.bytes field.place field.items (list_there body.kind count item body.bytes field is))
