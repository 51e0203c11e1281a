-- The fields of a row, one after another.
use Rattle.std.proofs.Common.{◌≡◌, ℕ, ◌+◌, ◌<◌, ◌≤◌, List, [], ◌∷◌, ◌++◌, length, get_or, drop, Result, Ok, Err, refl, sym, ap}
use Rattle.std.proofs.Common.{◌∙◌, append_assoc}
use Rattle.std.proofs.lemmas.List.{drop_more, drop_all, append-nil}
use Rattle.ply_head.specs.declared.header.Property.{Property}
use Rattle.ply_head.specs.Answers.{◌>>=◌}
use Rattle.ply_rows.specs.declared.place.Field.{Field}
use Rattle.ply_rows.specs.declared.place.Place.{Place}
use Rattle.ply_rows.specs.declared.refusal.RowRefusal.{RowRefusal}
use Rattle.ply_rows.specs.declared.refusal.RowRefusal.TheVariants.{NoMemory}
use Rattle.ply_rows.specs.Rests.{Rest, field_of, fields_of}
use Rattle.ply_rows.specs.Texts.{Fails}

abbrev pub FieldsRead : Type 0
FieldsRead = Result (List Field × Rest) RowRefusal

abbrev pub fields_and : List Field → Rest → FieldsRead
fields_and fields tokens = Ok (fields, tokens)

-- what was read before, and what is still read
abbrev pub with_front : List Field → FieldsRead → FieldsRead
with_front front read = read >>= λ x. fields_and (front ++ x.0) x.1

regroup : (front : List Field) (f : Field) (read : FieldsRead)
    → with_front front (read >>= λ x. fields_and (f ∷ x.0) x.1) ≡ with_front (front ++ f ∷ []) read
regroup front f (Ok x) = ap (λ (fs : List Field). fields_and fs x.1) (simp append_assoc)
regroup front f (Err e) = refl

abbrev at_property : ℕ → ℕ → ℕ → Place
at_property e r i = record { element = e; row = r; property = i }

here : (properties : List Property) (i : ℕ) (p : Property) → i < length properties → p ≡ get_or properties i p
    → drop i properties ≡ p ∷ drop (i + 1) properties
here properties i p lt is = drop_more properties i p lt ∙ ap (λ (q : Property). q ∷ drop (i + 1) properties) (sym is)

pub fields_more : (e r i : ℕ) (properties : List Property) (p : Property) (tokens behind : Rest) (front : List Field)
    (f : Field) (total : FieldsRead) → i < length properties → p ≡ get_or properties i p
    → field_of (at_property e r i) p.shape tokens ≡ Ok (f, behind)
    → with_front front (fields_of e r i (drop i properties) tokens) ≡ total
    → with_front (front ++ f ∷ []) (fields_of e r (i + 1) (drop (i + 1) properties) behind) ≡ total
unfolding fields_of
fields_more e r i properties p tokens behind front f total lt is h so_far =
    let one : with_front front (fields_of e r i (drop i properties) tokens)
    ≡ with_front (front ++ f ∷ []) (fields_of e r (i + 1) (drop (i + 1) properties) behind) =
    rw (here properties i p lt is, h) (regroup front f (fields_of e r (i + 1) (drop (i + 1) properties) behind)) in
    sym one ∙ so_far

pub fields_fail : (why : RowRefusal) (e r i : ℕ) (properties : List Property) (p : Property) (tokens : Rest)
    (front : List Field) (total : FieldsRead) → i < length properties → p ≡ get_or properties i p
    → Fails why (field_of (at_property e r i) p.shape tokens)
    → with_front front (fields_of e r i (drop i properties) tokens) ≡ total → Fails why total
unfolding fields_of
fields_fail NoMemory e r i properties p tokens front total lt is h so_far = tt
fields_fail why e r i properties p tokens front total lt is h so_far =
    let one : with_front front (fields_of e r i (drop i properties) tokens) ≡ Err why =
    rw (here properties i p lt is, h) refl in
    sym so_far ∙ one

pub fields_done : (e r i : ℕ) (properties : List Property) (tokens : Rest) (front : List Field) (total : FieldsRead)
    → length properties ≤ i → with_front front (fields_of e r i (drop i properties) tokens) ≡ total → total ≡ Ok (front, tokens)
unfolding fields_of
fields_done e r i properties tokens front total le so_far =
    let one : with_front front (fields_of e r i (drop i properties) tokens) ≡ Ok (front, tokens) =
    rw (drop_all i properties le) (ap (λ (fs : List Field). fields_and fs tokens) (append-nil front)) in
    sym so_far ∙ one
