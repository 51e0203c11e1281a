-- Lines one after another.
use Rattle.std.proofs.Common.{◌≡◌, ℕ, ◌+◌, ◌<◌, List, [], ◌∷◌, ◌++◌, length, get_or, take, refl, sym, ap, ◌∙◌, append_assoc}
use Rattle.std.proofs.Common.{codes}
use Rattle.std.specs.Prelude.{map}
use Rattle.std.specs.List.{flat_map}
use Rattle.std.proofs.lemmas.List.{take_more, append-nil, map-append}
use Rattle.std.proofs.lemmas.List.Concat.{flat_map-cons}
use Rattle.std.proofs.lemmas.Grind.{flat_map-append}
use Rattle.ply_head.specs.declared.header.Header.{Header}
use Rattle.ply_head.specs.Spelling.{joined, format_text, element_lines, spelling}

pub joined-append : (xs ys : List (List ℕ)) → joined (xs ++ ys) ≡ joined xs ++ joined ys
joined-append [] ys = refl
joined-append (x ∷ xs) ys =
    ap (λ (r : List ℕ). x ++ 10 ∷ r) (joined-append xs ys) ∙ sym (append_assoc x (10 ∷ joined xs) (joined ys))

joined_map_more : {X : Type 0} (f : X → List ℕ) (xs : List X) (x : X)
    → joined (map f (xs ++ x ∷ [])) ≡ joined (map f xs) ++ (f x ++ 10 ∷ [])
joined_map_more f xs x = ap joined (map-append f xs (x ∷ [])) ∙ joined-append (map f xs) (f x ∷ [])

joined_flat_map_more : {X : Type 0} (f : X → List (List ℕ)) (xs : List X) (x : X)
    → joined (flat_map f (xs ++ x ∷ [])) ≡ joined (flat_map f xs) ++ joined (f x)
joined_flat_map_more f xs x =
    ap joined (flat_map-append f xs (x ∷ [])) ∙ joined-append (flat_map f xs) (flat_map f (x ∷ []))
    ∙ ap (λ (r : List (List ℕ)). joined (flat_map f xs) ++ joined r) (flat_map-cons f x [] ∙ append-nil (f x))

-- one line more is printed
pub one_line_more : {X : Type 0} (f : X → List ℕ) (old text new : List ℕ) (xs : List X) (i : ℕ) (x : X) → i < length xs
    → x ≡ get_or xs i x
    → text ≡ old ++ joined (map f (take i xs)) → new ≡ text ++ (f x ++ 10 ∷ []) → new ≡ old ++ joined (map f (take (i + 1) xs))
one_line_more f old text new xs i x lt is so_far more =
    more ∙ ap (λ (r : List ℕ). r ++ (f x ++ 10 ∷ [])) so_far ∙ append_assoc old (joined (map f (take i xs))) (f x ++ 10 ∷ [])
    ∙ ap (λ (r : List ℕ). old ++ r)
    (sym (joined_map_more f (take i xs) x) ∙ ap (λ (d : _). joined (map f (take i xs ++ d ∷ []))) is
    ∙ ap (λ (r : List _). joined (map f r)) (sym (take_more xs i x lt)))

-- some lines more are printed
pub lines_more : {X : Type 0} (f : X → List (List ℕ)) (old text new : List ℕ) (xs : List X) (i : ℕ) (x : X) → i < length xs
    → x ≡ get_or xs i x
    → text ≡ old ++ joined (flat_map f (take i xs)) → new ≡ text ++ joined (f x)
    → new ≡ old ++ joined (flat_map f (take (i + 1) xs))
lines_more f old text new xs i x lt is so_far more =
    more ∙ ap (λ (r : List ℕ). r ++ joined (f x)) so_far ∙ append_assoc old (joined (flat_map f (take i xs))) (joined (f x))
    ∙ ap (λ (r : List ℕ). old ++ r)
    (sym (joined_flat_map_more f (take i xs) x) ∙ ap (λ (d : _). joined (flat_map f (take i xs ++ d ∷ []))) is
    ∙ ap (λ (r : List _). joined (flat_map f r)) (sym (take_more xs i x lt)))

-- the parts of the printed header, one after another
pub header_printed : (head : Header) (first second third whole : List ℕ) → first ≡ codes "ply\n"
    → second ≡ first ++ (format_text head.kind ++ 10 ∷ [])
    → third ≡ second ++ joined (flat_map element_lines head.elements) → whole ≡ third ++ codes "end_header" ++ 10 ∷ []
    → whole ≡ spelling head
unfolding spelling
header_printed head first second third whole ply format elements end =
    end ∙ ap (λ (r : List ℕ). r ++ codes "end_header" ++ 10 ∷ [])
    (elements ∙ ap (λ (r : List ℕ). r ++ joined (flat_map element_lines head.elements))
    (format ∙ ap (λ (r : List ℕ). r ++ (format_text head.kind ++ 10 ∷ [])) ply))
    ∙ ap (λ (r : List ℕ). codes "ply\n" ++ r) (arranged (format_text head.kind) (flat_map element_lines head.elements))
  where
    arranged : (line : List ℕ) (rows : List (List ℕ))
        → (((line ++ 10 ∷ []) ++ joined rows) ++ codes "end_header") ++ 10 ∷ []
        ≡ line ++ 10 ∷ joined (rows ++ codes "end_header" ∷ [])
    arranged line rows =
        append_assoc ((line ++ 10 ∷ []) ++ joined rows) (codes "end_header") (10 ∷ [])
        ∙ append_assoc (line ++ 10 ∷ []) (joined rows) (codes "end_header" ++ 10 ∷ [])
        ∙ append_assoc line (10 ∷ []) (joined rows ++ (codes "end_header" ++ 10 ∷ []))
        ∙ ap (λ (r : List ℕ). line ++ 10 ∷ r) (sym (joined-append rows (codes "end_header" ∷ [])))
