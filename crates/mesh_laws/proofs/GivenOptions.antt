-- The numbers of options that arguments are are in their ranges, and the two names of `finish` differ.
use Rattle.std.proofs.Common.{ℕ, ◌≡◌, ◌≢◌, ◌-◌, ◌^◌, ◌&&◌, ◌==◌, not, nat_le, arith, refl, sym, subst, if◌then◌else◌, codes, drop}
use Rattle.std.proofs.Common.{ℤ, Result, Ok, Err, Bool, true, false, List, [], ◌∷◌, length, Option, Some, None, IfSome, unsigned_abs, nat_eq}
use Rattle.std.specs.Bool.{⊤}
use Rattle.std.specs.Char.{is_ascii_digit}
use Rattle.std.specs.List.{list_all, starts_with}
use Rattle.std.specs.Option.{option_and_then, option_map}
use Rattle.std.specs.Str.{bytes_eq}
use Rattle.std.proofs.lemmas.Bool.{and_parts, not-true}
use Rattle.std.proofs.lemmas.Bool.Decides.{nat_tests}
use Rattle.std.proofs.lemmas.Slice.Eq.{bytes_eq-Decides}
use Rattle.geo_sign.specs.Numbers.{IsBetween}
use Rattle.num_text.specs.WholeNumbers.{whole_of}
use Rattle.num_text.specs.declared.refusal.NumRefusal.{NumRefusal}
use Rattle.finish_options.specs.declared.options.SmoothOptions.{SmoothOptions}
use Rattle.finish_options.specs.declared.options.TheConstants.{MOST_STEPS, FARTHEST}
use Rattle.mesh_provenance.specs.Options.{AreOptions, IsSmoothing}
use Rattle.command_run.specs.Words.{Names, are_names, is_name, is_other}
use Rattle.mesh_cmd.specs.Commands.{Asked, finish, move, simplify, join, inspect, check, command_of, finish_of, move_of, simplify_of}
use Rattle.mesh_cmd.specs.Commands.{join_of, inspect_of, confirm_of}
use Rattle.mesh_cmd.specs.Moving.{move_request}
use Rattle.mesh_cmd.specs.Options.{limited, whole_number, limited_in, first_number}
use Rattle.mesh_cmd.specs.Options.{with_pieces, with_steps, with_within, with_option, with_options, smoothing_given, options_given}
use Rattle.mesh_cmd.specs.Options.{none_given, finish_options}
use Rattle.mesh_cmd.specs.SimplifyRequests.{simplify_request}
use Rattle.mesh_cmd.specs.declared.options.FinishRequest.{FinishRequest}

-- ---- numbers
limited_range : (most number : ℕ) → IfSome (limited most number) (IsBetween 1 most)
limited_range most number = by_cases (nat_le 1 number && nat_le number most) refl
  where
    by_cases : (b : Bool) → (nat_le 1 number && nat_le number most) ≡ b → IfSome (if b then Some number else None) (IsBetween 1 most)
    by_cases false is = tt
    by_cases true is =
        let parts = and_parts (nat_le 1 number) (nat_le number most) is in
        (grind (arith, nat_tests, parts.0), grind (arith, nat_tests, parts.1))

whole_range : (most : ℕ) (found : Result ℤ NumRefusal) → IfSome (whole_number most found) (IsBetween 1 most)
whole_range most (Ok number) = limited_range most (unsigned_abs number)
whole_range most (Err why) = tt

limited_in_range : (most : ℕ) (text : List ℕ) → IfSome (limited_in most text) (IsBetween 1 most)
limited_in_range most text = by_cases (list_all is_ascii_digit text)
  where
    by_cases : (b : Bool) → IfSome (if b then whole_number most (whole_of text) else None) (IsBetween 1 most)
    by_cases false = tt
    by_cases true = whole_range most (whole_of text)

-- ---- options
-- The type of options as they are given is private, so it is left to be inferred.
--
-- the numbers that are given are in their ranges
record AreInRange (pieces steps within : Option ℕ) : Type 0 where
  pieces_in : IfSome pieces (IsBetween 1 (2 ^ 32 - 1))
  steps_in : IfSome steps (IsBetween 1 MOST_STEPS)
  within_in : IfSome within (IsBetween 1 FARTHEST)

pick : {A : Type 0} (P : A → Type 0) (b : Bool) (x y : Option A) → IfSome x P → IfSome y P → IfSome (if b then x else y) P
pick P true x y h k = h
pick P false x y h k = k

numbered : {A : Type 0} (P : A → Type 0) (f : ℕ → Option A) (most : ℕ) (found : Option ℕ) → IfSome found (IsBetween 1 most)
    → ((n : ℕ) → IsBetween 1 most n → IfSome (f n) P) → IfSome (option_and_then f found) P
numbered P f most None h each = tt
numbered P f most (Some n) h each = each n h

-- a number is given, and none was before
first_in : {A : Type 0} (P : A → Type 0) (f : ℕ → A) (given : Option ℕ) (n : ℕ) → P (f n)
    → IfSome (option_map f (first_number given n)) P
first_in P f None n h = h
first_in P f (Some k) n h = tt

option_in : (o : _) (word : List ℕ) (found : Option _) → found ≡ with_option o word → AreInRange o.pieces o.steps o.within
    → IfSome found (λ p. AreInRange p.pieces p.steps p.within)
option_in o word found is h =
    subst (λ given. IfSome given (λ p. AreInRange p.pieces p.steps p.within)) (sym is)
    (pick _ (bytes_eq word (codes "flips=no")) _ _ (pick _ o.flips _ _ h tt)
    (pick _ (bytes_eq word (codes "manifold=yes")) _ _ (pick _ o.manifold _ _ tt h)
    (pick _ (bytes_eq word (codes "comments=no")) _ _ (pick _ o.comments _ _ h tt)
    (pick _ (starts_with nat_eq word (codes "pieces=")) _ _
    (numbered _ (with_pieces o) 4294967295 _ (limited_in_range 4294967295 (drop 7 word))
    (λ n k. first_in _ _ o.pieces n (record { pieces_in = k; steps_in = h.steps_in; within_in = h.within_in })))
    (pick _ (starts_with nat_eq word (codes "smooth=")) _ _
    (numbered _ (with_steps o) MOST_STEPS _ (limited_in_range MOST_STEPS (drop 7 word))
    (λ n k. first_in _ _ o.steps n (record { pieces_in = h.pieces_in; steps_in = k; within_in = h.within_in })))
    (pick _ (starts_with nat_eq word (codes "within=")) _ _
    (numbered _ (with_within o) FARTHEST _ (limited_in_range FARTHEST (drop 7 word))
    (λ n k. first_in _ _ o.within n (record { pieces_in = h.pieces_in; steps_in = h.steps_in; within_in = k }))) tt))))))

all_in : (words : List (List ℕ)) (o : _) (found : Option _) → found ≡ with_options o words
    → AreInRange o.pieces o.steps o.within → IfSome found (λ p. AreInRange p.pieces p.steps p.within)
all_in [] o found is h = subst (λ given. IfSome given (λ p. AreInRange p.pieces p.steps p.within)) (sym is) h
all_in (word ∷ words) o found is h =
    subst (λ given. IfSome given (λ p. AreInRange p.pieces p.steps p.within)) (sym is)
    (then_in _ _ (λ more. with_options more words) (with_option o word) (option_in o word (with_option o word) refl h)
    (λ more k. all_in words more (with_options more words) refl k))
  where
    then_in : {A B : Type 0} (P : A → Type 0) (Q : B → Type 0) (f : A → Option B) (found : Option A) → IfSome found P
        → ((a : A) → P a → IfSome (f a) Q) → IfSome (option_and_then f found) Q
    then_in P Q f None h each = tt
    then_in P Q f (Some a) h each = each a h

smoothing_in : (steps within : Option ℕ) → IfSome steps (IsBetween 1 MOST_STEPS) → IfSome within (IsBetween 1 FARTHEST)
    → IfSome (smoothing_given steps within) IsSmoothing
smoothing_in None None h k = tt
smoothing_in (Some n) (Some m) h k = (h, k)
smoothing_in None (Some m) h k = tt
smoothing_in (Some n) None h k = tt

-- the options of a request are in their ranges
abbrev HasOptions : FinishRequest → Type 0
HasOptions request = AreOptions request.options

given_in : (o : _) (found : Option FinishRequest) → found ≡ options_given o → AreInRange o.pieces o.steps o.within
    → IfSome found HasOptions
given_in o found is h =
    subst (λ (given : Option FinishRequest). IfSome given HasOptions) (sym is)
    (by_cases (smoothing_given o.steps o.within) (smoothing_in o.steps o.within h.steps_in h.within_in))
  where
    by_cases : (smoothed : Option (Option SmoothOptions)) → IfSome smoothed IsSmoothing
        → IfSome
        (option_map (λ smoothing.
        record {
          options = record { pieces = o.pieces; manifold = o.manifold; flips = o.flips; smoothing = smoothing };
          comments = o.comments;
        }) smoothed) HasOptions
    by_cases None k = tt
    by_cases (Some smoothing) k = record { pieces = h.pieces_in; smoothing = k }

request_in : (words : List (List ℕ)) → IfSome (finish_options words) HasOptions
request_in words =
    next (with_options none_given words)
    refl (all_in words none_given (with_options none_given words) refl (record { pieces_in = tt; steps_in = tt; within_in = tt }))
  where
    next : (found : _) → with_options none_given words ≡ found → IfSome found (λ o. AreInRange o.pieces o.steps o.within)
        → IfSome (option_and_then options_given found) HasOptions
    next None is h = tt
    next (Some o) is h = given_in o (options_given o) refl h

-- ---- the command
-- the options of `finish` are in their ranges, and its names differ
pub record IsGiven (names : Names) (request : FinishRequest) : Type 0 where
  pub options : AreOptions request.options
  pub apart : names.input ≢ names.output

-- the same, if the command is `finish`
abbrev Fits : Asked → Type 0
Fits (finish names request) = IsGiven names request
Fits _ = ⊤

chosen : (b : Bool) (x y : Option Asked) → IfSome x Fits → IfSome y Fits → IfSome (if b then x else y) Fits
chosen true x y h k = h
chosen false x y h k = k

made_of : {A : Type 0} (f : A → Asked) (found : Option A) → ((a : A) → Fits (f a)) → IfSome (option_map f found) Fits
made_of f None each = tt
made_of f (Some a) each = each a

names_apart : (a b : List ℕ) → are_names (a ∷ b ∷ []) ≡ true → a ≢ b
names_apart a b e same =
    let others : is_other a (b ∷ []) ≡ true =
    (and_parts (not (length a == 0)) (is_other a (b ∷ [])) (and_parts (is_name a (b ∷ [])) (are_names (b ∷ [])) e).0).1 in
    let differs : bytes_eq a b ≡ false = not-true (bytes_eq a b) (and_parts (not (bytes_eq a b)) true others).0 in
    grind (arith, bytes_eq-Decides a b)

finish_in : (words : List (List ℕ)) → IfSome (finish_of words) Fits
finish_in [] = tt
finish_in (mesh ∷ []) = tt
finish_in (mesh ∷ output ∷ options) = by_cases (are_names (mesh ∷ output ∷ [])) refl
  where
    make : FinishRequest → Asked
    make = finish (record { input = mesh; output = output })

    with_request : are_names (mesh ∷ output ∷ []) ≡ true → (found : Option FinishRequest) → IfSome found HasOptions
        → IfSome (option_map make found) Fits
    with_request e None h = tt
    with_request e (Some request) h = record { options = h; apart = names_apart mesh output e }

    by_cases : (b : Bool) → are_names (mesh ∷ output ∷ []) ≡ b
        → IfSome (if b then option_map make (finish_options options) else None) Fits
    by_cases false e = tt
    by_cases true e = with_request e (finish_options options) (request_in options)

move_in : (words : List (List ℕ)) → IfSome (move_of words) Fits
move_in [] = tt
move_in (mesh ∷ []) = tt
move_in (mesh ∷ targets ∷ []) = tt
move_in (mesh ∷ targets ∷ output ∷ options) =
    chosen (are_names (mesh ∷ targets ∷ output ∷ [])) _ _ (made_of _ (move_request options) (λ a. tt)) tt

simplify_in : (words : List (List ℕ)) → IfSome (simplify_of words) Fits
simplify_in [] = tt
simplify_in (mesh ∷ []) = tt
simplify_in (mesh ∷ output ∷ options) =
    chosen (are_names (mesh ∷ output ∷ [])) _ _ (made_of _ (simplify_request options) (λ a. tt)) tt

inspect_in : (words : List (List ℕ)) → IfSome (inspect_of words) Fits
inspect_in [] = tt
inspect_in (mesh ∷ []) = chosen (are_names (mesh ∷ [])) _ _ tt tt
inspect_in (mesh ∷ other ∷ words) = tt

check_in : (words : List (List ℕ)) → IfSome (confirm_of words) Fits
check_in [] = tt
check_in (mesh ∷ []) = tt
check_in (mesh ∷ finished ∷ []) = chosen (are_names (mesh ∷ finished ∷ [])) _ _ tt tt
check_in (mesh ∷ finished ∷ other ∷ words) = tt

join_in : (words : List (List ℕ)) → IfSome (join_of words) Fits
join_in [] = tt
join_in (tiles ∷ []) = tt
join_in (tiles ∷ output ∷ []) = chosen (are_names (tiles ∷ output ∷ [])) _ _ tt tt
join_in (tiles ∷ output ∷ other ∷ words) = tt

command_in : (words : List (List ℕ)) → IfSome (command_of words) Fits
command_in [] = tt
command_in (word ∷ words) =
    chosen (bytes_eq word (codes "finish")) _ _ (finish_in words)
    (chosen (bytes_eq word (codes "move")) _ _ (move_in words)
    (chosen (bytes_eq word (codes "simplify")) _ _ (simplify_in words)
    (chosen (bytes_eq word (codes "join")) _ _ (join_in words)
    (chosen (bytes_eq word (codes "inspect")) _ _ (inspect_in words)
    (chosen (bytes_eq word (codes "check")) _ _ (check_in words) tt)))))

pub finish_given : (words : List (List ℕ)) (names : Names) (request : FinishRequest) → command_of words ≡ Some (finish names request)
    → IsGiven names request
finish_given words names request e = subst (λ (found : Option Asked). IfSome found Fits) e (command_in words)
