-- The options of `simplify`, which are given one after another.
--
--   with_distance o number, with_faces o number   the options with a number more, if it is not given yet
--   with_surface o                 the options with all points, if they are not given yet
--   with_moves o                   the options with vertices that move, if they are not given yet
--   unstated o                     the options without comments, if they have them
--   with_number_of o word, with_argument o word, with_arguments o words
--                                  the options that arguments are, one after another, each at most once
--   request_of o                   what is asked for by these options, if a distance is given
--   simplify_request words         what the arguments after the names ask for
use Rattle.std.specs.Prelude.{ℕ, List, [], ◌∷◌, if◌then◌else◌, true, false, Option, Some, None, codes, drop, nat_eq}
use Rattle.std.specs.List.{starts_with}
use Rattle.std.specs.Option.{option_and_then, option_map}
use Rattle.std.specs.Str.{bytes_eq}
use Rattle.finish_options.specs.declared.options.TheConstants.{FARTHEST}
use Rattle.mesh_cmd.specs.Options.{first_number, limited_in}
use Rattle.mesh_cmd.specs.declared.simplify_request.SimplifyRequest.{SimplifyRequest}
use Rattle.mesh_cmd.specs.declared.simplify_request.GivenNumbers.{GivenNumbers}

abbrev pub with_distance : GivenNumbers → ℕ → Option GivenNumbers
with_distance o number = option_map (λ n. record o { within = Some n }) (first_number o.within number)

abbrev pub with_faces : GivenNumbers → ℕ → Option GivenNumbers
with_faces o number = option_map (λ n. record o { faces = Some n }) (first_number o.faces number)

abbrev pub with_surface : GivenNumbers → Option GivenNumbers
with_surface o = if o.surface then None else Some (record o { surface = true })

abbrev pub with_moves : GivenNumbers → Option GivenNumbers
with_moves o = if o.moves then None else Some (record o { moves = true })

abbrev pub unstated : GivenNumbers → Option GivenNumbers
unstated o = if o.comments then Some (record o { comments = false }) else None

-- The options with the number in `KEY=N`, if it is one that is not given yet: how far corners may be from the mesh, at most as far as the
-- box reaches from its middle, and how many faces are left, which fits 32 bits.
abbrev pub with_number_of : GivenNumbers → List ℕ → Option GivenNumbers
with_number_of o word =
    if starts_with nat_eq word (codes "within=") then option_and_then (with_distance o) (limited_in FARTHEST (drop 7 word))
    else if starts_with nat_eq word (codes "faces=") then option_and_then (with_faces o) (limited_in 4294967295 (drop 6 word))
    else None

-- the options with that of an argument, if it is one that is not given yet
abbrev pub with_argument : GivenNumbers → List ℕ → Option GivenNumbers
with_argument o word =
    if bytes_eq word (codes "comments=no") then unstated o
    else if bytes_eq word (codes "surface=yes") then with_surface o
    else if bytes_eq word (codes "move=yes") then with_moves o
    else with_number_of o word

-- the options with those of all arguments, each at most once
abbrev pub with_arguments : GivenNumbers → List (List ℕ) → Option GivenNumbers
with_arguments o [] = Some o
with_arguments o (word ∷ words) = option_and_then (λ more. with_arguments more words) (with_argument o word)

-- a number of faces, 0 if none is given
abbrev pub faces_or_none : Option ℕ → ℕ
faces_or_none None = 0
faces_or_none (Some n) = n

-- what is asked for, if a distance is given
abbrev pub request_of : GivenNumbers → Option SimplifyRequest
request_of o =
    option_map
    (λ within. record {
      options = record { within = within; faces = faces_or_none o.faces; surface = o.surface; moves = o.moves };
      comments = o.comments;
    }) o.within

-- no argument
abbrev pub no_numbers : GivenNumbers
no_numbers = record { within = None; faces = None; surface = false; moves = false; comments = true }

-- what the arguments after the names ask for
abbrev pub simplify_request : List (List ℕ) → Option SimplifyRequest
simplify_request words = option_and_then request_of (with_arguments no_numbers words)
