-- The options of `finish`, which are given one after another.
--
--   limited most number, whole_number most result, limited_in most text
--                                      the number that digits state, from 1 to `most`
--   without_flips, with_split, without_comments, with_key_number o word, with_option o word, with_options o words
--                                      the options that arguments are, one after another, each at most once
--   first_number given number          a number, if none is given yet
--   with_pieces, with_steps, with_within   the options with a number more, if it is not given yet
--   smoothing_given steps within       how a mesh is smoothed, if both numbers are given or neither
--   options_given o                    the options that have this smoothing
--   finish_options words               the options that the arguments after the names are
use Rattle.std.specs.Prelude.{ℕ, List, [], ◌∷◌, if◌then◌else◌, true, false, Option, Some, None, codes, drop, nat_le, nat_eq, ◌&&◌}
use Rattle.std.specs.Prelude.{ℤ, Result, Ok, Err, unsigned_abs}
use Rattle.std.specs.Char.{is_ascii_digit}
use Rattle.std.specs.List.{starts_with, list_all}
use Rattle.std.specs.Option.{option_and_then, option_map}
use Rattle.std.specs.Str.{bytes_eq}
use Rattle.num_text.specs.WholeNumbers.{whole_of}
use Rattle.num_text.specs.declared.refusal.NumRefusal.{NumRefusal}
use Rattle.finish_options.specs.declared.options.SmoothOptions.{SmoothOptions}
use Rattle.finish_options.specs.declared.options.TheConstants.{MOST_STEPS, FARTHEST}
use Rattle.mesh_cmd.specs.declared.options.FinishRequest.{FinishRequest}
use Rattle.mesh_cmd.specs.declared.options.GivenOptions.{GivenOptions}

-- a number from 1 to `most`
abbrev pub limited : (most : ℕ) → ℕ → Option ℕ
limited most number = if nat_le 1 number && nat_le number most then Some number else None

abbrev pub whole_number : (most : ℕ) → Result ℤ NumRefusal → Option ℕ
whole_number most (Ok number) = limited most (unsigned_abs number)
whole_number most (Err why) = None

-- the number from 1 to `most` that digits are
abbrev pub limited_in : (most : ℕ) → List ℕ → Option ℕ
limited_in most text = if list_all is_ascii_digit text then whole_number most (whole_of text) else None

abbrev pub without_flips : GivenOptions → Option GivenOptions
without_flips o = if o.flips then Some (record o { flips = false }) else None

abbrev pub with_split : GivenOptions → Option GivenOptions
with_split o = if o.manifold then None else Some (record o { manifold = true })

abbrev pub without_comments : GivenOptions → Option GivenOptions
without_comments o = if o.comments then Some (record o { comments = false }) else None

-- a number, if none is given yet
abbrev pub first_number : (given : Option ℕ) → ℕ → Option ℕ
first_number None number = Some number
first_number (Some given) number = None

abbrev pub with_pieces : GivenOptions → ℕ → Option GivenOptions
with_pieces o number = option_map (λ n. record o { pieces = Some n }) (first_number o.pieces number)

abbrev pub with_steps : GivenOptions → ℕ → Option GivenOptions
with_steps o number = option_map (λ n. record o { steps = Some n }) (first_number o.steps number)

abbrev pub with_within : GivenOptions → ℕ → Option GivenOptions
with_within o number = option_map (λ n. record o { within = Some n }) (first_number o.within number)

-- The options with the number in `KEY=N`, if it is one that is not given yet: how many pieces are kept, which fits 32 bits, how many steps
-- of smoothing there are, at most a hundred, and how far points move, at most as far as the box reaches from its middle.
abbrev pub with_key_number : GivenOptions → List ℕ → Option GivenOptions
with_key_number o word =
    if starts_with nat_eq word (codes "pieces=") then option_and_then (with_pieces o) (limited_in 4294967295 (drop 7 word))
    else if starts_with nat_eq word (codes "smooth=") then option_and_then (with_steps o) (limited_in MOST_STEPS (drop 7 word))
    else if starts_with nat_eq word (codes "within=") then option_and_then (with_within o) (limited_in FARTHEST (drop 7 word))
    else None

-- the options with that of an argument, if it is one that is not given yet
abbrev pub with_option : GivenOptions → List ℕ → Option GivenOptions
with_option o word =
    if bytes_eq word (codes "flips=no") then without_flips o
    else if bytes_eq word (codes "manifold=yes") then with_split o
    else if bytes_eq word (codes "comments=no") then without_comments o
    else with_key_number o word

-- the options with those of all arguments, each at most once
abbrev pub with_options : GivenOptions → List (List ℕ) → Option GivenOptions
with_options o [] = Some o
with_options o (word ∷ words) = option_and_then (λ more. with_options more words) (with_option o word)

-- how a mesh is smoothed, if both numbers are given or neither
abbrev pub smoothing_given : (steps within : Option ℕ) → Option (Option SmoothOptions)
smoothing_given None None = Some None
smoothing_given (Some steps) (Some within) = Some (Some (record { steps = steps; within = within }))
smoothing_given None (Some within) = None
smoothing_given (Some steps) None = None

-- the options that are given so
abbrev pub options_given : GivenOptions → Option FinishRequest
options_given o =
    option_map (λ smoothing.
    record {
      options = record { pieces = o.pieces; manifold = o.manifold; flips = o.flips; smoothing = smoothing };
      comments = o.comments;
    })
    (smoothing_given o.steps o.within)

-- no argument
abbrev pub none_given : GivenOptions
none_given = record { pieces = None; manifold = false; flips = true; steps = None; within = None; comments = true }

-- the options that the arguments after the names are
abbrev pub finish_options : List (List ℕ) → Option FinishRequest
finish_options words = option_and_then options_given (with_options none_given words)
