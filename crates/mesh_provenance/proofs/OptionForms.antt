-- Texts that begin with no valid options.
use Rattle.std.proofs.Common.{ℕ, ◌≡◌, ◌<◌, ◌-◌, ◌^◌, refl, ap, sym, subst, ◌∙◌, arith, true, false, Option, Some, None}
use Rattle.std.proofs.Common.{List, [], ◌∷◌, ◌++◌, length, get_or, take, drop, decimal, length-append}
use Rattle.std.proofs.lemmas.Fmt.{decimal_injective}
use Rattle.std.proofs.lemmas.List.{get_or-append_right, take-append-drop, drop_more, get_or-take, length-take}
use Rattle.line_text.specs.Numbers.{ended, counted, BeginsWithNone}
use Rattle.geo_sign.specs.Numbers.{IsBetween}
use Rattle.line_text.proofs.Codes.{behind_same, ended_code}
use Rattle.finish_options.specs.declared.options.TheConstants.{MOST_STEPS, FARTHEST}
use Rattle.mesh_provenance.specs.Options.{IsSmoothing, AreOptions, pieces_word, split_word, flips_word, steps_word, within_word}
use Rattle.mesh_provenance.specs.Options.{smooth_end, flips_end, split_end, options_end}
use Rattle.mesh_provenance.specs.Tails.{IsStop, IsStopped, IsNumbers, numbers_end, IsFlipsTail, IsSplitTail, IsCounted, counted_end}
use Rattle.mesh_provenance.proofs.OptionCodes.{numbers_parts, no_flips_parts, split_parts, counted_parts, pieces_parts, bare_parts}
use Rattle.mesh_provenance.proofs.OptionCodes.{smooth_not_flips, flips_not_split, split_not_pieces, stopped_split, LacksStops}
use Rattle.mesh_provenance.proofs.OptionCodes.{stop_split, decimal_lacks_stops, number_stopped, split_of, pieces_within}

-- ---- the numbers of smoothing
pub no_steps : (text behind : List ℕ) → text ≡ steps_word ++ behind
    → BeginsWithNone (IsBetween 1 MOST_STEPS) (λ n. ended n 32) behind → BeginsWithNone IsNumbers numbers_end text
no_steps text behind is none =
    λ v r h e. none v.steps _ h.0 (behind_same steps_word _ _ (sym is ∙ (e ∙ numbers_parts v r)))

pub no_within : (text behind last : List ℕ) (n : ℕ) → text ≡ steps_word ++ behind → IsBetween 1 MOST_STEPS n
    → behind ≡ ended n 32 ++ last → BeginsWithNone (IsBetween 1 FARTHEST) (counted within_word) last
    → BeginsWithNone IsNumbers numbers_end text
no_within text behind last n is fits then none = λ v r h e.
    let first =
    ended_code n v.steps 32 last _ (omega arith) (omega (arith, fits.1)) (omega (arith, h.0.1))
    (sym then ∙ behind_same steps_word _ _ (sym is ∙ (e ∙ numbers_parts v r))) in
    none v.within r h.1 first.1

-- ---- flips
pub none_after_flips : (text behind : List ℕ) → text ≡ flips_word ++ behind → BeginsWithNone IsSmoothing smooth_end behind
    → BeginsWithNone IsFlipsTail flips_end text
none_after_flips text behind is none (true, s) r h e = smooth_not_flips s r behind (sym e ∙ is)
none_after_flips text behind is none (false, s) r h e =
    none s r h (behind_same flips_word _ _ (sym is ∙ (e ∙ no_flips_parts s r)))

-- ---- the split
pub none_after_split : (text behind : List ℕ) → text ≡ split_word ++ behind → BeginsWithNone IsFlipsTail flips_end behind
    → BeginsWithNone IsSplitTail split_end text
none_after_split text behind is none (false, p) r h e = flips_not_split p r behind (sym e ∙ is)
none_after_split text behind is none (true, p) r h e =
    none p r h (behind_same split_word _ _ (sym is ∙ (e ∙ split_parts p r)))

-- ---- the number of pieces
-- no number from 1 on that fits 32 bits, with a space or a line feed after it
abbrev pub NoNumber : List ℕ → Type 0
NoNumber text = (n : ℕ) (rest : List ℕ) → IsBetween 1 (2 ^ 32 - 1) n → IsStopped rest → ¬ (text ≡ decimal n ++ rest)

stop_at_front : (front rest : List ℕ) → IsStopped rest
    → (length front < length (front ++ rest)) × IsStop (get_or (front ++ rest) (length front) 0)
stop_at_front front [] st = absurd st
stop_at_front front (b ∷ rest) st =
    let none : length front - length front ≡ 0 = omega arith in (
      omega (arith, length-append front (b ∷ rest)),
      subst IsStop
          (sym (get_or-append_right front (b ∷ rest) (length front) (length front) 0 refl (omega arith)
          ∙ ap (λ (i : ℕ). get_or (b ∷ rest) i 0) none)) st,
    )

-- a text without a space or a line feed
pub no_stop : (text : List ℕ) → LacksStops text → NoNumber text
no_stop text lacks n rest h st e =
    let there = stop_at_front (decimal n) rest st in
    lacks (length (decimal n)) (subst (λ (t : List ℕ). length (decimal n) < length t) (sym e) there.0)
    (subst (λ (t : List ℕ). IsStop (get_or t (length (decimal n)) 0)) (sym e) there.1)

-- a text whose bytes up to the first one are no such number
pub no_token : (text token behind : List ℕ) → text ≡ token ++ behind → LacksStops token → IsStopped behind
    → ((n : ℕ) → IsBetween 1 (2 ^ 32 - 1) n → ¬ (token ≡ decimal n)) → NoNumber text
no_token text token behind is lacks st none n rest h su e =
    let same =
    stop_split token (decimal n) behind rest lacks (decimal_lacks_stops n (omega (arith, h.1))) st su (sym is ∙ e) in
    none n h same.0

-- the same where the first one is at this position
pub no_token_at : (text : List ℕ) (stop : ℕ) → stop < length text → ((k : ℕ) → k < stop → IsStop (get_or text k 0) → ⊥)
    → IsStop (get_or text stop 0) → ((n : ℕ) → IsBetween 1 (2 ^ 32 - 1) n → ¬ (take stop text ≡ decimal n)) → NoNumber text
no_token_at text stop lt before st none =
    no_token text (take stop text) (drop stop text) (sym (take-append-drop stop text)) lacks
    (subst IsStopped (sym (drop_more text stop 0 lt)) st) none
  where
    lacks : LacksStops (take stop text)
    lacks k l at =
        let under : k < stop = omega (arith, l, length-take stop text) in
        before k under (subst IsStop (get_or-take stop text k 0 under) at)

pub no_other_number : (token : List ℕ) (m : ℕ) → m < 2 ^ 64 → token ≡ decimal m → ¬ IsBetween 1 (2 ^ 32 - 1) m → (n : ℕ)
    → IsBetween 1 (2 ^ 32 - 1) n → ¬ (token ≡ decimal n)
no_other_number token m fits is out n h e =
    out (subst (IsBetween 1 (2 ^ 32 - 1)) (decimal_injective n m (omega (arith, h.1)) fits (sym e ∙ is)) h)

pub none_without_number : (text : List ℕ) → NoNumber text → BeginsWithNone IsCounted counted_end text
none_without_number text none (n, p) r h e = none n _ h.0 (stopped_split p r) (e ∙ counted_parts (n, p) r)

pub none_after_number : (text behind : List ℕ) (n : ℕ) → IsBetween 1 (2 ^ 32 - 1) n → IsStopped behind
    → text ≡ decimal n ++ behind → BeginsWithNone IsSplitTail split_end behind → BeginsWithNone IsCounted counted_end text
none_after_number text behind n fits st is none (m, p) r h e =
    let same =
    number_stopped n m behind _ (omega (arith, fits.1)) (omega (arith, h.0.1)) st (stopped_split p r)
    (sym is ∙ (e ∙ counted_parts (m, p) r)) in
    none p r h.1 same.1

-- ---- all options
pub none_after_pieces : (text behind : List ℕ) → text ≡ pieces_word ++ behind → BeginsWithNone IsCounted counted_end behind
    → BeginsWithNone AreOptions options_end text
none_after_pieces text behind is none o r h e = by o.pieces refl
  where
    by : (p : Option ℕ) → o.pieces ≡ p → ⊥
    by None f = split_not_pieces (split_of o) r behind (sym (bare_parts o r f) ∙ (sym e ∙ is))
    by (Some n) f =
        none (n, split_of o) r (pieces_within o n h f)
        (behind_same pieces_word _ _ (sym is ∙ (e ∙ pieces_parts o n r f)))

pub none_without_pieces : (text : List ℕ) → ((rest : List ℕ) → ¬ (text ≡ pieces_word ++ rest))
    → BeginsWithNone IsSplitTail split_end text → BeginsWithNone AreOptions options_end text
none_without_pieces text other none o r h e = by o.pieces refl
  where
    by : (p : Option ℕ) → o.pieces ≡ p → ⊥
    by None f = none (split_of o) r h.smoothing (e ∙ bare_parts o r f)
    by (Some n) f = other _ (e ∙ pieces_parts o n r f)
