-- What words of `sweep` ask for, step by step, and that they are not words of `export`.
--
-- Both commands are told by the first word, so words of one are none of the other (no_sweep, no_export). The code looks at
-- the words behind the first in order: they are too few (too_few), or a scan and three numbers, and what the words behind these ask
-- for (sweep_at).
use Rattle.std.proofs.Common.{◌≡◌, ℕ, ◌-◌, ◌<◌, ◌≤◌, ◌==◌, Bool, true, false, cond, List, [], ◌∷◌, Option, Some, None, codes}
use Rattle.std.proofs.Common.{length, map, take, drop, get_or, refl, sym, ap, subst, ◌∙◌, arith, eq-eqb, ne_eqb, leb-true}
use Rattle.std.specs.Str.{bytes_eq}
use Rattle.std.proofs.lemmas.List.{take_rest}
use Rattle.flow_net.specs.declared.votes.TheConstants.{WEIGHT_LIMIT}
use Rattle.ply_head.specs.Optional.{◌>>=◌}
use Rattle.recon_cmd.specs.Export.{export_of}
use Rattle.recon_cmd.specs.Options.{number_between}
use Rattle.recon_cmd.specs.Sweep.{SweepAsked, entries_behind, entries_of, sweep_behind, sweep_of, sweep_words_of}
use Rattle.recon_cmd.proofs.WordLemmas.{same_name}

-- words of which the first is not `sweep` ask for no sweep
pub no_sweep : (words : List (List ℕ)) (n : ℕ) → entries_of words ≡ None → sweep_of n words ≡ None
no_sweep [] n e = refl
no_sweep (word ∷ words) n e = grind arith

-- words of which the first is `sweep` ask for no export
pub no_export : (words : List (List ℕ)) (n m : ℕ) → entries_of words ≡ Some m → export_of n words ≡ None
no_export [] n m e = refl
no_export (word ∷ words) n m e = by (bytes_eq word (codes "sweep")) refl e
  where
    by : (t : Bool) → bytes_eq word (codes "sweep") ≡ t → cond t (Some (entries_behind words)) None ≡ Some m
        → export_of n (word ∷ words) ≡ None
    by true is e = subst (λ (w : List ℕ). export_of n (w ∷ words) ≡ None) (sym (same_name word (codes "sweep") is)) refl
    by false is e = cc

-- where there is no form, no words ask for an export
pub no_form_export : (words : List (List ℕ)) → export_of 0 words ≡ None
no_form_export [] = refl
no_form_export (word ∷ []) = grind arith
no_form_export (word ∷ mesh ∷ outputs) = grind arith

-- a number from 1 on is not 0
not_none : (text : List ℕ) (asked : Option SweepAsked) → (number_between 1 64 text >>= λ (k : ℕ). cond (k == 0) asked None) ≡ None
not_none text asked = grind (arith, ne_eqb, leb-true)

-- nor for a sweep
pub no_form_sweep : (words : List (List ℕ)) → sweep_of 0 words ≡ None
no_form_sweep [] = refl
no_form_sweep (word ∷ words) = by (bytes_eq word (codes "sweep")) (behind words)
  where
    behind : (words : List (List ℕ)) → sweep_words_of 0 words ≡ None
    behind [] = refl
    behind (a ∷ []) = refl
    behind (a ∷ b ∷ []) = refl
    behind (a ∷ b ∷ c ∷ []) = refl
    behind (input ∷ from ∷ step ∷ count ∷ rest) = by_numbers (number_between 0 WEIGHT_LIMIT from) (number_between 1 WEIGHT_LIMIT step)
      where
        by_numbers : (f s : Option ℕ)
            → (f >>= (λ (l : ℕ). s >>= (λ (r : ℕ). number_between 1 64 count
            >>= (λ (k : ℕ). cond (k == 0) (sweep_behind input l r 0 rest) None)))) ≡ None
        by_numbers None s = refl
        by_numbers (Some l) None = refl
        by_numbers (Some l) (Some r) = not_none count (sweep_behind input l r 0 rest)

    by : (t : Bool) → sweep_words_of 0 words ≡ None → cond t (sweep_words_of 0 words) None ≡ None
    by true e = e
    by false e = refl

-- ---- step by step
-- too few words
pub too_few : {S : Type 0} (name : S → List ℕ) (words : List S) (n : ℕ) → length words < 4
    → None ≡ sweep_words_of n (map name words)
too_few name [] n few = refl
too_few name (a ∷ []) n few = refl
too_few name (a ∷ b ∷ []) n few = refl
too_few name (a ∷ b ∷ c ∷ []) n few = refl
too_few name (a ∷ b ∷ c ∷ d ∷ words) n few = absurd (omega (arith, few))

-- a name, three numbers, and what the words behind them ask for
pub sweep_at : {S : Type 0} (name : S → List ℕ) (words : List S) (n : ℕ) (input from step count : S)
    (least rise entries : ℕ) (o : Option SweepAsked) → 4 ≤ length words
    → input ≡ get_or words 0 input → from ≡ get_or words 1 from → step ≡ get_or words 2 step → count ≡ get_or words 3 count
    → Some least ≡ number_between 0 WEIGHT_LIMIT (name from)
    → Some rise ≡ number_between 1 WEIGHT_LIMIT (name step) → Some entries ≡ number_between 1 64 (name count) → entries ≡ n
    → o ≡ sweep_behind (name input) least rise entries (map name (take (length words - 4) (drop 4 words)))
    → o ≡ sweep_words_of n (map name words)
sweep_at name [] n input from step count least rise entries o some e1 e2 e3 e4 f s c same behind = absurd (omega (arith, some))
sweep_at name (v1 ∷ []) n input from step count least rise entries o some e1 e2 e3 e4 f s c same behind =
    absurd (omega (arith, some))
sweep_at name (v1 ∷ v2 ∷ []) n input from step count least rise entries o some e1 e2 e3 e4 f s c same behind =
    absurd (omega (arith, some))
sweep_at name (v1 ∷ v2 ∷ v3 ∷ []) n input from step count least rise entries o some e1 e2 e3 e4 f s c same behind =
    absurd (omega (arith, some))
sweep_at name (v1 ∷ v2 ∷ v3 ∷ v4 ∷ rest) n input from step count least rise entries o some e1 e2 e3 e4 f s c same behind =
    behind
    ∙ (ap (λ (l : List _). sweep_behind (name input) least rise entries (map name l)) (take_rest (v1 ∷ v2 ∷ v3 ∷ v4 ∷ rest) 4)
    ∙ (ap (λ (x : List ℕ). sweep_behind x least rise entries (map name rest)) (ap name e1)
    ∙ (ap (λ (k : ℕ). sweep_behind (name v1) least rise k (map name rest)) same
    ∙ sym (ap (λ (m : Option ℕ). chain m second third) (sym (f ∙ ap (λ (v : _). number_between 0 WEIGHT_LIMIT (name v)) e2))
    ∙ (ap (λ (m : Option ℕ). chain (Some least) m third) (sym (s ∙ ap (λ (v : _). number_between 1 WEIGHT_LIMIT (name v)) e3))
    ∙ (ap (λ (m : Option ℕ). chain (Some least) (Some rise) m) (sym (c ∙ ap (λ (v : _). number_between 1 64 (name v)) e4))
    ∙ ap (λ (t : Bool). cond t (sweep_behind (name v1) least rise n (map name rest)) None) (eq-eqb entries n same)))))))
  where
    first : Option ℕ
    first = number_between 0 WEIGHT_LIMIT (name v2)

    second : Option ℕ
    second = number_between 1 WEIGHT_LIMIT (name v3)

    third : Option ℕ
    third = number_between 1 64 (name v4)

    chain : (first second third : Option ℕ) → Option SweepAsked
    chain first second third =
        first
        >>= (λ (l : ℕ). second
        >>= (λ (r : ℕ). third
        >>= (λ (k : ℕ). cond (k == n) (sweep_behind (name v1) l r n (map name rest)) None)))
