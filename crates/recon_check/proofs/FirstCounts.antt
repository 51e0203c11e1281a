-- The first of the numbers that differs.
--
-- A number is told where it differs. The first that is told of those before it and of it is a fault: theirs, if one of them is told, and
-- else its own, since they are the scan's (or_told). So the first of all five is a fault, and where none is told all five are the scan's.
use Rattle.std.proofs.Common.{ℕ, ◌≡◌, refl, sym, subst, ◌∙◌, arith, cond, eqb, Option, Some, None, IfSome, IfNone, MatchOption}
use Rattle.std.proofs.Common.{List, [], ◌∷◌, ◌++◌, All}
use Rattle.std.specs.Option.{option_or}
use Rattle.std.proofs.lemmas.Bool.{cond_both, eqb-true, eqb-false}
use Rattle.std.proofs.lemmas.List.Elements.{All-push}
use Rattle.certificate.specs.Certificates.{Claim}
use Rattle.flow_net.specs.declared.votes.Settings.{Settings}
use Rattle.solution.specs.Solutions.{HasCounts}
use Rattle.scan_rows.specs.Shown.{Shown}
use Rattle.recon_check.specs.Answers.{stated_count, count_here, earlier, IsFault}
use Rattle.recon_check.specs.declared.answer.Reason.{Reason}
use Rattle.recon_check.specs.declared.answer.Reason.TheVariants.{OtherCounts}
use Rattle.recon_check.specs.declared.answer.Which.{Which}
use Rattle.recon_check.specs.declared.answer.Which.TheVariants.{Points, Scanners, Sights, Vote, Smooth}

abbrev all_numbers : List Which
all_numbers = Points ∷ Scanners ∷ Sights ∷ Vote ∷ Smooth ∷ []

module _ (scan : Shown) (settings : Settings) (claim : Claim) where
  -- the number is the scan's
  abbrev pub IsSame : Which → Type 0
  IsSame which = stated_count which claim ≡ count_here which scan settings

  -- a fault, whatever the mesh
  abbrev pub IsFaultEver : Reason → Type 0
  IsFaultEver reason = (mesh : List ℕ) → IsFault scan settings mesh claim reason

  -- one of these numbers was told as a fault, or all are the scan's
  abbrev pub IsToldOf : List Which → Option Reason → Type 0
  IsToldOf numbers first = MatchOption first (All IsSame numbers) IsFaultEver

  pub or_told : (which : Which) (here : ℕ) (before own first : Option Reason) → here ≡ count_here which scan settings
      → own ≡ cond (eqb (stated_count which claim) here) None (Some (OtherCounts which (stated_count which claim) here))
      → first ≡ option_or before own → IsToldOf (earlier which) before → IsToldOf (earlier which ++ which ∷ []) first
  or_told which here (Some reason) own first here_is own_is first_is h =
      subst (IsToldOf (earlier which ++ which ∷ [])) (sym first_is) h
  or_told which here None own first here_is own_is first_is h =
      subst (IsToldOf (earlier which ++ which ∷ [])) (sym (first_is ∙ own_is))
      (cond_both (eqb (stated_count which claim) here) None (Some (OtherCounts which (stated_count which claim) here))
      (IsToldOf (earlier which ++ which ∷ []))
      (λ e. All-push IsSame (earlier which) which h (eqb-true _ _ e ∙ here_is))
      (λ e mesh. record { same_before = h; stated_is = refl; here_is = here_is; differs = eqb-false _ _ e }))

  pub none_told : (first : Option Reason) → IsToldOf all_numbers first → IfNone first (HasCounts claim scan settings)
  none_told (Some reason) h = tt
  none_told None h = record {
    points = h 0 Points (omega arith);
    scanners = h 1 Points (omega arith);
    sights = h 2 Points (omega arith);
    vote = h 3 Points (omega arith);
    smooth = h 4 Points (omega arith);
  }

  pub some_told : (first : Option Reason) → IsToldOf all_numbers first → IfSome first IsFaultEver
  some_told (Some reason) h = h
  some_told None h = tt
