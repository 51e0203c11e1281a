-- When `check` says yes for a scan in the printed form, exactly.
--
-- The text of the scan is read as this scan (read_is). What `check` accepts are the best surface and a certificate of its labels
-- (best_of), and these are accepted, since the certificate's text is that of a claim that is a solution (solved_of). So the clause of
-- `check` on all three files says what each status is of (decided).
use Rattle.std.proofs.Common.{ℕ, ◌≡◌, ◌≢◌, ◌≤◌, ◌^◌, refl, ap, sym, subst, ◌∙◌, arith, List, length, Option, Some, Ok}
use Rattle.host.specs.State.{State}
use Rattle.geo_sign.specs.Point.{Point}
use Rattle.recon_check.specs.Answers.{IsSolved, surface_text, best_surface}
use Rattle.scan.proofs.PrintedScans.{scan_read}
use Rattle.scan.specs.Outcomes.{shown_in}
use Rattle.scan.specs.PlainForm.{scan_text}
use Rattle.scan_rows.specs.Shown.{Shown}
use Rattle.command_run.specs.declared.status.Status.{Status}
use Rattle.command_run.specs.declared.status.Status.TheVariants.{Done, No, BadArguments, Refused, Failed, NoMemory}
use Rattle.recon_cmd.specs.Answers.{read_as}
use Rattle.recon_cmd.specs.CheckLaws.{AreReadable, CheckEnds, ChecksOn, IsBestMesh, IsSolvedAt}
use Rattle.recon_cmd.specs.Commands.{check}
use Rattle.recon_cmd.specs.Options.{Options}
use Rattle.recon_cmd.specs.Stamps.{stamp_for}
use Rattle.recon_cmd.specs.Words.{SurfaceNames}
use Rattle.recon_cmd.proofs.CheckEnds.{check_is_exact}
use Rattle.recon_laws.specs.ExactChecks.{AreBest, AreWithinLimit, EndsDecided, IsDecided, PrintedCheckIsExact}
use Rattle.recon_laws.specs.Laws.{IsPrintedFrom}
use Rattle.recon_laws.proofs.Certificates.{certificate_of, claim, counts_here, formed, stamped_for, states, text_of_claim, whole_is, whole_text}
use Rattle.recon_laws.proofs.DoneChecks.{from_zero, none_rose, unfailed}
use Rattle.recon_laws.proofs.Printed.{text_is_printed}

-- the printed form of a scan is read as this one
read_is : (options : Options) (scan : Shown) (bytes : List ℕ) → IsPrintedFrom options scan bytes
    → read_as options bytes ≡ Ok scan
read_is options scan bytes printed =
    ap (λ (b : List ℕ). shown_in b options.unit options.fixed) (printed.text_is ∙ text_is_printed scan)
    ∙ (ap (λ (unit : ℕ). shown_in (scan_text scan) unit options.fixed) printed.in_units
    ∙ (ap (λ (fixed : Option Point). shown_in (scan_text scan) 1 fixed) printed.none_fixed ∙ scan_read scan printed.shown))

-- what is accepted is best
best_of : (options : Options) (scan : Shown) (bytes mesh cert : List ℕ) → IsPrintedFrom options scan bytes
    → IsSolvedAt options (stamp_for options bytes) scan mesh cert → AreBest options scan bytes mesh cert
best_of options scan bytes mesh cert printed solved =
    let here : IsSolved scan solved.settings mesh solved.accepted.claim = solved.accepted.holds.1 in
    record {
      best = record {
        settings = solved.settings;
        vote = solved.vote;
        smooth = solved.smooth;
        complex = here.solution.complex;
        complex_is = here.solution.complex_is;
        inside = here.solution.inside;
        least = here.solution.least;
        mesh_is = here.mesh_is ∙ ap surface_text here.solution.mesh_is;
      };
      certificate =
          certificate_of options bytes cert scan solved.settings here.solution.complex here.solution.inside solved.accepted.claim
          printed.in_units printed.none_fixed solved.accepted.text_is solved.accepted.well_formed solved.accepted.holds.0
          here.solution.counts here.solution.certificate;
    }

-- what is best is accepted
solved_of : (options : Options) (scan : Shown) (bytes mesh cert : List ℕ) → IsPrintedFrom options scan bytes
    → length cert ≤ 2 ^ 32 → AreBest options scan bytes mesh cert
    → IsSolvedAt options (stamp_for options bytes) scan mesh cert
solved_of options scan bytes mesh cert printed within are =
    let best : IsBestMesh options scan mesh = are.best in
    let on = are.certificate.on_facet in
    let at = are.certificate.on_cell in
    let stamped = are.certificate.stamped in
    let text : cert ≡ whole_text bytes scan best.settings best.complex best.inside on at stamped =
    whole_is bytes cert scan best.settings best.complex best.inside are.certificate in
    let equal = sym are.certificate.value_is ∙ are.certificate.cost_is in
    let short : length (whole_text bytes scan best.settings best.complex best.inside on at stamped) ≤ 2 ^ 32 =
    subst (λ (t : List ℕ). length t ≤ 2 ^ 32) text within in
    let well =
    formed bytes scan best.settings best.complex best.inside on at stamped printed.shown best.complex_is best.least
    are.certificate.flow equal short in
    record {
      settings = best.settings;
      vote = best.vote;
      smooth = best.smooth;
      accepted = record {
        claim = claim bytes scan best.settings best.complex best.inside on at stamped;
        well_formed = well;
        text_is = text ∙ text_of_claim bytes scan best.settings best.complex best.inside on at stamped well;
        holds = (
          stamped_for options bytes stamped printed.in_units printed.none_fixed,
          record {
            surface = best_surface scan best.complex best.inside;
            mesh_is = best.mesh_is;
            solution = record {
              complex = best.complex;
              inside = best.inside;
              complex_is = best.complex_is;
              least = best.least;
              mesh_is = refl;
              counts = counts_here bytes scan best.settings best.complex best.inside on at stamped;
              certificate =
                  states bytes scan best.settings best.complex best.inside on at stamped best.complex_is are.certificate.flow
                  equal;
            };
          },
        );
      };
    }

-- ---- the three statuses
is_done : (options : Options) (scan : Shown) (bytes mesh cert : List ℕ) → AreWithinLimit bytes mesh cert
    → AreBest options scan bytes mesh cert → IsDecided options scan bytes mesh cert Done
is_done options scan bytes mesh cert within best =
    record {
      done = (λ e. (within, best), λ both. refl);
      no = (λ e. absurd (differ e), λ both. absurd (both.1 best));
      refused = (λ e. absurd (apart e), λ none. absurd (none within));
    }
  where
    differ : Done ≡ No → ⊥
    differ e = cc

    apart : Done ≡ Refused → ⊥
    apart e = cc

is_no : (options : Options) (scan : Shown) (bytes mesh cert : List ℕ) → AreWithinLimit bytes mesh cert
    → ¬ AreBest options scan bytes mesh cert → IsDecided options scan bytes mesh cert No
is_no options scan bytes mesh cert within none =
    record {
      done = (λ e. absurd (differ e), λ both. absurd (none both.1));
      no = (λ e. (within, none), λ both. refl);
      refused = (λ e. absurd (apart e), λ long. absurd (long within));
    }
  where
    differ : No ≡ Done → ⊥
    differ e = cc

    apart : No ≡ Refused → ⊥
    apart e = cc

is_refused : (options : Options) (scan : Shown) (bytes mesh cert : List ℕ) → ¬ AreWithinLimit bytes mesh cert
    → IsDecided options scan bytes mesh cert Refused
is_refused options scan bytes mesh cert long =
    record {
      done = (λ e. absurd (differ e), λ both. absurd (long both.0));
      no = (λ e. absurd (apart e), λ both. absurd (long both.0));
      refused = (λ e. long, λ none. refl);
    }
  where
    differ : Refused ≡ Done → ⊥
    differ e = cc

    apart : Refused ≡ No → ⊥
    apart e = cc

-- ---- by the clause of `check`
-- readable files are within the limit, and a file is no two scans
within_of : (options : Options) (bytes mesh cert : List ℕ) (scan : Shown) → AreReadable options bytes mesh cert scan
    → AreWithinLimit bytes mesh cert
within_of options bytes mesh cert scan is =
    record {
      bytes_within = omega (arith, is.bytes_within);
      mesh_within = omega (arith, is.mesh_within);
      cert_within = omega (arith, is.cert_within);
    }

one_scan : (options : Options) (scan other : Shown) (bytes : List ℕ) → read_as options bytes ≡ Ok scan
    → read_as options bytes ≡ Ok other → other ≡ scan
one_scan options scan other bytes read again = cc (read, again)

by_status : (options : Options) (scan : Shown) (bytes mesh cert : List ℕ) (status : Status) → IsPrintedFrom options scan bytes
    → status ≢ Failed → status ≢ NoMemory → CheckEnds options bytes mesh cert status
    → IsDecided options scan bytes mesh cert status
by_status options scan bytes mesh cert Done printed failed memory (other, readable, solved) =
    is_done options scan bytes mesh cert (within_of options bytes mesh cert other readable)
    (best_of options scan bytes mesh cert printed
    (subst (λ (s : Shown). IsSolvedAt options (stamp_for options bytes) s mesh cert)
    (one_scan options scan other bytes (read_is options scan bytes printed) readable.read) solved))
by_status options scan bytes mesh cert No printed failed memory (other, readable, not_solved) =
    let within = within_of options bytes mesh cert other readable in
    is_no options scan bytes mesh cert within
    (λ best. not_solved
    (subst (λ (s : Shown). IsSolvedAt options (stamp_for options bytes) s mesh cert)
    (sym (one_scan options scan other bytes (read_is options scan bytes printed) readable.read))
    (solved_of options scan bytes mesh cert printed within.cert_within best)))
by_status options scan bytes mesh cert Refused printed failed memory unreadable =
    is_refused options scan bytes mesh cert
    (λ within. unreadable scan (record {
      bytes_within = omega (arith, within.bytes_within);
      mesh_within = omega (arith, within.mesh_within);
      cert_within = omega (arith, within.cert_within);
      read = read_is options scan bytes printed;
    }))
by_status options scan bytes mesh cert NoMemory printed failed memory ends = absurd (memory refl)
by_status options scan bytes mesh cert Failed printed failed memory ends = absurd ends
by_status options scan bytes mesh cert BadArguments printed failed memory ends = absurd ends

checks_on : (names : SurfaceNames) (output : Option (List ℕ)) (options : Options) (bytes mesh cert : List ℕ) (status : Status)
    (before after : State) → EndsDecided names output options bytes mesh cert status before after
    → ChecksOn names output options bytes mesh cert status (unfailed before) (unfailed after)
checks_on names output options bytes mesh cert status before after ends =
    record {
      told = ends.told;
      tells = ends.tells;
      input = ends.input;
      mesh_file = ends.mesh_file;
      cert_file = ends.cert_file;
      no_failure = none_rose;
      outcome = from_zero (Some (check names output options)) status before after ends.no_failure ends.outcome;
    }

pub printed_check_is_exact : PrintedCheckIsExact
printed_check_is_exact = λ names output options scan bytes mesh cert status before after printed ends.
    by_status options scan bytes mesh cert status printed ends.no_failure ends.memory
    (check_is_exact names output options bytes mesh cert status (unfailed before) (unfailed after)
    (checks_on names output options bytes mesh cert status before after ends))
