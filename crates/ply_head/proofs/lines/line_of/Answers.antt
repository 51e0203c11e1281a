-- The first line of the bytes, looked for byte after byte.
--
-- The invariant is that no byte so far is a line feed. Where one is met, the line is what stands before it without the
-- carriage return (line_is), and it is refused if that is longer than a line may be. Where the bytes end first the
-- header is cut (cut_line); where as many were looked at as a line of the greatest length can have, whatever follows
-- makes it too long (long_line).
use Rattle.std.proofs.Common.{◌≡◌, ◌≤◌, ◌<◌, ◌+◌, ℕ, false, List, length, take, arith, subst, ap, ◌∙◌, refl, All}
use Rattle.std.proofs.lemmas.List.{take_all, take_rest}
use Rattle.std.proofs.lemmas.List.Elements.{All-more}
use Rattle.std.proofs.lemmas.Bool.{le-ltb, lt-ltb}
use Rattle.ply_head.specs.Lines.{is_line_feed, line_text}
use Rattle.ply_head.proofs.HeadLemmas.{long_line, cut_line, line_is, other_feed}
use Rattle.ply_head.proofs.lines.line_of.Goals as goal

pub returns-then-position-eq-LOOK_AHEAD-clause-line : goal.returns-then-position-eq-LOOK_AHEAD-clause-line
returns-then-position-eq-LOOK_AHEAD-clause-line c =
    long_line c.args.number c.args.bytes.now (omega arith)
    (subst (λ (k : ℕ). All (λ x. is_line_feed x ≡ false) (take k c.args.bytes.now)) c.if-position-eq-LOOK_AHEAD.true
    c.loop-position.invariant.no_feed)

pub returns-then-line-gt-LINE_LIMIT-clause-line : goal.returns-then-line-gt-LINE_LIMIT-clause-line
returns-then-line-gt-LINE_LIMIT-clause-line c =
    let long : 1000 < length (line_text (take c.loop-position.position c.args.bytes.now)) =
    omega (arith, ap length c.without_end-line.ensures) in
    line_is c.args.number c.args.bytes.now c.loop-position.position c.loop-position-test.true c.loop-position.invariant.no_feed
    c.if-byte-eq10.true ∙ rw (lt-ltb 1000 (length (line_text (take c.loop-position.position c.args.bytes.now))) long) refl

pub returns-then-byte-eq10-clause-line : goal.returns-then-byte-eq10-clause-line
returns-then-byte-eq10-clause-line c =
    let short : length (line_text (take c.loop-position.position c.args.bytes.now)) ≤ 1000 =
    omega (arith, ap length c.without_end-line.ensures) in
    line_is c.args.number c.args.bytes.now c.loop-position.position c.loop-position-test.true c.loop-position.invariant.no_feed
    c.if-byte-eq10.true ∙ rw (
      le-ltb 1000 (length (line_text (take c.loop-position.position c.args.bytes.now))) short,
      c.without_end-line.ensures,
    ) refl

pub loop-position-preserved : goal.loop-position-preserved
loop-position-preserved c = record {
  no_feed =
      All-more (λ x. is_line_feed x ≡ false) c.args.bytes.now c.loop-position.position 0 c.loop-position-test.true
      c.loop-position.invariant.no_feed (other_feed _ c.if-byte-eq10.false);
  short = omega arith;
}

pub returns-then-bytes-lt-LOOK_AHEAD-clause-line : goal.returns-then-bytes-lt-LOOK_AHEAD-clause-line
returns-then-bytes-lt-LOOK_AHEAD-clause-line c =
    cut_line c.args.number c.args.bytes.now c.if-bytes-lt-LOOK_AHEAD.true
    (subst (λ (w : List ℕ). All (λ x. is_line_feed x ≡ false) w)
    (take_all c.loop-position.position c.args.bytes.now (omega arith)) c.loop-position.invariant.no_feed)

pub returns-else-bytes-lt-LOOK_AHEAD-clause-line : goal.returns-else-bytes-lt-LOOK_AHEAD-clause-line
returns-else-bytes-lt-LOOK_AHEAD-clause-line c =
    let is : c.loop-position.position ≡ 1002 = omega arith in
    long_line c.args.number c.args.bytes.now (omega arith)
    (subst (λ (k : ℕ). All (λ x. is_line_feed x ≡ false) (take k c.args.bytes.now)) is c.loop-position.invariant.no_feed)

pub returns-then-byte-eq10-clause-tail : goal.returns-then-byte-eq10-clause-tail
returns-then-byte-eq10-clause-tail c = record {
  from = c.loop-position.position + 1;
  fits = omega arith;
  is = take_rest c.args.bytes.now (c.loop-position.position + 1);
}
