-- A certificate is read part after part: heading, three lists, last line.
--
-- A refusal in a part is the certificate's, as the parts before it were read: at_counts, at_inside, at_flow, at_sink and
-- at_end each put one part in front of what is refused behind it, so each goal is such a chain, longer by one than the goal
-- before. Where nothing is refused the parts are the whole text of the claim (whole).
use Rattle.std.proofs.Common.{◌+◌, arith}
use Rattle.line_text.specs.Lists.{WithMemory, RefusedList}
use Rattle.line_text.proofs.Rows.{IfErr-holds, WithMemory-holds, WithMemory-weaker, some_left, none_left}
use Rattle.line_text.proofs.Parts.{word_refused, behind_word, list_refused}
use Rattle.certificate.specs.Rows.{IsCellRow, IsFlowRow, IsSinkRow, cell_order, flow_order, sink_order}
use Rattle.cert_text.specs.Texts.{cell_line, flow_line, sink_line, inside_word, flow_word, sink_word}
use Rattle.cert_text.specs.Refusals.{AtEnd, AtSink, AtFlow, AtCertificate}
use Rattle.cert_text.proofs.WholeLemmas.{at_counts, at_inside, at_flow, at_sink, at_end, behind_end, whole}
use Rattle.cert_text.proofs.read.read_lines.Goals as goal

pub returns-in-Err-clause-refused : goal.returns-in-Err-clause-refused
returns-in-Err-clause-refused c = grind (arith, WithMemory-holds)

pub returns-in_err-heading-clause-refused : goal.returns-in_err-heading-clause-refused
returns-in_err-heading-clause-refused c = grind (arith, IfErr-holds, WithMemory-holds, at_counts)

pub returns-in_err-inside-clause-refused : goal.returns-in_err-inside-clause-refused
returns-in_err-inside-clause-refused c =
    IfErr-holds c.from_residual-in_err-inside.result c.in_err-inside.field-0.0
    (λ r. WithMemory r (AtCertificate c.args.bytes.now r)) c.from_residual-in_err-inside.ensures.1
    (WithMemory-weaker c.in_err-inside.field-0.0
    (RefusedList IsCellRow cell_line cell_order inside_word (c.counts_line-line.result + 6) c.in_ok-heading.rest.now
    c.in_err-inside.field-0.0) (AtCertificate c.args.bytes.now c.in_err-inside.field-0.0)
    (λ h. (at_inside _ _ _ _ _ _ _ c.in-Ok.ensures.ok c.counts_line-line.ensures.value c.in_ok-heading.ensures.ok
    (list_refused IsCellRow cell_line cell_order inside_word (c.counts_line-line.result + 6) c.in_ok-heading.rest.now _
    (λ m t. AtFlow m t c.in_err-inside.field-0.0) h))) c.in_err-inside.ensures.refused)

pub returns-in_err-flow-clause-refused : goal.returns-in_err-flow-clause-refused
returns-in_err-flow-clause-refused c =
    IfErr-holds c.from_residual-in_err-flow.result c.in_err-flow.field-0.0
    (λ r. WithMemory r (AtCertificate c.args.bytes.now r)) c.from_residual-in_err-flow.ensures.1
    (WithMemory-weaker c.in_err-flow.field-0.0
    (RefusedList IsFlowRow flow_line flow_order flow_word c.in_ok-inside.line c.in_ok-inside.rest.now c.in_err-flow.field-0.0)
    (AtCertificate c.args.bytes.now c.in_err-flow.field-0.0)
    (λ h. (at_inside _ _ _ _ _ _ _ c.in-Ok.ensures.ok c.counts_line-line.ensures.value c.in_ok-heading.ensures.ok
    (at_flow _ _ _ _ _ _ c.in_ok-inside.ensures.ok
    (list_refused IsFlowRow flow_line flow_order flow_word c.in_ok-inside.line c.in_ok-inside.rest.now _
    (λ m t. AtSink m t c.in_err-flow.field-0.0) h)))) c.in_err-flow.ensures.refused)

pub returns-in_err-sink-clause-refused : goal.returns-in_err-sink-clause-refused
returns-in_err-sink-clause-refused c =
    IfErr-holds c.from_residual-in_err-sink.result c.in_err-sink.field-0.0
    (λ r. WithMemory r (AtCertificate c.args.bytes.now r)) c.from_residual-in_err-sink.ensures.1
    (WithMemory-weaker c.in_err-sink.field-0.0
    (RefusedList IsSinkRow sink_line sink_order sink_word c.in_ok-flow.line c.in_ok-flow.rest.now c.in_err-sink.field-0.0)
    (AtCertificate c.args.bytes.now c.in_err-sink.field-0.0)
    (λ h. (at_inside _ _ _ _ _ _ _ c.in-Ok.ensures.ok c.counts_line-line.ensures.value c.in_ok-heading.ensures.ok
    (at_flow _ _ _ _ _ _ c.in_ok-inside.ensures.ok
    (at_sink _ _ _ _ _ _ c.in_ok-flow.ensures.ok
    (list_refused IsSinkRow sink_line sink_order sink_word c.in_ok-flow.line c.in_ok-flow.rest.now _
    (λ m t. AtEnd m t c.in_err-sink.field-0.0) h))))) c.in_err-sink.ensures.refused)

pub returns-in_err-rest-clause-refused : goal.returns-in_err-rest-clause-refused
returns-in_err-rest-clause-refused c =
    IfErr-holds c.from_residual-in_err-rest.result c.in_err-rest.field-0.0
    (λ r. WithMemory r (AtCertificate c.args.bytes.now r)) c.from_residual-in_err-rest.ensures.1
    (WithMemory-holds c.in_err-rest.field-0.0 (AtCertificate c.args.bytes.now c.in_err-rest.field-0.0)
    (at_inside _ _ _ _ _ _ _ c.in-Ok.ensures.ok c.counts_line-line.ensures.value c.in_ok-heading.ensures.ok
    (at_flow _ _ _ _ _ _ c.in_ok-inside.ensures.ok
    (at_sink _ _ _ _ _ _ c.in_ok-flow.ensures.ok
    (at_end _ _ _ _ _ _ c.in_ok-sink.ensures.ok (word_refused _ _ _ _ _ _ c.end_mark.ensures c.in_err-rest.ensures.refused))))))

pub returns-then-not-is_empty-clause-refused : goal.returns-then-not-is_empty-clause-refused
returns-then-not-is_empty-clause-refused c =
    (at_inside _ _ _ _ _ _ _ c.in-Ok.ensures.ok c.counts_line-line.ensures.value c.in_ok-heading.ensures.ok
    (at_flow _ _ _ _ _ _ c.in_ok-inside.ensures.ok
    (at_sink _ _ _ _ _ _ c.in_ok-flow.ensures.ok
    (at_end _ _ _ _ _ _ c.in_ok-sink.ensures.ok
    (behind_end _ _ _ _ _ c.end_mark.ensures c.in_ok-rest.ensures.ok
    (some_left c.in_ok-rest.rest.now c.is_empty.result c.is_empty.ensures c.if-not-is_empty.true) c.saturating_add.ensures)))))

pub returns-clause-ok : goal.returns-clause-ok
returns-clause-ok c =
    whole _ _ _ _ _ _ _ _ c.in-Ok.ensures.ok c.in_ok-heading.ensures.ok c.in_ok-inside.ensures.ok.0 c.in_ok-inside.ensures.ok.1
    c.in_ok-flow.ensures.ok.0 c.in_ok-flow.ensures.ok.1 c.in_ok-sink.ensures.ok.0 c.in_ok-sink.ensures.ok.1
    (behind_word _ _ _ _ c.end_mark.ensures c.in_ok-rest.ensures.ok)
    (none_left c.in_ok-rest.rest.now c.is_empty.result c.is_empty.ensures c.if-not-is_empty.false)
