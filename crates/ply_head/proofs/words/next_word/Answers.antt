use Rattle.std.proofs.Common.{◌≡◌, ◌<◌, ℕ, false, length, arith, sym, ap, ◌∙◌, All, subst, List}
use Rattle.std.proofs.lemmas.List.{nil_from_length, take_all}
use Rattle.std.proofs.lemmas.List.Elements.{All-more}
use Rattle.ply_head.specs.Lines.{words_of, is_blank}
use Rattle.ply_head.proofs.WordLemmas.{word_taken, last_taken, words_nil}
use Rattle.ply_head.proofs.words.next_word.Goals as goal

pub returns-then-is_empty-clause-none : goal.returns-then-is_empty-clause-none
returns-then-is_empty-clause-none c =
    let empty : length c.behind_blanks-rest.result.now ≡ 0 = grind arith in
    sym c.behind_blanks-rest.ensures.words ∙ ap words_of (nil_from_length _ empty) ∙ words_nil

pub returns-then-is_blank_byte-clause-some : goal.returns-then-is_blank_byte-clause-some
returns-then-is_blank_byte-clause-some c =
    word_taken c.args.line.now c.behind_blanks-rest.result.now c.loop-position.position c.behind_blanks-rest.ensures.words
    c.behind_blanks-rest.ensures.begins c.loop-position-test.true c.loop-position.invariant
    (sym c.is_blank_byte.ensures ∙ c.if-is_blank_byte.true)

pub loop-position-preserved : goal.loop-position-preserved
loop-position-preserved c =
    All-more (λ x. is_blank x ≡ false) c.behind_blanks-rest.result.now c.loop-position.position 0 c.loop-position-test.true
    c.loop-position.invariant (sym c.is_blank_byte.ensures ∙ c.if-is_blank_byte.false)

pub returns-clause-some : goal.returns-clause-some
returns-clause-some c =
    let some : 0 < length c.behind_blanks-rest.result.now = grind arith in
    let all =
    subst (λ (w : List ℕ). All (λ x. is_blank x ≡ false) w)
    (take_all c.loop-position.position c.behind_blanks-rest.result.now (omega arith)) c.loop-position.invariant in
    last_taken c.args.line.now c.behind_blanks-rest.result.now c.behind_blanks-rest.ensures.words some all
