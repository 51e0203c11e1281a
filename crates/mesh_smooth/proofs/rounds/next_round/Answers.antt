-- Marks and flags are written through one borrowed slice and read through another, so `marks` and `flags` first say that these are one.
use Rattle.std.proofs.Common.{◌≡◌, ◌∙◌, sym, subst, arith, List, Bool, length, drop}
use Rattle.std.proofs.lemmas.List.{take_at}
use Rattle.mesh_smooth.specs.Rounds.{AreAllTested, AreAsked}
use Rattle.mesh_smooth.proofs.Pairs.{round_kept, round_rest, all_kept, on_no}
use Rattle.mesh_smooth.proofs.rounds.next_round.Goals as goal

pub insert_asked-requires-clause-rest : goal.insert_asked-requires-clause-rest
insert_asked-requires-clause-rest c =
    let flags : c.deref-2.result.now ≡ c.put_back.new.back =
    c.deref-2.ensures.value
    ∙ take_at c.put_back.new.back (drop (length c.put_back.new.back) c.in_ok-back.back.items) c.in_ok-back.back.len
    (let m = c.in_ok-back.back.ok.0 in
    omega arith) in
    round_rest c.args.before.now c.args.points.now c.put_back.new.points c.args.faces.now c.args.asked.now c.deref.result.now
    c.deref_mut-2.result.now c.put_back.new.back c.ask-some.new.asked c.put_back.ensures.back
    (subst (λ (z : List Bool). AreAsked c.args.faces.now z c.ask-some.new.asked) flags c.ask-some.ensures.asked) c.args.tree.now
    c.requires.tree

pub returns-clause-kept : goal.returns-clause-kept
returns-clause-kept c =
    let flags : c.deref-2.result.now ≡ c.put_back.new.back =
    c.deref-2.ensures.value
    ∙ take_at c.put_back.new.back (drop (length c.put_back.new.back) c.in_ok-back.back.items) c.in_ok-back.back.len
    (let m = c.in_ok-back.back.ok.0 in
    omega arith) in
    let marks : c.deref.result.now ≡ c.mark_crossing.new.crosses =
    c.deref.ensures.value
    ∙ take_at c.mark_crossing.new.crosses (drop (length c.mark_crossing.new.crosses) c.in_ok-crosses.crosses.items)
    c.in_ok-crosses.crosses.len
    (let m = c.in_ok-crosses.crosses.ok.0 in
    omega arith) in
    round_kept c.args.before.now c.args.points.now c.put_back.new.points c.args.faces.now c.args.asked.now c.deref.result.now
    c.deref_mut-2.result.now c.put_back.new.back c.ask-some.new.asked c.put_back.ensures.back
    (subst (λ (z : List Bool). AreAsked c.args.faces.now z c.ask-some.new.asked) flags c.ask-some.ensures.asked) c.requires.kept
    (subst (λ (z : List Bool). AreAllTested c.args.points.now c.args.faces.now c.args.asked.now z) (sym marks) c.in_ok-mark_crossing.ensures)
    c.put_back.ensures.there

pub returns-clause-done : goal.returns-clause-done
returns-clause-done c =
    let flags : c.deref-2.result.now ≡ c.put_back.new.back =
    c.deref-2.ensures.value
    ∙ take_at c.put_back.new.back (drop (length c.put_back.new.back) c.in_ok-back.back.items) c.in_ok-back.back.len
    (let m = c.in_ok-back.back.ok.0 in
    omega arith) in
    let marks : c.deref.result.now ≡ c.mark_crossing.new.crosses =
    c.deref.ensures.value
    ∙ take_at c.mark_crossing.new.crosses (drop (length c.mark_crossing.new.crosses) c.in_ok-crosses.crosses.items)
    c.in_ok-crosses.crosses.len
    (let m = c.in_ok-crosses.crosses.ok.0 in
    omega arith) in
    on_no c.ask-some.result
    (all_kept c.args.before.now c.put_back.new.points c.args.faces.now c.ask-some.new.asked
    (round_kept c.args.before.now c.args.points.now c.put_back.new.points c.args.faces.now c.args.asked.now c.deref.result.now
    c.deref_mut-2.result.now c.put_back.new.back c.ask-some.new.asked c.put_back.ensures.back
    (subst (λ (z : List Bool). AreAsked c.args.faces.now z c.ask-some.new.asked) flags c.ask-some.ensures.asked) c.requires.kept
    (subst (λ (z : List Bool). AreAllTested c.args.points.now c.args.faces.now c.args.asked.now z) (sym marks) c.in_ok-mark_crossing.ensures)
    c.put_back.ensures.there)) c.ask-some.ensures.none
