-- Lists are passed as slices, so `read` and the equations of slices first say which lists these are.
use Rattle.std.proofs.Common.{ℕ, ◌≡◌, ◌+◌, ◌<◌, ◌≤◌, ◌∙◌, Bool, false, List, length, get_or, drop, sym, subst, ap, arith}
use Rattle.std.proofs.lemmas.List.{take_at}
use Rattle.mesh_edges.specs.declared.pairs.Pair.{Pair}
use Rattle.mesh_pieces.specs.Chosen.{AreSizes, ArePieceKeys, AreFirstMarked}
use Rattle.mesh_pieces.proofs.Across.{union_by}
use Rattle.mesh_pieces.proofs.Sizes.{largest_pieces}
use Rattle.mesh_pieces.proofs.largest.marks_of_largest.Goals as goal

pub returns-clause-union : goal.returns-clause-union
returns-clause-union c =
    let twins = c.args.twins.now in
    let faces = c.args.faces.now in
    let firsts = c.in_ok-firsts.firsts.items in
    let sizes = c.in_ok-sizes.sizes.items in
    let list = c.in_ok-list.list.items in
    let kept = c.in_ok-kept.kept.items in
    let marks = c.mark_first.new.marks in
    let old = c.in_ok-marks.marks.items in
    let read : c.deref-6.result.now ≡ marks =
    c.deref-6.ensures.value
    ∙ take_at marks (drop (length marks) old) c.in_ok-marks.marks.len
    (let m = c.in_ok-marks.marks.ok.0 in omega (arith, c.mark_first.ensures.count, ap length c.deref_mut.ensures.value, m)) in
    let is : (f : ℕ) → f < length firsts → get_or kept f false ≡ get_or marks (get_or firsts f 0) false =
    subst (λ (fs : List ℕ). (f : ℕ) → f < length fs → get_or kept f false ≡ get_or marks (get_or fs f 0) false) c.deref-5.ensures.value
    (subst
    (λ (ms : List Bool). (f : ℕ) → f < length c.deref-5.result.now → get_or kept f false ≡ get_or ms (get_or c.deref-5.result.now f 0) false)
    read c.in_ok-kept.ensures.kept) in
    union_by faces twins firsts marks kept c.requires.paired c.in_ok-firsts.ensures is

pub returns-clause-largest : goal.returns-clause-largest
returns-clause-largest c =
    let twins = c.args.twins.now in
    let faces = c.args.faces.now in
    let firsts = c.in_ok-firsts.firsts.items in
    let sizes = c.in_ok-sizes.sizes.items in
    let list = c.in_ok-list.list.items in
    let kept = c.in_ok-kept.kept.items in
    let marks = c.mark_first.new.marks in
    let old = c.in_ok-marks.marks.items in
    let read : c.deref-6.result.now ≡ marks =
    c.deref-6.ensures.value
    ∙ take_at marks (drop (length marks) old) c.in_ok-marks.marks.len
    (let m = c.in_ok-marks.marks.ok.0 in omega (arith, c.mark_first.ensures.count, ap length c.deref_mut.ensures.value, m)) in
    let is : (f : ℕ) → f < length firsts → get_or kept f false ≡ get_or marks (get_or firsts f 0) false =
    subst (λ (fs : List ℕ). (f : ℕ) → f < length fs → get_or kept f false ≡ get_or marks (get_or fs f 0) false) c.deref-5.ensures.value
    (subst
    (λ (ms : List Bool). (f : ℕ) → f < length c.deref-5.result.now → get_or kept f false ≡ get_or ms (get_or c.deref-5.result.now f 0) false)
    read c.in_ok-kept.ensures.kept) in
    let size : AreSizes firsts sizes (length firsts) =
    subst (λ (fs : List ℕ). AreSizes fs sizes (length fs)) c.deref.ensures.value c.in_ok-sizes.ensures in
    let keys : ArePieceKeys firsts sizes (length firsts) list =
    subst (λ (fs : List ℕ). ArePieceKeys fs sizes (length fs) list) c.deref-2.ensures.value
    (subst (λ (ss : List ℕ). ArePieceKeys c.deref-2.result.now ss (length c.deref-2.result.now) list) c.deref-3.ensures.value
    c.in_ok-list.ensures.pieces) in
    let marked : AreFirstMarked list marks c.mark_first.result c.args.most =
    subst (λ (ps : List Pair). AreFirstMarked ps marks c.mark_first.result c.args.most) c.deref-4.ensures.value c.mark_first.ensures.marked in
    largest_pieces twins firsts sizes (length faces) c.in_ok-firsts.ensures size list keys c.in_ok-list.ensures.sorted c.requires.few marks
    kept c.mark_first.result c.args.most marked is
