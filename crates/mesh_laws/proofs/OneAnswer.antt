-- That `inspect` has one answer but for the numbers of pairs of faces, and `check` of a finished mesh.
--
-- What is counted has one number (same_number). A file is too long, or it is rejected for one reason, or it is the text of one mesh
-- (files_one).
use Rattle.std.proofs.Common.{ℕ, suc, ◌≡◌, ◌≢◌, ◌+◌, ◌-◌, ◌<◌, ◌≤◌, ◌⊎◌, ◌∙◌, inl, inr, refl, sym, ap, subst, arith}
use Rattle.std.proofs.Common.{List, [], ◌∷◌, length, get_or, remove, Option, Some, None, IfSome, IfNone, AllPairs, Contains, ℤ}
use Rattle.std.proofs.lemmas.Bool.{cases_lt, cases_eq}
use Rattle.std.proofs.lemmas.List.{get_or_default}
use Rattle.std.proofs.lemmas.List.Edits.{length-remove, get_or-remove_below, get_or-remove_above}
use Rattle.geo_sign.specs.Point.{Point}
use Rattle.host.specs.State.{Files}
use Rattle.sha2.specs.Sha256.{sha256}
use Rattle.mesh.specs.Meshes.{Surface}
use Rattle.mesh_edges.specs.Things.{AreSoMany}
use Rattle.mesh_edges.specs.Edges.{IsBalanced, IsFirstUnbalanced, ComesFirst}
use Rattle.mesh_edges.specs.declared.balance.UnbalancedEdge.{UnbalancedEdge}
use Rattle.mesh_check.specs.Homes.{IsFirstFar}
use Rattle.mesh_check.specs.Verdicts.{IsFirstFault, IsJudgment, HasNonManifold, HasFarVertex}
use Rattle.mesh_check.specs.declared.verdict.Demands.{Demands}
use Rattle.mesh_check.specs.declared.verdict.Fault.{Fault}
use Rattle.mesh_check.specs.declared.verdict.Fault.TheVariants.{Unbalanced, NonManifold, FarVertex, UnreachedVertex, UncoveredOriginal, UncoveredFace}
use Rattle.mesh_check.specs.declared.verdict.Verdict.{Verdict}
use Rattle.mesh_check.specs.declared.verdict.Verdict.TheVariants.{Keeps, Breaks}
use Rattle.mesh_measures.specs.declared.topology.Topology.{Topology}
use Rattle.finish_options.specs.declared.options.Made.{Made}
use Rattle.finish_options.specs.declared.options.Made.TheVariants as making
use Rattle.mesh_provenance.specs.Laws.{IsFile}
use Rattle.mesh_provenance.specs.Texts.{file_text}
use Rattle.mesh_provenance.specs.declared.provenance.Provenance.{Provenance}
use Rattle.mesh_provenance.proofs.FileRefused.{file_once}
use Rattle.command_run.specs.Answers.{Answer, file_limit}
use Rattle.mesh_cmd.specs.Check.{ConfirmAnswer, IsJudgedBy, check_answers, demands_of, verdict_answer}
use Rattle.mesh_cmd.specs.Input.{Answering, FileAnswered, IsUnreadFile, ToInput, error_line_at}
use Rattle.mesh_cmd.specs.Inspect.{IsInspection, AreMeasuresOf}
use Rattle.mesh_cmd.specs.declared.commands.inspect.Measures.{Measures}
use Rattle.mesh_cmd.specs.declared.input.Role.{Role}
use Rattle.mesh_cmd.specs.declared.input.Role.TheVariants.{First, Finished}
use Rattle.mesh_laws.specs.Laws.{InspectAnswerIsOne, ConfirmAnswerIsOne, InspectsAlike, ConfirmsAlike, IsOfSimplified, inspected}
use Rattle.mesh_laws.proofs.Files.{answered, not_unread}
use Rattle.mesh_laws.proofs.Kept.{never, never_unbalanced, nothing}

-- ---- numbers
-- a thing of a list that is not the removed one is left
left : {A : Type 0} (ys : List A) (i : ℕ) (a x : A) → i < length ys → get_or ys i x ≡ x → a ≢ x → Contains ys a
    → Contains (remove ys i) a
left ys i a x below is other (j, within, has) =
    elim (cases_lt j i) [
      | inl before ↦
          (j, omega (arith, length-remove ys i below), get_or-remove_below ys i a j before below ∙ has)
      | inr more ↦
          elim (cases_eq j i) [
            | inl same ↦
                absurd (other
                (sym has ∙ (get_or_default ys j a x within ∙ (ap (λ (k : ℕ). get_or ys k x) same ∙ is))))
            | inr apart ↦
                let back : j - 1 + 1 ≡ j = omega arith in (
                  j - 1,
                  omega (arith, length-remove ys i below),
                  get_or-remove_above ys i a (j - 1) (omega arith) below ∙ (ap (λ (k : ℕ). get_or ys k a) back ∙ has),
                )
          ]
    ]

-- a list without repetitions is no longer than one that has all its things
no_longer : {A : Type 0} (xs ys : List A) → AllPairs (λ a b. a ≢ b) xs → ((a : A) → Contains xs a → Contains ys a)
    → length xs ≤ length ys
no_longer [] ys apart has = omega arith
no_longer {A} (x ∷ xs) ys apart has =
    let at = has x (0, omega arith, refl) in
    let rest : length xs ≤ length (remove ys at.0) =
    no_longer xs (remove ys at.0) (λ i j d l m. apart (suc i) (suc j) d (omega arith) (omega arith))
    (λ a (k, within, is). left ys at.0 a x at.1 at.2 (differs a k within is) (has a (suc k, omega arith, is))) in
    omega (arith, rest, length-remove ys at.0 at.1)
  where
    differs : (a : A) (k : ℕ) → k < length xs → get_or xs k a ≡ a → a ≢ x
    differs a k within is same = apart 0 (suc k) a (omega arith) (omega arith) (sym same ∙ sym is)

same_number : {A : Type 0} (P : A → Type 0) (n m : ℕ) → AreSoMany P n → AreSoMany P m → n ≡ m
same_number P n m a b =
    omega (
      arith,
      a.number,
      b.number,
      no_longer a.things b.things a.distinct (λ x (k, within, is). b.every x (subst P is (a.each k x within))),
      no_longer b.things a.things b.distinct (λ x (k, within, is). a.every x (subst P is (b.each k x within))),
    )

-- of two pairs one comes first, or they are one
cases_first : (u v s t : ℕ) → ComesFirst u v s t ⊎ (ComesFirst s t u v ⊎ ((u ≡ s) × (v ≡ t)))
cases_first u v s t = grind arith

edge_one : (faces : List (List ℕ)) (e f : UnbalancedEdge) → IsFirstUnbalanced faces e.from e.to e.there e.back
    → IsFirstUnbalanced faces f.from f.to f.there f.back → e ≡ f
edge_one faces e f a b =
    let same = same_pair (cases_first e.from e.to f.from f.to) in
    let there : e.there ≡ f.there = cc (a.there, b.there, same.0, same.1) in
    let back : e.back ≡ f.back = cc (a.back, b.back, same.0, same.1) in
    ap (λ (k : ℕ). edge k e.to e.there e.back) same.0
    ∙ (ap (λ (k : ℕ). edge f.from k e.there e.back) same.1
    ∙ (ap (λ (k : ℕ). edge f.from f.to k e.back) there ∙ ap (λ (k : ℕ). edge f.from f.to f.there k) back))
  where
    edge : (from to there back : ℕ) → UnbalancedEdge
    edge from to there back = record { from = from; to = to; there = there; back = back }

    same_pair : ComesFirst e.from e.to f.from f.to ⊎ (ComesFirst f.from f.to e.from e.to ⊎ ((e.from ≡ f.from) × (e.to ≡ f.to)))
        → (e.from ≡ f.from) × (e.to ≡ f.to)
    same_pair (inl first) = absurd (a.differ (a.there ∙ (b.smallest e.from e.to first ∙ sym a.back)))
    same_pair (inr (inl first)) = absurd (b.differ (b.there ∙ (a.smallest f.from f.to first ∙ sym b.back)))
    same_pair (inr (inr same)) = same

far_one : (fine within : ℕ) (homes points : List Point) (i j : ℕ) → IsFirstFar fine within homes points i
    → IsFirstFar fine within homes points j → i ≡ j
far_one fine within homes points i j a b =
    elim (cases_lt i j) [
      | inl less ↦ absurd (a.far (b.before i less))
      | inr more ↦
          elim (cases_eq i j) [
            | inl same ↦ same
            | inr other ↦ absurd (b.far (a.before j (omega arith)))
          ]
    ]

-- ---- verdicts
some_bad : (homes : List Point) (d : Demands) (points : List Point) (faces : List (List ℕ)) (edges vertices v : ℕ)
    → HasNonManifold d.manifold points faces edges vertices
    → HasFarVertex homes d points faces v → ⊥
some_bad homes d points faces edges vertices v has far =
    let manifold = far.manifold has.asked_so in
    omega (
      arith,
      has.some,
      nothing _ edges has.edge_count manifold.edges,
      nothing _ vertices has.vertex_count manifold.vertices,
    )

fault_one : (homes : List Point) (d : Demands) (points : List Point) (faces : List (List ℕ)) (f g : Fault)
    → IsFirstFault homes d points faces f → IsFirstFault homes d points faces g → f ≡ g
fault_one homes d points faces (Unbalanced e) g a b = by g b
  where
    by : (g : Fault) → IsFirstFault homes d points faces g → Unbalanced e ≡ g
    by (Unbalanced f) b = ap Unbalanced (edge_one faces e f a b)
    by (NonManifold edges vertices) (closed, has) = absurd (never_unbalanced faces e.from e.to e.there e.back closed a)
    by (FarVertex v) b = absurd (never_unbalanced faces e.from e.to e.there e.back b.closed a)
    by (UnreachedVertex v) b = absurd b
    by (UncoveredOriginal i) b = absurd b
    by (UncoveredFace i) b = absurd b
fault_one homes d points faces (NonManifold edges vertices) g (closed, has) b = by g b
  where
    by : (g : Fault) → IsFirstFault homes d points faces g → NonManifold edges vertices ≡ g
    by (Unbalanced f) b = absurd (never_unbalanced faces f.from f.to f.there f.back closed b)
    by (NonManifold other_edges others) (shut, other) =
        ap (λ (n : ℕ). NonManifold n vertices) (same_number _ edges other_edges has.edge_count other.edge_count)
        ∙ ap (NonManifold other_edges) (same_number _ vertices others has.vertex_count other.vertex_count)
    by (FarVertex v) b = absurd (some_bad homes d points faces edges vertices v has b)
    by (UnreachedVertex v) b = absurd b
    by (UncoveredOriginal i) b = absurd b
    by (UncoveredFace i) b = absurd b
fault_one homes d points faces (FarVertex v) g a b = by g b
  where
    by : (g : Fault) → IsFirstFault homes d points faces g → FarVertex v ≡ g
    by (Unbalanced f) b = absurd (never_unbalanced faces f.from f.to f.there f.back a.closed b)
    by (NonManifold edges vertices) (closed, has) = absurd (some_bad homes d points faces edges vertices v has a)
    by (FarVertex w) b = ap FarVertex (far_one d.fine d.within homes points v w a.far b.far)
    by (UnreachedVertex w) b = absurd b
    by (UncoveredOriginal i) b = absurd b
    by (UncoveredFace i) b = absurd b
fault_one homes d points faces (UnreachedVertex v) g a b = absurd a
fault_one homes d points faces (UncoveredOriginal i) g a b = absurd a
fault_one homes d points faces (UncoveredFace i) g a b = absurd a

-- equal, or alike
abbrev AreAlike : (answer other : Answer) → Type 0
AreAlike answer other = (answer ≡ other) ⊎ ConfirmsAlike answer other

verdict_one : (homes : List Point) (d : Demands) (out : Surface) (v w : Verdict) (answer other : Answer)
    → IsJudgment homes d out.points out.faces v → IsJudgment homes d out.points out.faces w → answer ≡ verdict_answer out v
    → other ≡ verdict_answer out w → AreAlike answer other
verdict_one homes d out (Keeps counts) (Keeps others) answer other a b is so =
    inr (record {
      points = length out.points;
      faces = length out.faces;
      counts = counts;
      other_counts = others;
      is = is;
      other_is = so;
    })
verdict_one homes d out (Keeps counts) (Breaks fault) answer other (keeps, counted) b is so =
    absurd (never homes d out.points out.faces fault keeps b)
verdict_one homes d out (Breaks fault) (Keeps counts) answer other a (keeps, counted) is so =
    absurd (never homes d out.points out.faces fault keeps a)
verdict_one homes d out (Breaks fault) (Breaks others) answer other a b is so =
    inl (is ∙ (ap (λ (f : Fault). verdict_answer out (Breaks f)) (fault_one homes d out.points out.faces fault others a b) ∙ sym so))

-- ---- files
unread_one : (role : Role) (bytes : List ℕ) (answer other : Answer) → IsUnreadFile role file_limit bytes answer
    → IsUnreadFile role file_limit bytes other → answer ≡ other
unread_one role bytes answer other (inl a) (inl b) = a.is ∙ sym b.is
unread_one role bytes answer other (inl a) (inr b) = absurd (omega (arith, a.longer, b.within))
unread_one role bytes answer other (inr a) (inl b) = absurd (omega (arith, b.longer, a.within))
unread_one role bytes answer other (inr a) (inr b) =
    let same = file_once bytes a.why b.why a.refused b.refused in
    let lines : Some a.line ≡ Some b.line = sym a.line_is ∙ (ap (error_line_at role) same ∙ b.line_is) in
    let line : a.line ≡ b.line = cc lines in
    cc (a.is, b.is, line)

-- two answers to one file, by those to its mesh
bytes_one : (role : Role) (A : Answering) (bytes : List ℕ) (answer other : Answer) (R : Type 0) → (answer ≡ other → R)
    → ((p : Option Provenance) (mesh : Surface) → IsFile p mesh.points mesh.faces → bytes ≡ file_text p mesh.points mesh.faces
    → A bytes p mesh answer → A bytes p mesh other → R)
    → IsUnreadFile role file_limit bytes answer ⊎ FileAnswered file_limit A bytes answer
    → IsUnreadFile role file_limit bytes other ⊎ FileAnswered file_limit A bytes other → R
bytes_one role A bytes answer other R equal each (inl a) (inl b) = equal (unread_one role bytes answer other a b)
bytes_one role A bytes answer other R equal each (inl a) (inr b) =
    absurd (not_unread role file_limit bytes answer b.provenance b.mesh b.within b.file b.text_is a)
bytes_one role A bytes answer other R equal each (inr a) (inl b) =
    absurd (not_unread role file_limit bytes other a.provenance a.mesh a.within a.file a.text_is b)
bytes_one role A bytes answer other R equal each (inr a) (inr b) =
    each a.provenance a.mesh a.file a.text_is a.answers
    (answered file_limit A bytes other a.provenance a.mesh a.file a.text_is b)

files_one : (role : Role) (name : List ℕ) (A : Answering) (files : Files) (answer other : Answer) (R : Type 0)
    → (answer ≡ other → R)
    → ((bytes : List ℕ) (p : Option Provenance) (mesh : Surface) → files name ≡ Some bytes → IsFile p mesh.points mesh.faces
    → bytes ≡ file_text p mesh.points mesh.faces → A bytes p mesh answer → A bytes p mesh other → R)
    → ToInput role file_limit name A files answer → ToInput role file_limit name A files other → R
files_one role name A files answer other R equal each (bytes, has, a) (found, there, b) =
    let same : found ≡ bytes = cc (has, there) in
    bytes_one role A bytes answer other R equal (λ p mesh. each bytes p mesh has) a
    (subst (λ (l : List ℕ). IsUnreadFile role file_limit l other ⊎ FileAnswered file_limit A l other) same b)

-- ---- `check`
check_one : (names_output : List ℕ) (files : Files) (digest bytes : List ℕ) (mesh out : Surface) (p : Option Provenance)
    (answer other : Answer) → files names_output ≡ Some bytes → IsFile p out.points out.faces
    → bytes ≡ file_text p out.points out.faces → ConfirmAnswer digest mesh p out answer → ConfirmAnswer digest mesh p out other
    → AreAlike answer other ⊎ IsOfSimplified files names_output
check_one output files digest bytes mesh out None answer other has file is a b = inl (inl (a ∙ sym b))
check_one output files digest bytes mesh out (Some p) answer other has file is (inl a) (inl b) = inl (inl (a.1 ∙ sym b.1))
check_one output files digest bytes mesh out (Some p) answer other has file is (inl a) (inr b) = absurd (a.0 b.0)
check_one output files digest bytes mesh out (Some p) answer other has file is (inr a) (inl b) = absurd (b.0 a.0)
check_one output files digest bytes mesh out (Some p) answer other has file is (inr (same, a)) (inr (so, b)) =
    by p.made refl a.holds b.holds
  where
    by : (made : Made) → p.made ≡ made → IsJudgedBy mesh p.made p.fine out a.verdict → IsJudgedBy mesh p.made p.fine out b.verdict
        → AreAlike answer other ⊎ IsOfSimplified files output
    by (making.Finish o) e one two =
        inl (verdict_one mesh.points (demands_of o p.fine) out a.verdict b.verdict answer other
        (subst (λ (m : Made). IsJudgedBy mesh m p.fine out a.verdict) e one)
        (subst (λ (m : Made). IsJudgedBy mesh m p.fine out b.verdict) e two) a.is b.is)
    by (making.Simplify o) e one two =
        inr (record { bytes = bytes; has = has; provenance = p; mesh = out; file = file; text_is = is; options = o; made = e })

pub check_answer_is_one : ConfirmAnswerIsOne
check_answer_is_one = λ names files answer other.
    files_one First names.input
    (λ bytes _ mesh. ToInput Finished file_limit names.output (check_answers (sha256 bytes) mesh) files) files answer other
    (AreAlike answer other ⊎ IsOfSimplified files names.output) (λ e. inl (inl e))
    (λ bytes p mesh has file is.
    files_one Finished names.output (check_answers (sha256 bytes) mesh) files answer other
    (AreAlike answer other ⊎ IsOfSimplified files names.output) (λ e. inl (inl e))
    (λ text q out there out_file out_is.
    check_one names.output files (sha256 bytes) text mesh out q answer other there out_file out_is))

-- ---- `inspect`
unbalanced_one : (faces : List (List ℕ)) (e f : Option UnbalancedEdge) → IfNone e (IsBalanced faces)
    → IfSome e (λ x. IsFirstUnbalanced faces x.from x.to x.there x.back) → IfNone f (IsBalanced faces)
    → IfSome f (λ x. IsFirstUnbalanced faces x.from x.to x.there x.back) → e ≡ f
unbalanced_one faces None None a first b second = refl
unbalanced_one faces None (Some f) a first b second = absurd (never_unbalanced faces f.from f.to f.there f.back a second)
unbalanced_one faces (Some e) None a first b second = absurd (never_unbalanced faces e.from e.to e.there e.back b first)
unbalanced_one faces (Some e) (Some f) a first b second = ap Some (edge_one faces e f first second)

measures_one : (mesh : Surface) (m n : Measures) → AreMeasuresOf mesh m → AreMeasuresOf mesh n
    → n ≡ record m { crossings = n.crossings }
measures_one mesh m n a b =
    let e : n.unbalanced ≡ m.unbalanced =
    unbalanced_one mesh.faces n.unbalanced m.unbalanced b.closed b.unbalanced a.closed a.unbalanced in
    let edges : n.topology.nonmanifold_edges ≡ m.topology.nonmanifold_edges =
    same_number _ _ _ b.topology.edges a.topology.edges in
    let vertices : n.topology.nonmanifold_vertices ≡ m.topology.nonmanifold_vertices =
    same_number _ _ _ b.topology.vertices a.topology.vertices in
    let pieces : n.topology.pieces ≡ m.topology.pieces = same_number _ _ _ b.topology.pieces a.topology.pieces in
    let flat : n.flat_faces ≡ m.flat_faces = same_number _ _ _ b.flat a.flat in
    let volume : n.six_volume ≡ m.six_volume = b.volume ∙ sym a.volume in
    ap (λ (u : Option UnbalancedEdge). of u n.topology n.flat_faces n.six_volume) e
    ∙ (ap (λ (k : ℕ). of m.unbalanced (topology k n.topology.nonmanifold_vertices n.topology.pieces) n.flat_faces n.six_volume) edges
    ∙ (ap (λ (k : ℕ). of m.unbalanced (topology m.topology.nonmanifold_edges k n.topology.pieces) n.flat_faces n.six_volume) vertices
    ∙ (ap
    (λ (k : ℕ). of m.unbalanced (topology m.topology.nonmanifold_edges m.topology.nonmanifold_vertices k) n.flat_faces n.six_volume)
    pieces
    ∙ (ap (λ (k : ℕ). of m.unbalanced m.topology k n.six_volume) flat
    ∙ ap (λ (v : ℤ). of m.unbalanced m.topology m.flat_faces v) volume))))
  where
    topology : (edges vertices pieces : ℕ) → Topology
    topology edges vertices pieces = record { nonmanifold_edges = edges; nonmanifold_vertices = vertices; pieces = pieces }

    of : Option UnbalancedEdge → Topology → (flat : ℕ) → (six : ℤ) → Measures
    of u t flat six = record { unbalanced = u; topology = t; flat_faces = flat; crossings = n.crossings; six_volume = six }

pub inspect_answer_is_one : InspectAnswerIsOne
inspect_answer_is_one = λ name files answer other.
    files_one First name (λ bytes provenance mesh. IsInspection mesh) files answer other
    ((answer ≡ other) ⊎ InspectsAlike answer other) inl
    (λ bytes p mesh has file is a b.
    inr (record {
      points = length mesh.points;
      faces = length mesh.faces;
      measures = a.measures;
      pairs = b.measures.crossings;
      is = a.is;
      other_is =
          b.is ∙ ap (λ (m : Measures). inspected (length mesh.points) (length mesh.faces) m)
          (measures_one mesh a.measures b.measures a.so b.so);
    }))
