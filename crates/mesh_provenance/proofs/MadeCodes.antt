-- The line of what was done says what, and with which options.
--
-- The words of the two kinds of lines differ in their twentieth byte (finish_not_simplify). What follows the word is one of the options of
-- its kind (options_code, simplify_code).
use Rattle.std.proofs.Common.{ℕ, ◌≡◌, ◌-◌, ◌^◌, ap, sym, refl, ◌∙◌, arith, Bool, true, false, List, ◌++◌, get_or, append_assoc}
use Rattle.line_text.specs.Numbers.{ended, counted, BeginsWithNone}
use Rattle.geo_sign.specs.Numbers.{IsBetween}
use Rattle.line_text.proofs.Codes.{IsCode, behind_same, ended_code, counted_code}
use Rattle.mesh_ply.specs.Texts.{vertex_word}
use Rattle.finish_options.specs.declared.options.FinishOptions.{FinishOptions}
use Rattle.finish_options.specs.declared.options.SimplifyOptions.{SimplifyOptions}
use Rattle.finish_options.specs.declared.options.Made.{Made}
use Rattle.finish_options.specs.declared.options.Made.TheVariants.{Finish, Simplify}
use Rattle.finish_options.specs.declared.options.TheConstants.{FARTHEST}
use Rattle.mesh_provenance.specs.Options.{AreOptions, options_end}
use Rattle.mesh_provenance.specs.Simplifying.{AreSimplifyOptions, simplify_word, faces_word, surface_word, covered_text, move_word, moved_text, simplify_end}
use Rattle.mesh_provenance.specs.Texts.{IsMade, finish_word, made_line}
use Rattle.mesh_provenance.proofs.OptionCodes.{options_code}

f_not_s : ◌≡◌ {A = ℕ} 102 115 → ⊥
f_not_s e = omega arith

c_not_e : ◌≡◌ {A = ℕ} 99 101 → ⊥
c_not_e e = omega arith

pub finish_not_simplify : (r t : List ℕ) → finish_word ++ r ≡ simplify_word ++ t → ⊥
unfolding finish_word simplify_word
finish_not_simplify r t e = f_not_s (ap (λ (l : List ℕ). get_or l 19 0) e)

-- ---- the numbers of simplifying
with_options : (within faces : ℕ) (surface moves : Bool) → SimplifyOptions
with_options within faces surface moves = record { within = within; faces = faces; surface = surface; moves = moves }

pub simplify_parts : (o : SimplifyOptions) (r : List ℕ)
    → simplify_end o ++ r ≡ ended o.within 32 ++ (covered_text o.surface ++ (moved_text o.moves ++ (counted faces_word o.faces ++ r)))
simplify_parts o r =
    append_assoc (ended o.within 32) (covered_text o.surface ++ (moved_text o.moves ++ counted faces_word o.faces)) r
    ∙ ap (λ (l : List ℕ). ended o.within 32 ++ l)
    (append_assoc (covered_text o.surface) (moved_text o.moves ++ counted faces_word o.faces) r
    ∙ ap (λ (l : List ℕ). covered_text o.surface ++ l) (append_assoc (moved_text o.moves) (counted faces_word o.faces) r))

s_not_f : ◌≡◌ {A = ℕ} 115 102 → ⊥
s_not_f e = omega arith

s_not_m : ◌≡◌ {A = ℕ} 115 109 → ⊥
s_not_m e = omega arith

m_not_f : ◌≡◌ {A = ℕ} 109 102 → ⊥
m_not_f e = omega arith

-- what follows does not begin as the text that all points are meant
rest_not_surface : (x : Bool) (n : ℕ) (r s : List ℕ) → surface_word ++ s ≡ moved_text x ++ (counted faces_word n ++ r) → ⊥
unfolding surface_word move_word faces_word
rest_not_surface true n r s e = s_not_m (ap (λ (l : List ℕ). get_or l 0 0) e)
rest_not_surface false n r s e = s_not_f (ap (λ (l : List ℕ). get_or l 0 0) e)

-- a number of faces does not begin as the text that vertices move
faces_not_move : (n : ℕ) (r s : List ℕ) → move_word ++ s ≡ counted faces_word n ++ r → ⊥
unfolding move_word faces_word
faces_not_move n r s e = m_not_f (ap (λ (l : List ℕ). get_or l 0 0) e)

surface_code : (v w x y : Bool) (m n : ℕ) (r s : List ℕ)
    → covered_text v ++ (moved_text x ++ (counted faces_word m ++ r)) ≡ covered_text w ++ (moved_text y ++ (counted faces_word n ++ s))
    → (v ≡ w) × (moved_text x ++ (counted faces_word m ++ r) ≡ moved_text y ++ (counted faces_word n ++ s))
surface_code true true x y m n r s e = (refl, behind_same surface_word _ _ e)
surface_code true false x y m n r s e = absurd (rest_not_surface y n s _ e)
surface_code false true x y m n r s e = absurd (rest_not_surface x m r _ (sym e))
surface_code false false x y m n r s e = (refl, e)

moves_code : (v w : Bool) (m n : ℕ) (r s : List ℕ)
    → moved_text v ++ (counted faces_word m ++ r) ≡ moved_text w ++ (counted faces_word n ++ s)
    → (v ≡ w) × (counted faces_word m ++ r ≡ counted faces_word n ++ s)
moves_code true true m n r s e = (refl, behind_same move_word _ _ e)
moves_code true false m n r s e = absurd (faces_not_move n s _ e)
moves_code false true m n r s e = absurd (faces_not_move m r _ (sym e))
moves_code false false m n r s e = (refl, e)

simplify_code : IsCode AreSimplifyOptions simplify_end
unfolding with_options
simplify_code v w r s a b e =
    let within =
    ended_code v.within w.within 32 _ _ (omega arith) (omega (arith, a.0.1)) (omega (arith, b.0.1))
    (sym (simplify_parts v r) ∙ e ∙ simplify_parts w s) in
    let surface = surface_code v.surface w.surface v.moves w.moves v.faces w.faces r s within.1 in
    let moves = moves_code v.moves w.moves v.faces w.faces r s surface.1 in
    let faces =
    counted_code faces_word v.faces w.faces r s (omega (arith, a.1.1)) (omega (arith, b.1.1)) moves.1 in (
      ap (λ (n : ℕ). with_options n v.faces v.surface v.moves) within.0
          ∙ ap (λ (n : ℕ). with_options w.within n v.surface v.moves) faces.0
          ∙ ap (λ (x : Bool). with_options w.within w.faces x v.moves) surface.0
          ∙ ap (λ (x : Bool). with_options w.within w.faces w.surface x) moves.0,
      faces.1,
    )

-- texts that begin with no such numbers
pub no_distance : (text : List ℕ) → BeginsWithNone (IsBetween 1 FARTHEST) (λ n. ended n 32) text
    → BeginsWithNone AreSimplifyOptions simplify_end text
no_distance text none = λ o r h e. none o.within _ h.0 (e ∙ simplify_parts o r)

pub no_faces : (text behind next last : List ℕ) (n : ℕ) (surface moves : Bool) → IsBetween 1 FARTHEST n → text ≡ ended n 32 ++ behind
    → behind ≡ covered_text surface ++ next → (surface ≡ false → (rest : List ℕ) → ¬ (behind ≡ surface_word ++ rest))
    → next ≡ moved_text moves ++ last → (moves ≡ false → (rest : List ℕ) → ¬ (next ≡ move_word ++ rest))
    → BeginsWithNone (IsBetween 0 (2 ^ 32 - 1)) (counted faces_word) last → BeginsWithNone AreSimplifyOptions simplify_end text
no_faces text behind next last n surface moves fits is behind_is not next_is stay none = λ o r h e.
    let first =
    ended_code n o.within 32 behind _ (omega arith) (omega (arith, fits.1)) (omega (arith, h.0.1))
    (sym is ∙ (e ∙ simplify_parts o r)) in
    rest moves o.moves o.faces r h.1 next_is stay (skip surface o.surface o.moves o.faces r behind_is not first.1)
  where
    skip : (x y z : Bool) (m : ℕ) (r : List ℕ) → behind ≡ covered_text x ++ next
        → (x ≡ false → (t : List ℕ) → ¬ (behind ≡ surface_word ++ t))
        → behind ≡ covered_text y ++ (moved_text z ++ (counted faces_word m ++ r))
        → next ≡ moved_text z ++ (counted faces_word m ++ r)
    skip true true z m r e never f = behind_same surface_word _ _ (sym e ∙ f)
    skip true false z m r e never f = absurd (rest_not_surface z m r _ (sym e ∙ f))
    skip false true z m r e never f = absurd (never refl _ f)
    skip false false z m r e never f = sym e ∙ f

    rest : (x y : Bool) (m : ℕ) (r : List ℕ) → IsBetween 0 (2 ^ 32 - 1) m → next ≡ moved_text x ++ last
        → (x ≡ false → (t : List ℕ) → ¬ (next ≡ move_word ++ t)) → next ≡ moved_text y ++ (counted faces_word m ++ r)
        → ⊥
    rest true true m r k e never f = none m r k (behind_same move_word _ _ (sym e ∙ f))
    rest true false m r k e never f = faces_not_move m r _ (sym e ∙ f)
    rest false true m r k e never f = never refl _ f
    rest false false m r k e never f = none m r k (sym e ∙ f)

-- ---- the line
pub finish_parts : (o : FinishOptions) (r : List ℕ) → made_line (Finish o) ++ r ≡ finish_word ++ (options_end o ++ r)
finish_parts o r = append_assoc finish_word (options_end o) r

pub simplified_parts : (o : SimplifyOptions) (r : List ℕ)
    → made_line (Simplify o) ++ r ≡ simplify_word ++ (simplify_end o ++ r)
simplified_parts o r = append_assoc simplify_word (simplify_end o) r

pub made_code : IsCode IsMade made_line
made_code (Finish v) (Finish w) r s a b e =
    let both = options_code v w r s a b (behind_same finish_word _ _ (sym (finish_parts v r) ∙ e ∙ finish_parts w s)) in
    (ap Finish both.0, both.1)
made_code (Finish v) (Simplify w) r s a b e =
    absurd (finish_not_simplify _ _ (sym (finish_parts v r) ∙ e ∙ simplified_parts w s))
made_code (Simplify v) (Finish w) r s a b e =
    absurd (finish_not_simplify _ _ (sym (finish_parts w s) ∙ sym e ∙ simplified_parts v r))
made_code (Simplify v) (Simplify w) r s a b e =
    let both =
    simplify_code v w r s a b (behind_same simplify_word _ _ (sym (simplified_parts v r) ∙ e ∙ simplified_parts w s)) in
    (ap Simplify both.0, both.1)

-- it is not the line of a number of vertices
pub made_not_vertices : (m : Made) (r s : List ℕ) (n : ℕ) → made_line m ++ r ≡ counted vertex_word n ++ s → ⊥
unfolding finish_word simplify_word vertex_word
made_not_vertices (Finish o) r s n e = c_not_e (ap (λ (l : List ℕ). get_or l 0 0) e)
made_not_vertices (Simplify o) r s n e = c_not_e (ap (λ (l : List ℕ). get_or l 0 0) e)

-- ---- texts that begin with no such line
pub none_after_simplify : (text behind : List ℕ) → text ≡ simplify_word ++ behind
    → BeginsWithNone AreSimplifyOptions simplify_end behind → BeginsWithNone IsMade made_line text
none_after_simplify text behind is none (Finish o) r h e =
    finish_not_simplify _ behind (sym (finish_parts o r) ∙ (sym e ∙ is))
none_after_simplify text behind is none (Simplify o) r h e =
    none o r h (behind_same simplify_word _ _ (sym is ∙ (e ∙ simplified_parts o r)))

pub none_of_words : (text : List ℕ) → ((rest : List ℕ) → ¬ (text ≡ simplify_word ++ rest))
    → ((rest : List ℕ) → ¬ (text ≡ finish_word ++ rest)) → BeginsWithNone IsMade made_line text
none_of_words text one other (Finish o) r h e = other _ (e ∙ finish_parts o r)
none_of_words text one other (Simplify o) r h e = one _ (e ∙ simplified_parts o r)

pub none_after_finish : (text behind : List ℕ) → text ≡ finish_word ++ behind → BeginsWithNone AreOptions options_end behind
    → BeginsWithNone IsMade made_line text
none_after_finish text behind is none (Finish o) r h e =
    none o r h (behind_same finish_word _ _ (sym is ∙ (e ∙ finish_parts o r)))
none_after_finish text behind is none (Simplify o) r h e =
    finish_not_simplify behind _ (sym is ∙ (e ∙ simplified_parts o r))
