-- The text of options says which they are.
--
-- Each option has a text that begins with a space and a letter of its own, or none. So the text from one option on begins with the word
-- of that option exactly if it is there (smooth_not_flips, flips_not_split, split_not_pieces), and what follows the word is one
-- (smoothing_code, flips_code, split_code). A number of pieces ends at the first space or line feed (number_stopped), with which the rest
-- of the line begins in any case (stopped_split).
use Rattle.std.proofs.Common.{ℕ, suc, ◌≡◌, ◌<◌, ◌^◌, inl, inr, refl, ap, sym, subst, ◌∙◌, arith, Bool, true, false, Option, Some, None}
use Rattle.std.proofs.Common.{List, [], ◌∷◌, ◌++◌, length, get_or, decimal, append_assoc}
use Rattle.std.proofs.lemmas.Fmt.{decimal_injective}
use Rattle.line_text.specs.Numbers.{ended, counted}
use Rattle.line_text.proofs.Codes.{IsCode, behind_same, ended_code, counted_code, decimal_lacks}
use Rattle.finish_options.specs.declared.options.FinishOptions.{FinishOptions}
use Rattle.finish_options.specs.declared.options.SmoothOptions.{SmoothOptions}
use Rattle.mesh_provenance.specs.Options.{IsPieces, IsSmoothing, AreOptions, pieces_word, split_word, flips_word, steps_word, within_word}
use Rattle.mesh_provenance.specs.Options.{smooth_end, flips_end, split_end, options_end}
use Rattle.mesh_provenance.specs.Tails.{IsStop, IsStopped, IsNumbers, numbers_end, IsFlipsTail, IsSplitTail, Counted, IsCounted, counted_end}

-- ---- first bytes
line_feed_not_space : ◌≡◌ {A = ℕ} 10 32 → ⊥
line_feed_not_space e = omega arith

s_not_f : ◌≡◌ {A = ℕ} 115 102 → ⊥
s_not_f e = omega arith

s_not_m : ◌≡◌ {A = ℕ} 115 109 → ⊥
s_not_m e = omega arith

s_not_p : ◌≡◌ {A = ℕ} 115 112 → ⊥
s_not_p e = omega arith

f_not_m : ◌≡◌ {A = ℕ} 102 109 → ⊥
f_not_m e = omega arith

f_not_p : ◌≡◌ {A = ℕ} 102 112 → ⊥
f_not_p e = omega arith

m_not_p : ◌≡◌ {A = ℕ} 109 112 → ⊥
m_not_p e = omega arith

pub smooth_not_flips : (s : Option SmoothOptions) (r t : List ℕ) → smooth_end s ++ r ≡ flips_word ++ t → ⊥
unfolding steps_word flips_word
smooth_not_flips None r t e = line_feed_not_space (ap (λ (l : List ℕ). get_or l 0 0) e)
smooth_not_flips (Some s) r t e = s_not_f (ap (λ (l : List ℕ). get_or l 1 0) e)

pub flips_not_split : (p : Bool × Option SmoothOptions) (r t : List ℕ) → flips_end p ++ r ≡ split_word ++ t → ⊥
unfolding steps_word flips_word split_word
flips_not_split (false, s) r t e = f_not_m (ap (λ (l : List ℕ). get_or l 1 0) e)
flips_not_split (true, None) r t e = line_feed_not_space (ap (λ (l : List ℕ). get_or l 0 0) e)
flips_not_split (true, Some s) r t e = s_not_m (ap (λ (l : List ℕ). get_or l 1 0) e)

pub split_not_pieces : (p : Bool × (Bool × Option SmoothOptions)) (r t : List ℕ) → split_end p ++ r ≡ pieces_word ++ t → ⊥
unfolding steps_word flips_word split_word pieces_word
split_not_pieces (true, p) r t e = m_not_p (ap (λ (l : List ℕ). get_or l 1 0) e)
split_not_pieces (false, (false, s)) r t e = f_not_p (ap (λ (l : List ℕ). get_or l 1 0) e)
split_not_pieces (false, (true, None)) r t e = line_feed_not_space (ap (λ (l : List ℕ). get_or l 0 0) e)
split_not_pieces (false, (true, Some s)) r t e = s_not_p (ap (λ (l : List ℕ). get_or l 1 0) e)

-- ---- smoothing
with_numbers : (steps within : ℕ) → SmoothOptions
with_numbers steps within = record { steps = steps; within = within }

pub numbers_parts : (s : SmoothOptions) (r : List ℕ)
    → numbers_end s ++ r ≡ steps_word ++ (ended s.steps 32 ++ (counted within_word s.within ++ r))
numbers_parts s r = simp append_assoc

pub numbers_code : IsCode IsNumbers numbers_end
unfolding with_numbers
numbers_code v w r s a b e =
    let steps =
    ended_code v.steps w.steps 32 _ _ (omega arith) (omega (arith, a.0.1)) (omega (arith, b.0.1))
    (behind_same steps_word _ _ (sym (numbers_parts v r) ∙ e ∙ numbers_parts w s)) in
    let within =
    counted_code within_word v.within w.within r s (omega (arith, a.1.1)) (omega (arith, b.1.1)) steps.1 in (
      ap (λ (n : ℕ). with_numbers n v.within) steps.0 ∙ ap (λ (n : ℕ). with_numbers w.steps n) within.0,
      within.1,
    )

numbers_not_end : (v : SmoothOptions) (r t : List ℕ) → numbers_end v ++ r ≡ 10 ∷ t → ⊥
unfolding steps_word
numbers_not_end v r t e = line_feed_not_space (sym (ap (λ (l : List ℕ). get_or l 0 0) e))

pub smoothing_code : IsCode IsSmoothing smooth_end
smoothing_code None None r s a b e = (refl, behind_same (10 ∷ []) r s e)
smoothing_code None (Some w) r s a b e = absurd (numbers_not_end w s r (sym e))
smoothing_code (Some v) None r s a b e = absurd (numbers_not_end v r s e)
smoothing_code (Some v) (Some w) r s a b e =
    let both = numbers_code v w r s a b e in
    (ap Some both.0, both.1)

-- ---- flips
pub no_flips_parts : (s : Option SmoothOptions) (r : List ℕ) → flips_end (false, s) ++ r ≡ flips_word ++ (smooth_end s ++ r)
no_flips_parts s r = append_assoc flips_word (smooth_end s) r

pub flips_code : IsCode IsFlipsTail flips_end
flips_code (true, v) (true, w) r s a b e =
    let both = smoothing_code v w r s a b e in
    (ap (λ (o : Option SmoothOptions). (true, o)) both.0, both.1)
flips_code (true, v) (false, w) r s a b e = absurd (smooth_not_flips v r (smooth_end w ++ s) (e ∙ no_flips_parts w s))
flips_code (false, v) (true, w) r s a b e = absurd (smooth_not_flips w s (smooth_end v ++ r) (sym e ∙ no_flips_parts v r))
flips_code (false, v) (false, w) r s a b e =
    let both = smoothing_code v w r s a b (behind_same flips_word _ _ (sym (no_flips_parts v r) ∙ e ∙ no_flips_parts w s)) in
    (ap (λ (o : Option SmoothOptions). (false, o)) both.0, both.1)

-- ---- the split
pub split_parts : (p : Bool × Option SmoothOptions) (r : List ℕ) → split_end (true, p) ++ r ≡ split_word ++ (flips_end p ++ r)
split_parts p r = append_assoc split_word (flips_end p) r

pub split_code : IsCode IsSplitTail split_end
split_code (false, v) (false, w) r s a b e =
    let both = flips_code v w r s a b e in
    (ap (λ (o : Bool × Option SmoothOptions). (false, o)) both.0, both.1)
split_code (false, v) (true, w) r s a b e = absurd (flips_not_split v r (flips_end w ++ s) (e ∙ split_parts w s))
split_code (true, v) (false, w) r s a b e = absurd (flips_not_split w s (flips_end v ++ r) (sym e ∙ split_parts v r))
split_code (true, v) (true, w) r s a b e =
    let both = flips_code v w r s a b (behind_same split_word _ _ (sym (split_parts v r) ∙ e ∙ split_parts w s)) in
    (ap (λ (o : Bool × Option SmoothOptions). (true, o)) both.0, both.1)

-- ---- the number of pieces
pub stopped_split : (p : Bool × (Bool × Option SmoothOptions)) (r : List ℕ) → IsStopped (split_end p ++ r)
unfolding steps_word flips_word split_word
stopped_split (true, p) r = inl refl
stopped_split (false, (false, s)) r = inl refl
stopped_split (false, (true, None)) r = inr refl
stopped_split (false, (true, Some s)) r = inl refl

-- no byte of the text is a space or a line feed
abbrev pub LacksStops : List ℕ → Type 0
LacksStops text = (k : ℕ) → k < length text → IsStop (get_or text k 0) → ⊥

first_of : {x y : ℕ} {xs ys : List ℕ} → x ∷ xs ≡ y ∷ ys → x ≡ y
first_of e = cc

lacks_rest : (x : ℕ) (xs : List ℕ) → LacksStops (x ∷ xs) → LacksStops xs
lacks_rest x xs lacks k lt = lacks (suc k) (omega arith)

-- the first space or line feed ends one word
pub stop_split : (w a t u : List ℕ) → LacksStops w → LacksStops a → IsStopped t → IsStopped u → w ++ t ≡ a ++ u
    → (w ≡ a) × (t ≡ u)
stop_split [] [] t u lw la st su e = (refl, e)
stop_split [] (y ∷ a) [] u lw la st su e = absurd st
stop_split [] (y ∷ a) (x ∷ t) u lw la st su e = absurd (la 0 (omega arith) (subst IsStop (first_of e) st))
stop_split (x ∷ w) [] t [] lw la st su e = absurd su
stop_split (x ∷ w) [] t (y ∷ u) lw la st su e = absurd (lw 0 (omega arith) (subst IsStop (sym (first_of e)) su))
stop_split (x ∷ w) (y ∷ a) t u lw la st su e =
    let tails : w ++ t ≡ a ++ u = cc in
    let head : x ≡ y = cc in
    let same = stop_split w a t u (lacks_rest x w lw) (lacks_rest y a la) st su tails in
    (ap (λ (n : ℕ). n ∷ w) head ∙ ap (λ (ws : List ℕ). y ∷ ws) same.0, same.1)

pub decimal_lacks_stops : (n : ℕ) → n < 2 ^ 64 → LacksStops (decimal n)
decimal_lacks_stops n fits k lt (inl e) = decimal_lacks n 32 fits (omega arith) k lt e
decimal_lacks_stops n fits k lt (inr e) = decimal_lacks n 10 fits (omega arith) k lt e

pub number_stopped : (m n : ℕ) (t u : List ℕ) → m < 2 ^ 64 → n < 2 ^ 64 → IsStopped t → IsStopped u
    → decimal m ++ t ≡ decimal n ++ u → (m ≡ n) × (t ≡ u)
number_stopped m n t u a b st su e =
    let same = stop_split (decimal m) (decimal n) t u (decimal_lacks_stops m a) (decimal_lacks_stops n b) st su e in
    (decimal_injective m n a b same.0, same.1)

pub counted_parts : (p : Counted) (r : List ℕ) → counted_end p ++ r ≡ decimal p.0 ++ (split_end p.1 ++ r)
counted_parts p r = append_assoc (decimal p.0) (split_end p.1) r

pub counted_end_code : IsCode IsCounted counted_end
counted_end_code (m, v) (n, w) r s a b e =
    let number =
    number_stopped m n _ _ (omega (arith, a.0.1)) (omega (arith, b.0.1)) (stopped_split v r) (stopped_split w s)
    (sym (counted_parts (m, v) r) ∙ e ∙ counted_parts (n, w) s) in
    let rest = split_code v w r s a.1 b.1 number.1 in
    (ap (λ (k : ℕ). (k, v)) number.0 ∙ ap (λ (p : Bool × (Bool × Option SmoothOptions)). (n, p)) rest.0, rest.1)

-- ---- all options
abbrev pub split_of : FinishOptions → Bool × (Bool × Option SmoothOptions)
split_of o = (o.manifold, (o.flips, o.smoothing))

abbrev options_with : Option ℕ → Bool × (Bool × Option SmoothOptions) → FinishOptions
options_with pieces p = record { pieces = pieces; manifold = p.0; flips = p.1.0; smoothing = p.1.1 }

options_same : (v w : FinishOptions) → v.pieces ≡ w.pieces → split_of v ≡ split_of w → v ≡ w
options_same v w e f =
    ap (λ (p : Option ℕ). options_with p (split_of v)) e
    ∙ ap (λ (p : Bool × (Bool × Option SmoothOptions)). options_with w.pieces p) f

-- with a number of pieces, and without
pub pieces_parts : (o : FinishOptions) (n : ℕ) (r : List ℕ) → o.pieces ≡ Some n
    → options_end o ++ r ≡ pieces_word ++ (counted_end (n, split_of o) ++ r)
pieces_parts o n r e =
    ap (λ (p : Option ℕ). options_end (record o { pieces = p }) ++ r) e
    ∙ (append_assoc (pieces_word ++ decimal n) (split_end (split_of o)) r
    ∙ (append_assoc pieces_word (decimal n) (split_end (split_of o) ++ r)
    ∙ ap (λ (t : List ℕ). pieces_word ++ t) (sym (counted_parts (n, split_of o) r))))

pub bare_parts : (o : FinishOptions) (r : List ℕ) → o.pieces ≡ None → options_end o ++ r ≡ split_end (split_of o) ++ r
bare_parts o r e = ap (λ (p : Option ℕ). options_end (record o { pieces = p }) ++ r) e

pub pieces_within : (o : FinishOptions) (n : ℕ) → AreOptions o → o.pieces ≡ Some n → IsCounted (n, split_of o)
pieces_within o n h e = (subst (λ (p : Option ℕ). IsPieces p) e h.pieces, h.smoothing)

pub options_code : IsCode AreOptions options_end
options_code v w r s a b e = by v.pieces refl w.pieces refl
  where
    by : (m : Option ℕ) → v.pieces ≡ m → (n : Option ℕ) → w.pieces ≡ n → (v ≡ w) × (r ≡ s)
    by None f None g =
        let both =
        split_code (split_of v) (split_of w) r s a.smoothing b.smoothing (sym (bare_parts v r f) ∙ e ∙ bare_parts w s g) in
        (options_same v w (f ∙ sym g) both.0, both.1)
    by None f (Some n) g =
        absurd
        (split_not_pieces (split_of v) r (counted_end (n, split_of w) ++ s) (sym (bare_parts v r f) ∙ e ∙ pieces_parts w n s g))
    by (Some m) f None g =
        absurd
        (split_not_pieces (split_of w) s (counted_end (m, split_of v) ++ r) (sym (bare_parts w s g) ∙ sym e ∙ pieces_parts v m r f))
    by (Some m) f (Some n) g =
        let both =
        counted_end_code (m, split_of v) (n, split_of w) r s (pieces_within v m a f) (pieces_within w n b g)
        (behind_same pieces_word _ _ (sym (pieces_parts v m r f) ∙ e ∙ pieces_parts w n s g)) in
        (options_same v w (f ∙ (ap (λ (p : Counted). Some p.0) both.0 ∙ sym g)) (ap (λ (p : Counted). p.1) both.0), both.1)
