use Rattle.std.proofs.Common.{ℕ, ◌≡◌, ◌≢◌, ◌⊎◌, ◌∙◌, inl, inr, refl, Bool, true, false, List, length, get_or, set, get_or-set_same, get_or-set_other, sym, ap, arith}
use Rattle.std.proofs.lemmas.Bool.{cases_eq, false≢true}
use Rattle.mesh_pieces.proofs.Sizes.{one_more}
use Rattle.mesh_pieces.proofs.largest.mark.Goals as goal

pub returns-clause-many : goal.returns-clause-many
returns-clause-many c =
    let marks = c.args.marks.now in
    let f = c.args.f in
    one_more (λ g. get_or marks g false ≡ true) (λ g. get_or (set marks f true) g false ≡ true) f c.args.number
    (λ e. false≢true (sym c.if-marks-f.false ∙ e))
    (λ g e.
    elim (cases_eq g f) [
      | inl same ↦ ap (λ (k : ℕ). get_or (set marks f true) k false) same ∙ get_or-set_same marks f true false c.requires.within
      | inr ne ↦ get_or-set_other marks f g true false ne ∙ e
    ])
    (get_or-set_same marks f true false c.requires.within)
    (λ g e.
    elim (cases_eq g f) [
      | inl same ↦ inr (sym same)
      | inr ne ↦ inl (sym (get_or-set_other marks f g true false ne) ∙ e)
    ])
    c.requires.many
