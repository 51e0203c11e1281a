-- Arcs go on fitting their network where an arc and its reverse are added.
use Rattle.std.proofs.Common.{ℕ, ◌≡◌, ◌≢◌, ◌≤◌, ◌+◌, ◌^◌, Bool, false, List, [], ◌∷◌, ◌++◌, length, get_or}
use Rattle.std.proofs.Common.{inl, inr, refl, arith}
use Rattle.std.specs.Prelude.{Some}
use Rattle.std.proofs.lemmas.Bool.{cases_lt}
use Rattle.std.proofs.lemmas.Grind.{common_steps}
use Rattle.std.proofs.lemmas.List.{get_or_append_left, get_or-append-add, length-append}
use Rattle.flow_net.specs.declared.Arc.{Arc}
use Rattle.flow_net.specs.Nets.{no_arc, arc_at, IsValidArc, AreValidArcs}
use Rattle.flow_net.specs.Builders.{Parts, with_join, IsNode}

-- an arc that fits goes on fitting where more arcs follow
fits_longer : (fixed : List Bool) (arcs more : List Arc) (j : ℕ) (a : Arc) →
    IsValidArc fixed arcs j a → IsValidArc fixed (arcs ++ more) j a
fits_longer fixed arcs more j a fits = grind (arith, common_steps)

-- an arc that fits behind a list of arcs stands at its place
fits_there : (fixed : List Bool) (arcs more : List Arc) (i k : ℕ) (a : Arc) → k ≡ length arcs + i →
    a ≡ get_or more i no_arc → IsValidArc fixed (arcs ++ more) (length arcs + i) a →
    IsValidArc fixed (arcs ++ more) k (arc_at (arcs ++ more) k)
fits_there fixed arcs more i k a same is fits = grind (arith, get_or-append-add)

-- arcs fit where the earlier ones did and the two new ones do
two_more : (fixed : List Bool) (arcs : List Arc) (a b : Arc) → AreValidArcs fixed arcs →
    IsValidArc fixed (arcs ++ a ∷ b ∷ []) (length arcs + 0) a →
    IsValidArc fixed (arcs ++ a ∷ b ∷ []) (length arcs + 1) b →
    AreValidArcs fixed (arcs ++ a ∷ b ∷ [])
two_more fixed arcs a b earlier there back = λ k less.
    let more = a ∷ b ∷ [] in
    let count : length (arcs ++ more) ≡ length arcs + 2 = length-append arcs more in
    elim (cases_lt k (length arcs)) [
      | inl before ↦ grind (arith, get_or_append_left, fits_longer)
      | inr behind ↦ elim (cases_lt (length arcs) k) [
        | inl second ↦ fits_there fixed arcs more 1 k b (omega (arith, count)) refl back
        | inr first ↦ fits_there fixed arcs more 0 k a (omega arith) refl there
      ]
    ]

-- an arc and its reverse fit behind the arcs of a builder
pub join_fits : (parts : Parts) (from to cap back_cap : ℕ) → AreValidArcs parts.fixed parts.arcs →
    IsNode parts from false → IsNode parts to false → from ≢ to → cap ≤ 2 ^ 60 → back_cap ≤ 2 ^ 60 →
    AreValidArcs parts.fixed (with_join parts from to cap back_cap).arcs
join_fits parts from to cap back_cap earlier from_free to_free distinct cap_fits back_fits =
    let n = length parts.arcs in
    let a : Arc = record { from = from; to = to; cap = cap; pair = Some (n + 1) } in
    let b : Arc = record { from = to; to = from; cap = back_cap; pair = Some n } in
    two_more parts.fixed parts.arcs a b earlier (grind (arith, common_steps)) (grind (arith, common_steps))
