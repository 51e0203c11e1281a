-- The list of the live numbers has just these. A live number is a slot that is taken; it is below the number of slots, so the
-- list that runs down from there has it.
use Rattle.std.proofs.Common.{ℕ, zero, suc, ◌<◌, ◌≤◌, ◌≡◌, ◌⊎◌, inl, inr, ⊎_elim, refl, sym, ap, subst, ◌∙◌, arith, Bool, true}
use Rattle.std.proofs.Common.{false, true≢false, Option, List, length, is_some, Contains}
use Rattle.std.proofs.lemmas.Bool.{cases_lt}
use Rattle.geo_sign.proofs.Members.{here, there}
use Rattle.tetra_store.specs.declared.link.Cell.{Cell}
use Rattle.tetra_store.specs.Links.{links_of, slot_at, IsLive}
use Rattle.tetra_store.specs.Stored.{with_number, live_below, live_of}
use Rattle.tetra_store.proofs.Observed.{slot_in}

number_in : (b : Bool) (n : ℕ) (rest : List ℕ) → b ≡ true → Contains (with_number b n rest) n
number_in true n rest e = here n rest
number_in false n rest e = absurd (true≢false (sym e))

rest_in : (b : Bool) (n id : ℕ) (rest : List ℕ) → Contains rest id → Contains (with_number b n rest) id
rest_in true n id rest h = there n id rest h
rest_in false n id rest h = h

in_below : (slots : List (Option Cell)) (n id : ℕ) → id < n → IsLive (links_of slots) id → Contains (live_below slots n) id
in_below slots zero id l e = absurd (omega (arith, l))
in_below slots (suc n) id l e =
    ⊎_elim (λ (m : id < n). rest_in (is_some (slot_at slots n)) n id (live_below slots n) (in_below slots n id m e))
    (λ (m : n ≤ id). let is : n ≡ id = omega (arith, l, m) in
    subst (λ (x : ℕ). Contains (live_below slots (suc n)) x) is
    (number_in (is_some (slot_at slots n)) n (live_below slots n) (ap (λ (x : ℕ). is_some (slot_at slots x)) is ∙ e)))
    (cases_lt id n)

of_number : (b : Bool) (n id : ℕ) (rest : List ℕ) → Contains (with_number b n rest) id
    → ((n ≡ id) × (b ≡ true)) ⊎ Contains rest id
of_number true n id rest (zero, l, e) = inl (e, refl)
of_number true n id rest (suc k, l, e) = inr (k, omega (arith, l), e)
of_number false n id rest h = inr h

below_in : (slots : List (Option Cell)) (n id : ℕ) → Contains (live_below slots n) id → IsLive (links_of slots) id
below_in slots zero id h = absurd (omega (arith, h.1))
below_in slots (suc n) id h =
    ⊎_elim (λ (m : (n ≡ id) × (is_some (slot_at slots n) ≡ true)). ap (λ (x : ℕ). is_some (slot_at slots x)) (sym m.0) ∙ m.1)
    (λ (m : Contains (live_below slots n) id). below_in slots n id m)
    (of_number (is_some (slot_at slots n)) n id (live_below slots n) h)

-- a live number is in the list
pub has_live : (slots : List (Option Cell)) (id : ℕ) → IsLive (links_of slots) id → Contains (live_of slots) id
has_live slots id e = in_below slots (length slots) id (slot_in slots id e) e

-- and what is in the list is live
pub listed_is_live : (slots : List (Option Cell)) (id : ℕ) → Contains (live_of slots) id → IsLive (links_of slots) id
listed_is_live slots id h = below_in slots (length slots) id h
