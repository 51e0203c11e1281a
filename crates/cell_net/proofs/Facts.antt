-- Linked cells and counts are a network: each neighbor is a cell, and another one, and counts of 32 bits at such weights are small. A
-- side from a free cell towards a free one has a way back.
use Rattle.std.proofs.Common.{ℕ, ◌≡◌, ◌≢◌, ◌<◌, ◌≤◌, ◌+◌, ◌*◌, ◌/◌, ◌%◌, ◌^◌, Bool, true, false, cond, List, length, get_or}
use Rattle.std.proofs.Common.{Option, Some, None, ap, sym, ◌∙◌, arith}
use Rattle.std.specs.Prelude.{unwrap_or}
use Rattle.std.proofs.Math.Nat.{mul-le-mul_right}
use Rattle.std.proofs.lemmas.Bool.{false≢true}
use Rattle.flow_net.specs.declared.votes.Settings.{Settings}
use Rattle.flow_net.specs.Nets.{flag_at}
use Rattle.tetra_store.specs.declared.link.Cell.{Cell}
use Rattle.tetra_store.specs.Links.{links_of, slot_at, IsBack}
use Rattle.tetra_store.specs.Store.{Store, IsStore}
use Rattle.tetra_store.proofs.Observed.{next_live, slot_in}
use Rattle.cell_net.specs.Arcs.{IsShape, across, is_free, is_paired}
use Rattle.cell_net.proofs.Turns.{none_turned}

-- the neighbor across a side has it turned round, and names the cell back
across_back : (s : Store) → IsStore s → (j other : ℕ) → across s.slots j ≡ Some other
    → IsBack (links_of s.slots) (j / 4) (j % 4) other
across_back s store j other e =
    store.linked.back (j / 4) (j % 4) other (next_live (slot_at s.slots (j / 4)) (j % 4) other e) (omega arith) e

neighbor_in : (s : Store) (fixed : List Bool) → IsStore s → length s.slots ≤ length fixed → (j : ℕ)
    → j < 4 * length fixed → (o : Option ℕ) → across s.slots j ≡ o → unwrap_or o (j / 4) < length fixed
neighbor_in s fixed store flags j l None e = omega arith
neighbor_in s fixed store flags j l (Some other) e =
    let back = across_back s store j other e in
    let low = slot_in s.slots other back.live in omega (arith, low, flags)

-- no cell is its own neighbor
apart_at : (s : Store) → IsStore s → (j : ℕ) (fixed : List Bool) (o : Option ℕ) → across s.slots j ≡ o
    → is_free fixed o ≡ true → j / 4 ≢ unwrap_or o (j / 4)
apart_at s store j fixed None e can = absurd (false≢true can)
apart_at s store j fixed (Some other) e can = λ same.
    let itself : across s.slots j ≡ Some (j / 4) = e ∙ ap (λ x. Some x) (sym same) in
    let back = across_back s store j (j / 4) itself in
    none_turned ((links_of s.slots).at (j / 4)) (λ i k li lk d. store.linked.distinct (j / 4) i k back.live li lk d) (j % 4)
    back.side (omega arith) back.in_range back.turned

-- a choice of an amount or none that is some
is_chosen : (b : Bool) (n : ℕ) → 1 ≤ cond b n 0 → b ≡ true
is_chosen b n l = grind arith

-- amounts of so many votes are small
votes_fit : (vote smooth count : ℕ) → vote ≤ 65535 → smooth ≤ 65535 → count < 2 ^ 32 → vote * count + smooth ≤ 2 ^ 60
votes_fit vote smooth count v m c = let product = mul-le-mul_right count v in omega (arith, product)

cond_fits : (b : Bool) (n m : ℕ) → n ≤ m → cond b n 0 ≤ m
cond_fits b n m l = grind arith

-- the cells of a store, with lists that are long enough
pub shape_of : (s : Store) (crossed behind : List ℕ) (fixed : List Bool) (settings : Settings) → IsStore s
    → length s.slots ≤ length fixed → 4 * length s.slots ≤ length crossed → length s.slots ≤ length behind
    → ((j : ℕ) → get_or crossed j 0 < 2 ^ 32) → ((v : ℕ) → get_or behind v 0 < 2 ^ 32)
    → IsShape s.slots crossed behind fixed settings
shape_of s crossed behind fixed settings store flags sides cells crossed_fit behind_fit =
    grind (arith, neighbor_in, apart_at, is_chosen, cond_fits, votes_fit)

-- a side of a free cell is paired where the neighbor across it is free
pub paired_is : (slots : List (Option Cell)) (fixed : List Bool) (j id : ℕ) → id ≡ j / 4 → flag_at fixed (j / 4) ≡ false
    → is_free fixed ((links_of slots).next id (j % 4)) ≡ is_paired slots fixed j
paired_is slots fixed j id same free = grind arith
