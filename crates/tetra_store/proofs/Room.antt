-- Room for cells.
--
-- `spare` is the least of three numbers, where the numbers of cells fit at all. So a fan that it covers fits each of the three,
-- and what n cells take off it is n at most.
use Rattle.std.proofs.Common.{ℕ, ◌≡◌, ◌<◌, ◌≤◌, ◌+◌, ◌-◌, ◌*◌, ◌/◌, min, cond, Bool, true, false, refl, arith}
use Rattle.std.specs.Prelude.{nat_lt}
use borrow.Author.Tests.{ltb-true}
use Rattle.tetra_store.specs.Store.{spare_room}

pub record HasRoom (capacity count ids edges n : ℕ) : Type 0 where
  pub few : capacity < 4294967296
  pub cells : count + n ≤ capacity
  pub ids_list : n ≤ ids
  pub edges_list : 3 * n ≤ edges

room_if : (b : Bool) (capacity count ids edges n : ℕ) → (b ≡ true → capacity < 4294967296) → 0 < n
    → n ≤ cond b (min (capacity - count) (min ids (edges / 3))) 0 → HasRoom capacity count ids edges n
room_if true capacity count ids edges n h l m =
    record { few = h refl; cells = omega arith; ids_list = omega arith; edges_list = omega arith }
room_if false capacity count ids edges n h l m = absurd (omega arith)

pub has_room : (capacity count ids edges n : ℕ) → 0 < n → n ≤ spare_room capacity count ids edges
    → HasRoom capacity count ids edges n
has_room capacity count ids edges n l m =
    room_if (nat_lt capacity 4294967296) capacity count ids edges n (ltb-true capacity 4294967296) l m

spare_if : (b : Bool) (capacity count count' ids edges n : ℕ) → count' ≤ count + n
    → cond b (min (capacity - count) (min ids (edges / 3))) 0 ≤ cond b (min (capacity - count') (min ids (edges / 3))) 0 + n
spare_if true capacity count count' ids edges n h = omega arith
spare_if false capacity count count' ids edges n h = omega arith

pub spare_left : (capacity count count' ids edges n : ℕ) → count' ≤ count + n
    → spare_room capacity count ids edges ≤ spare_room capacity count' ids edges + n
spare_left capacity count count' ids edges n h = spare_if (nat_lt capacity 4294967296) capacity count count' ids edges n h
