-- Where nothing is counted, there is nothing.
use Rattle.std.proofs.Common.{ℕ, ◌≡◌, arith}
use Rattle.mesh_edges.specs.Things.{AreSoMany}

pub none_counted : {A : Type 0} (P : A → Type 0) (n : ℕ) → AreSoMany P n → n ≡ 0 → (a : A) → ¬ P a
none_counted P n so none a has =
    let at = so.every a has in
    omega (arith, at.1, so.number, none)
