-- What the tests of a mesh found, of lists that are read through borrowed slices.
use Rattle.std.proofs.Common.{ℕ, ◌≡◌, sym, subst, List}
use Rattle.mesh_pieces.specs.Splits.{AreSingle}

-- no directed edge occurs twice that did not
pub single_read : (old old_read new new_read : List (List ℕ)) → old_read ≡ old → new_read ≡ new
    → (AreSingle old_read → AreSingle new_read) → AreSingle old → AreSingle new
single_read old old_read new new_read e f single was =
    subst (λ (x : List (List ℕ)). AreSingle x) f (single (subst (λ (x : List (List ℕ)). AreSingle x) (sym e) was))
