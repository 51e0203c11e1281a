-- The lists of a network of linked cells are the counts that it is made from.
use Rattle.std.proofs.Common.{ℕ, ◌≡◌, sym, subst, Bool, List}
use Rattle.tetra_store.specs.Store.{Store}
use Rattle.visibility.specs.Scenes.{Scene}
use Rattle.cell_net.specs.Counts.{AreCountsOf}

pub counts_are : (s : Scene) (store given : Store) (crossed behind xs ys : List ℕ) (fixed flags : List Bool)
    → AreCountsOf s store.slots crossed behind fixed → given ≡ store → xs ≡ crossed → ys ≡ behind → flags ≡ fixed
    → AreCountsOf s given.slots xs ys flags
counts_are s store given crossed behind xs ys fixed flags h a b d e =
    subst (λ (t : Store). AreCountsOf s t.slots xs ys flags) (sym a)
    (subst (λ (z : List ℕ). AreCountsOf s store.slots z ys flags) (sym b)
    (subst (λ (z : List ℕ). AreCountsOf s store.slots crossed z flags) (sym d)
    (subst (λ (z : List Bool). AreCountsOf s store.slots crossed behind z) (sym e) h)))
