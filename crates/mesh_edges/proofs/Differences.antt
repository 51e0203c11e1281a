-- Where two sorted lists of pairs first differ.
use Rattle.std.proofs.Common.{ℕ, ◌≡◌, ◌<◌, ◌≤◌, ap, sym, ◌∙◌, arith, List, length, get_or, take, map}
use Rattle.std.specs.List.Sorted.{IsNonDecreasingBy}
use Rattle.std.proofs.lemmas.List.{get_or_default, take_all}
use Rattle.mesh_edges.specs.Pairs.{key_of_pair, key_count, AreRising, IsFirstUnequalPair}
use Rattle.mesh_edges.specs.declared.pairs.Pair.{Pair}
use Rattle.mesh_edges.proofs.Counts.{differ_at, hits_same}

abbrev pub no_pair : Pair
no_pair = record { first = 0; second = 0 }

-- the pair of one list is the least that occurs unequally often
pub first_there : (there back : List Pair) (n : ℕ) → IsNonDecreasingBy key_of_pair there → IsNonDecreasingBy key_of_pair back
    → AreRising there → map key_of_pair (take n there) ≡ map key_of_pair (take n back) → n < length there
    → (n < length back → key_of_pair (get_or there n no_pair) < key_of_pair (get_or back n no_pair))
    → IsFirstUnequalPair there back (get_or there n no_pair) × ((get_or there n no_pair).first < (get_or there n no_pair).second)
first_there there back n s t rising same l above =
    let a = get_or there n no_pair in
    let d =
    differ_at key_of_pair there back n a s t same l (get_or_default there n no_pair a l)
    (λ m. omega (arith, above m, ap key_of_pair (get_or_default back n no_pair a m))) in
    (record { differ = d.0; same = d.1 }, rising n no_pair l)

-- the same with the lists exchanged
pub first_back : (there back : List Pair) (n : ℕ) → IsNonDecreasingBy key_of_pair there → IsNonDecreasingBy key_of_pair back
    → AreRising back → map key_of_pair (take n there) ≡ map key_of_pair (take n back) → n < length back
    → (n < length there → key_of_pair (get_or back n no_pair) < key_of_pair (get_or there n no_pair))
    → IsFirstUnequalPair there back (get_or back n no_pair) × ((get_or back n no_pair).first < (get_or back n no_pair).second)
first_back there back n s t rising same l above =
    let d = first_there back there n t s rising (sym same) l above in
    (record { differ = λ e. d.0.differ (sym e); same = λ k m. sym (d.0.same k m) }, d.1)

-- no difference
pub none_differ : (there back : List Pair) (n k : ℕ) → map key_of_pair (take n there) ≡ map key_of_pair (take n back)
    → length there ≤ n → length back ≤ n → key_count k there ≡ key_count k back
none_differ there back n k same l m =
    hits_same key_of_pair k there back
    (ap (map key_of_pair) (sym (take_all n there l)) ∙ (same ∙ ap (map key_of_pair) (take_all n back m)))
