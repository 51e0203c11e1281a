-- Sizes of pieces, and the first ones of a sorted list.
use Rattle.std.proofs.Common.{ℕ, suc, ◌≡◌, ◌≢◌, ◌+◌, ◌-◌, ◌*◌, ◌^◌, ◌<◌, ◌≤◌, ◌⊎◌, ◌++◌, inl, inr, refl, ap, sym, ◌∙◌, subst, arith, below_more}
use Rattle.std.proofs.Common.{Bool, true, false, List, [], ◌∷◌, length, get_or, set, get_or-set_same, get_or-set_other}
use Rattle.std.specs.List.{All, AllPairs, Contains}
use Rattle.std.specs.List.Sorted.{IsPermutation, IsNonDecreasingBy}
use Rattle.std.proofs.Math.ListN.{length-set}
use Rattle.std.proofs.lemmas.Bool.{cases_lt, cases_eq, false≢true}
use Rattle.std.proofs.lemmas.List.{get_or_push, get_or_append_left, get_or_default, length_push}
use Rattle.std.proofs.lemmas.List.Elements.{All-push, All-cons}
use Rattle.std.proofs.lemmas.List.Kept.{AllPairs-cons}
use Rattle.std.proofs.lemmas.List.Sorted.{All-permutation, Contains-permutation}
use Rattle.mesh_edges.specs.Things.{AreSoMany}
use Rattle.mesh_edges.proofs.Things.{same_things, number_more, number_skipped, no_things}
use Rattle.mesh_edges.specs.Pairs.{key_of_pair}
use Rattle.mesh_edges.specs.declared.pairs.Pair.{Pair}
use Rattle.mesh_pieces.specs.Pieces.{AreOfOnePiece, IsFirstFace, AreLargestPieces}
use Rattle.mesh_pieces.specs.Chosen.{AreFirstFaces, AreSizes, IsPieceKey, ArePieceKeys, AreFirstMarked, piece_in}
use Rattle.mesh_pieces.proofs.Across.{first_is, is_first}

-- one face more has its first face
pub sizes_more : (firsts sizes : List ℕ) (n f : ℕ) → f < length firsts → f ≡ get_or firsts n 0 → AreSizes firsts sizes n
    → AreSizes firsts (set sizes f (get_or sizes f 0 + 1)) (n + 1)
sizes_more firsts sizes n f l is was =
    record {
      count = length-set sizes f (get_or sizes f 0 + 1) ∙ was.count;
      each = λ g m.
          elim (cases_eq g f) [
            | inl e ↦
                subst (AreSoMany (λ k. (k < n + 1) × (get_or firsts k 0 ≡ g)))
                (sym (ap (λ (k : ℕ). get_or (set sizes f (get_or sizes f 0 + 1)) k 0) e
                ∙ (get_or-set_same sizes f (get_or sizes f 0 + 1) 0 (omega (arith, was.count)) ∙ ap (λ (k : ℕ). get_or sizes k 0 + 1) (sym e))))
                (number_more (λ k. get_or firsts k 0 ≡ g) n (get_or sizes g 0) (was.each g m) (sym is ∙ sym e))
            | inr ne ↦
                subst (AreSoMany (λ k. (k < n + 1) × (get_or firsts k 0 ≡ g)))
                (sym (get_or-set_other sizes f g (get_or sizes f 0 + 1) 0 ne))
                (number_skipped (λ k. get_or firsts k 0 ≡ g) n (get_or sizes g 0) (was.each g m) (λ e. ne (sym e ∙ sym is)))
          ];
      few = λ g m.
          elim (cases_eq g f) [
            | inl e ↦
                omega (
                  arith,
                  ap (λ (k : ℕ). get_or (set sizes f (get_or sizes f 0 + 1)) k 0) e,
                  get_or-set_same sizes f (get_or sizes f 0 + 1) 0 (omega (arith, was.count)),
                  was.few f l,
                )
            | inr ne ↦ omega (arith, get_or-set_other sizes f g (get_or sizes f 0 + 1) 0 ne, was.few g m)
          ];
    }

pub sizes_none : (firsts sizes : List ℕ) → length sizes ≡ length firsts → ((f : ℕ) → get_or sizes f 0 ≡ 0) → AreSizes firsts sizes 0
sizes_none firsts sizes count zeros =
    record {
      count = count;
      each = λ f l.
          subst (AreSoMany (λ k. (k < 0) × (get_or firsts k 0 ≡ f))) (sym (zeros f))
          (no_things (λ k. (k < 0) × (get_or firsts k 0 ≡ f)) (λ k p. omega (arith, p.0)));
      few = λ f l. omega (arith, zeros f);
    }

-- one face more, which is first
pub keys_more : (firsts sizes : List ℕ) (f : ℕ) (list : List Pair) (p : Pair) → IsPieceKey firsts sizes p → p.second ≡ f
    → ArePieceKeys firsts sizes f list → ArePieceKeys firsts sizes (f + 1) (list ++ p ∷ [])
keys_more firsts sizes f list p piece at was =
    record {
      each = All-push (IsPieceKey firsts sizes) list p was.each piece;
      all =
          below_more
          (λ g. get_or firsts g 0 ≡ g → (i : ℕ) × (i < length (list ++ p ∷ [])) × ((piece_in (list ++ p ∷ []) i).second ≡ g)) f
          (λ g l own.
          let old = was.all g l own in (
            old.0,
            omega (arith, old.1, length_push list p),
            ap (λ (q : Pair). q.second) (get_or_append_left list (p ∷ []) (record { first = 0; second = 0 }) old.0 old.1) ∙ old.2,
          ))
          (λ own. (
            length list,
            omega (arith, length_push list p),
            ap (λ (q : Pair). q.second) (get_or_push list p (record { first = 0; second = 0 }) (length list) refl) ∙ at,
          ));
    }

pub keys_same : (firsts sizes : List ℕ) (f : ℕ) (list : List Pair) → get_or firsts f 0 ≢ f → ArePieceKeys firsts sizes f list
    → ArePieceKeys firsts sizes (f + 1) list
keys_same firsts sizes f list other was =
    record {
      each = was.each;
      all =
          below_more (λ g. get_or firsts g 0 ≡ g → (i : ℕ) × (i < length list) × ((piece_in list i).second ≡ g)) f was.all
          (λ own. absurd (other own));
    }

pub keys_moved : (firsts sizes : List ℕ) (n : ℕ) (old new : List Pair) → IsPermutation old new → ArePieceKeys firsts sizes n old
    → ArePieceKeys firsts sizes n new
keys_moved firsts sizes n old new moved was =
    record {
      each = All-permutation (IsPieceKey firsts sizes) old new moved was.each;
      all = λ f l own.
          let at = was.all f l own in
          let has : Contains old (piece_in old at.0) =
          (at.0, at.1, get_or_default old at.0 (piece_in old at.0) (record { first = 0; second = 0 }) at.1) in
          let there = Contains-permutation old new (piece_in old at.0) moved has in (
            there.0,
            there.1,
            ap (λ (q : Pair). q.second)
                (get_or_default new there.0 (record { first = 0; second = 0 }) (piece_in old at.0) there.1 ∙ there.2)
                ∙ at.2,
          );
    }

-- a thing more
pub one_more : (P Q : ℕ → Type 0) (a n : ℕ) → ¬ (P a) → ((x : ℕ) → P x → Q x) → Q a → ((x : ℕ) → Q x → P x ⊎ (a ≡ x)) → AreSoMany P n
    → AreSoMany Q (n + 1)
one_more P Q a n not to here from so =
    record {
      things = a ∷ so.things;
      number = omega (arith, so.number);
      distinct =
          AllPairs-cons ◌≢◌ a so.things (λ k d l e. not (subst P (sym e) (so.each k d l))) so.distinct;
      each = All-cons Q a so.things here (λ k d l. to (get_or so.things k d) (so.each k d l));
      every = λ x q.
          elim (from x q) [
            | inl p ↦ let c = so.every x p in (suc c.0, omega (arith, c.1), c.2)
            | inr e ↦ (0, omega arith, e)
          ];
    }

-- the pieces of a sorted list that are marked are the largest
module _ (twins firsts sizes : List ℕ) (count : ℕ) (first : AreFirstFaces twins count firsts) (size : AreSizes firsts sizes (length firsts))
    (list : List Pair) (keys : ArePieceKeys firsts sizes (length firsts) list) (sorted : IsNonDecreasingBy key_of_pair list)
    (few : count ≤ 4294967295) (marks kept : List Bool) (number most : ℕ) (marked : AreFirstMarked list marks number most)
    (is : (f : ℕ) → f < length firsts → get_or kept f false ≡ get_or marks (get_or firsts f 0) false) where
  piece : (j : ℕ) → j < length list → IsPieceKey firsts sizes (piece_in list j)
  piece j l = keys.each j (record { first = 0; second = 0 }) l

  first_in : (f : ℕ) → f < count → get_or firsts f 0 < length firsts
  first_in f l = omega (arith, first.least f l, first.size)

  -- where the piece of a face stands
  at : (f : ℕ) → f < count → (i : ℕ) × (i < length list) × ((piece_in list i).second ≡ get_or firsts f 0)
  at f l = keys.all (get_or firsts f 0) (first_in f l) (first.own f l)

  size_at : (i f : ℕ) → i < length list → (piece_in list i).second ≡ f
      → (piece_in list i).first + get_or sizes f 0 ≡ length firsts
  size_at i f l e = omega (arith, (piece i l).lacks, ap (λ (k : ℕ). get_or sizes k 0) e)

  second_small : (j : ℕ) → j < length list → (piece_in list j).second < 4294967296
  second_small j l = omega (arith, (piece j l).within, first.size, few)

  rises : (i j : ℕ) → i < j → j < length list → (piece_in list i).first ≤ (piece_in list j).first
  rises i j l m =
      omega (
        arith,
        sorted i j (record { first = 0; second = 0 }) (omega arith) m,
        second_small i (omega arith),
        second_small j m,
      )

  -- a face that is not kept stands past the cut
  past : (f : ℕ) → (l : f < count) → get_or kept f false ≡ false → marked.cut ≤ (at f l).0
  past f l out =
      elim (cases_lt (at f l).0 marked.cut) [
        | inl less ↦
            absurd (false≢true (sym out
            ∙ (is f (omega (arith, first.size))
            ∙ (ap (λ (k : ℕ). get_or marks k false) (sym (at f l).2) ∙ marked.before (at f l).0 less))))
        | inr more ↦ more
      ]

  pub largest_pieces : AreLargestPieces twins count kept most
  largest_pieces =
      record {
        number = number;
        few = marked.few;
        pieces =
            same_things (λ f. get_or marks f false ≡ true)
            (λ f. (f < count) × (get_or kept f false ≡ true) × IsFirstFace twins f) number to from marked.many;
        full = λ f l out.
            elim marked.full [
              | inl all ↦ absurd (omega (arith, past f l out, (at f l).1, all))
              | inr e ↦ e
            ];
        size = λ f. get_or sizes (get_or firsts f 0) 0;
        sizes = λ f l.
            same_things (λ k. (k < length firsts) × (get_or firsts k 0 ≡ get_or firsts f 0)) (λ k. (k < count) × AreOfOnePiece twins f k)
            (get_or sizes (get_or firsts f 0) 0)
            (λ k p. (omega (arith, p.0, first.size), first.path f k l (omega (arith, p.0, first.size)) (sym p.1)))
            (λ k p. (omega (arith, p.0, first.size), sym (first.one f k l p.1))) (size.each (get_or firsts f 0) (first_in f l));
        largest = λ f g l m inside out.
            let yes_f : get_or marks (get_or firsts f 0) false ≡ true = sym (is f (omega (arith, first.size))) ∙ inside in
            let j = marked.only (get_or firsts f 0) yes_f in
            let below : j.0 < length list = omega (arith, j.1, marked.below) in
            let i = at g m in
            omega (
              arith,
              rises j.0 i.0 (omega (arith, j.1, past g m out)) i.1,
              size_at j.0 (get_or firsts f 0) below j.2,
              size_at i.0 (get_or firsts g 0) i.1 i.2,
            );
      }
    where
      to : (f : ℕ) → get_or marks f false ≡ true → (f < count) × (get_or kept f false ≡ true) × IsFirstFace twins f
      to f here =
          let j = marked.only f here in
          let below : j.0 < length list = omega (arith, j.1, marked.below) in
          let p = piece j.0 below in
          let own : get_or firsts f 0 ≡ f = ap (λ (k : ℕ). get_or firsts k 0) (sym j.2) ∙ (p.first ∙ j.2) in
          let l : f < count = omega (arith, p.within, j.2, first.size) in
          (l, is f (omega (arith, first.size)) ∙ (ap (λ (k : ℕ). get_or marks k false) own ∙ here), first_is twins firsts count f first l own)

      from : (f : ℕ) → (f < count) × (get_or kept f false ≡ true) × IsFirstFace twins f → get_or marks f false ≡ true
      from f (l, here, alone) =
          ap (λ (k : ℕ). get_or marks k false) (sym (is_first twins firsts count f first l alone))
          ∙ (sym (is f (omega (arith, first.size))) ∙ here)
