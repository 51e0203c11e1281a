-- Paths to the top of a set, and what stays of them when a parent changes.
--
-- A path ends in one number alone (same_top). If a number gets the end of its own path as parent, all paths end where they did
-- (shortened). If an end s gets another end r as parent, paths that ended in s end in r, and all others where they did (linked).
use Rattle.std.proofs.Common.{ℕ, zero, suc, ◌≡◌, ◌≢◌, ◌<◌, ◌≤◌, ◌==◌, ◌⊎◌, inl, inr, refl, ap, sym, ◌∙◌, subst, arith, List, length, get_or, cond}
use Rattle.std.proofs.Common.{set, get_or-set_same, get_or-set_other}
use Rattle.std.proofs.Math.ListN.{length-set}
use Rattle.std.proofs.lemmas.Bool.{cases_lt, cases_eq}
use Rattle.std.proofs.lemmas.Bool.Decides.{nat_tests}
use Rattle.mesh_edges.specs.Sets.{IsTop, AreTogether, IsFirstOfSet, IsForest, IsMerge}
use Rattle.mesh_edges.specs.Sets.IsTop.{here, up}

-- the path from a number that is its own parent ends there
pub own_top : (ps : List ℕ) {i t : ℕ} → IsTop ps i t → get_or ps i 0 ≡ i → t ≡ i
own_top ps (here e) own = refl
own_top ps (up p) own = own_top ps p (ap (λ (k : ℕ). get_or ps k 0) own) ∙ own

-- a path ends in one number alone
pub same_top : (ps : List ℕ) {i s t : ℕ} → IsTop ps i s → IsTop ps i t → s ≡ t
same_top ps (here e) q = sym (own_top ps q e)
same_top ps (up p) (here e) = own_top ps (up p) e
same_top ps (up p) (up q) = same_top ps p q

-- it is its own parent
pub top_own : (ps : List ℕ) {i t : ℕ} → IsTop ps i t → get_or ps t 0 ≡ t
top_own ps (here e) = e
top_own ps (up p) = top_own ps p

-- the path goes on from the parent
pub top_above : (ps : List ℕ) {i t : ℕ} → IsTop ps i t → IsTop ps (get_or ps i 0) t
top_above ps (here {i} e) = subst (λ (k : ℕ). IsTop ps k i) (sym e) (here e)
top_above ps (up p) = p

-- and it is not greater
pub top_least : (ps : List ℕ) {i t : ℕ} → IsForest ps → i < length ps → IsTop ps i t → t ≤ i
top_least ps forest l (here e) = omega arith
top_least ps forest l (up {i} {top = t} p) =
    let down : get_or ps i 0 ≤ i = forest i l in
    let rest : t ≤ get_or ps i 0 = top_least ps forest (omega arith) p in
    omega arith

-- each path has an end
pub some_top : (ps : List ℕ) (i : ℕ) → IsForest ps → i < length ps → (t : ℕ) × IsTop ps i t
some_top ps i forest l = within (suc i) i (omega arith) l
  where
    within : (m i : ℕ) → i < m → i < length ps → (t : ℕ) × IsTop ps i t
    within zero i b l = absurd (omega arith)
    within (suc m) i b l =
        let down : get_or ps i 0 ≤ i = forest i l in
        elim (cases_lt (get_or ps i 0) i) [
          | inl less ↦ let rest = within m (get_or ps i 0) (omega arith) (omega arith) in (rest.0, up rest.1)
          | inr same ↦ let e : get_or ps i 0 ≡ i = omega arith in (i, here e)
        ]

module _ (ps : List ℕ) (i r : ℕ) (l : i < length ps) where
  abbrev new : List ℕ
  new = set ps i r

  at_i : (k : ℕ) → k ≡ i → get_or new k 0 ≡ r
  at_i k e = ap (λ (j : ℕ). get_or new j 0) e ∙ get_or-set_same ps i r 0 l

  at_other : (k : ℕ) → k ≢ i → get_or new k 0 ≡ get_or ps k 0
  at_other k ne = get_or-set_other ps i k r 0 ne

  -- r is its own parent still, if it was
  own_still : get_or ps r 0 ≡ r → get_or new r 0 ≡ r
  own_still own =
      elim (cases_eq r i) [ inl e ↦ at_i r e | inr ne ↦ at_other r ne ∙ own ]

  -- a path from a number whose parent did not change
  up_still : (k t : ℕ) → k ≢ i → IsTop new (get_or ps k 0) t → IsTop new k t
  up_still k t ne p = up (subst (λ (j : ℕ). IsTop new j t) (sym (at_other k ne)) p)

  -- from i
  up_to_r : (k : ℕ) → k ≡ i → get_or ps r 0 ≡ r → IsTop new k r
  up_to_r k e own = up (subst (λ (j : ℕ). IsTop new j r) (sym (at_i k e)) (here (own_still own)))

  -- i gets the end of its own path as parent
  pub shortened : {k t : ℕ} → IsTop ps i r → IsTop ps k t → IsTop new k t
  shortened top (here {i = k} e) =
      elim (cases_eq k i) [
        | inl same ↦
            let end : r ≡ k = own_top ps (subst (λ (j : ℕ). IsTop ps j r) (sym same) top) e in
            subst (IsTop new k) end (up_to_r k same (top_own ps top))
        | inr ne ↦ here (at_other k ne ∙ e)
      ]
  shortened top (up {i = k} {top = t} p) =
      elim (cases_eq k i) [
        | inl same ↦
            let end : r ≡ t = same_top ps (subst (λ (j : ℕ). IsTop ps j r) (sym same) top) (up p) in
            subst (IsTop new k) end (up_to_r k same (top_own ps top))
        | inr ne ↦ up_still k t ne (shortened top p)
      ]

  -- where a path ends that ended in t
  abbrev moved : ℕ → ℕ
  moved t = cond (t == i) r t

  moved_here : (t : ℕ) → t ≡ i → moved t ≡ r
  moved_here t e = grind (arith, nat_tests)

  moved_other : (t : ℕ) → t ≢ i → moved t ≡ t
  moved_other t ne = grind (arith, nat_tests)

  -- i, the end of a path, gets r, another end, as parent
  pub linked : {k t : ℕ} → get_or ps i 0 ≡ i → get_or ps r 0 ≡ r → IsTop ps k t → IsTop new k (moved t)
  linked own_i own_r (here {i = k} e) =
      elim (cases_eq k i) [
        | inl same ↦ subst (IsTop new k) (sym (moved_here k same)) (up_to_r k same own_r)
        | inr ne ↦ subst (IsTop new k) (sym (moved_other k ne)) (here (at_other k ne ∙ e))
      ]
  linked own_i own_r (up {i = k} {top = t} p) =
      elim (cases_eq k i) [
        | inl same ↦
            let end : t ≡ k = own_top ps (up {i = k} p) (ap (λ (j : ℕ). get_or ps j 0) same ∙ (own_i ∙ sym same)) in
            subst (IsTop new k) (sym (moved_here t (end ∙ same))) (up_to_r k same own_r)
        | inr ne ↦ up_still k (moved t) ne (linked own_i own_r p)
      ]

  -- parents are still not greater, if the new one is not
  pub forest_still : IsForest ps → r ≤ i → IsForest new
  forest_still forest below k m =
      elim (cases_eq k i) [
        | inl e ↦ omega (arith, at_i k e)
        | inr ne ↦ omega (arith, at_other k ne, forest k (omega (arith, length-set ps i r, m)))
      ]

pub count_still : (ps : List ℕ) (i r : ℕ) → length (set ps i r) ≡ length ps
count_still ps i r = length-set ps i r

-- two are together by one number
together : (ps : List ℕ) {a b s t : ℕ} → a < length ps → b < length ps → IsTop ps a s → IsTop ps b t → s ≡ t → AreTogether ps a b
together ps {a} {b} {s} {t} la lb p q e =
    record { one_in = la; other_in = lb; top = s; one = p; other = subst (IsTop ps b) (sym e) q }

pub together_self : (ps : List ℕ) (i : ℕ) → IsForest ps → i < length ps → AreTogether ps i i
together_self ps i forest l = let some = some_top ps i forest l in together ps l l some.1 some.1 refl

pub together_turned : (ps : List ℕ) {i j : ℕ} → AreTogether ps i j → AreTogether ps j i
together_turned ps both =
    record { one_in = both.other_in; other_in = both.one_in; top = both.top; one = both.other; other = both.one }

pub together_on : (ps : List ℕ) {i j k : ℕ} → AreTogether ps i j → AreTogether ps j k → AreTogether ps i k
together_on ps first second =
    together ps first.one_in second.other_in first.one second.other (sym (same_top ps second.one first.other))

-- after two paths were shortened, and the end s of one got the end r of the other as parent
module _ (old mid : List ℕ) (i j s r : ℕ) (count : length mid ≡ length old) (forest : IsForest old) (own_s : get_or mid s 0 ≡ s)
    (own_r : get_or mid r 0 ≡ r) (l : s < length mid) (kept : (k t : ℕ) → IsTop old k t → IsTop mid k t) where
  abbrev to : {k t : ℕ} → IsTop old k t → IsTop (set mid s r) k (moved mid s r l t)
  to {k} {t} p = linked mid s r l own_s own_r (kept k t p)

  abbrev Parts : (a b : ℕ) → Type 0
  Parts a b =
      AreTogether old a b ⊎ ((AreTogether old a i × AreTogether old b j) ⊎ (AreTogether old a j × AreTogether old b i))

  in_new : (a : ℕ) → a < length old → a < length (set mid s r)
  in_new a la = omega (arith, count_still mid s r, count)

  in_old : (a : ℕ) → a < length (set mid s r) → a < length old
  in_old a la = omega (arith, count_still mid s r, count)

  merged_kept : (a b : ℕ) → AreTogether old a b → AreTogether (set mid s r) a b
  merged_kept a b both =
      record {
        one_in = in_new a both.one_in;
        other_in = in_new b both.other_in;
        top = moved mid s r l both.top;
        one = to both.one;
        other = to both.other;
      }

  -- where the paths from i and from j ended
  old_top : (k t : ℕ) → k < length old → IsTop mid k t → IsTop old k t
  old_top k t lk p =
      let some = some_top old k forest lk in
      subst (IsTop old k) (same_top mid (kept k some.0 some.1) p) some.1

  stays : (t : ℕ) → t ≡ r → moved mid s r l t ≡ r
  stays t e =
      elim (cases_eq t s) [ inl same ↦ moved_here mid s r l t same | inr ne ↦ moved_other mid s r l t ne ∙ e ]

  pub merged_sets : i < length old → j < length old → IsTop mid i s → IsTop mid j r → IsMerge i j old (set mid s r)
  merged_sets li lj one other =
      record {
        count = omega (arith, count_still mid s r, count);
        merged =
            together (set mid s r) (in_new i li) (in_new j lj) (linked mid s r l own_s own_r one)
            (linked mid s r l own_s own_r other) (moved_here mid s r l s refl ∙ sym (stays r refl));
        kept = merged_kept;
        only = λ a b both.
            let la : a < length old = in_old a both.one_in in
            let lb : b < length old = in_old b both.other_in in
            let ta = some_top old a forest la in
            let tb = some_top old b forest lb in
            let ea : moved mid s r l ta.0 ≡ both.top = same_top (set mid s r) (to ta.1) both.one in
            let eb : moved mid s r l tb.0 ≡ both.top = same_top (set mid s r) (to tb.1) both.other in
            cases a b la lb ta.0 tb.0 ta.1 tb.1 (ea ∙ sym eb) (cases_eq ta.0 s) (cases_eq tb.0 s);
      }
    where
      with_i : (a t : ℕ) → a < length old → IsTop old a t → t ≡ s → AreTogether old a i
      with_i a t la p e = together old la li p (old_top i s li one) e

      with_j : (a t : ℕ) → a < length old → IsTop old a t → t ≡ r → AreTogether old a j
      with_j a t la p e = together old la lj p (old_top j r lj other) e

      cases : (a b : ℕ) → a < length old → b < length old → (ta tb : ℕ) → IsTop old a ta → IsTop old b tb
          → moved mid s r l ta ≡ moved mid s r l tb → (ta ≡ s) ⊎ (ta ≡ s → ⊥) → (tb ≡ s) ⊎ (tb ≡ s → ⊥) → Parts a b
      cases a b la lb ta tb pa pb e (inl x) (inl y) = inl (together old la lb pa pb (x ∙ sym y))
      cases a b la lb ta tb pa pb e (inl x) (inr y) =
          inr (inl (
            with_i a ta la pa x,
            with_j b tb lb pb (sym (moved_other mid s r l tb y) ∙ (sym e ∙ moved_here mid s r l ta x)),
          ))
      cases a b la lb ta tb pa pb e (inr x) (inl y) =
          inr (inr (
            with_j a ta la pa (sym (moved_other mid s r l ta x) ∙ (e ∙ moved_here mid s r l tb y)),
            with_i b tb lb pb y,
          ))
      cases a b la lb ta tb pa pb e (inr x) (inr y) =
          inl (together old la lb pa pb (sym (moved_other mid s r l ta x) ∙ (e ∙ moved_other mid s r l tb y)))

-- i and j in the other order
pub merge_turned : (i j : ℕ) (old new : List ℕ) → IsMerge i j old new → IsMerge j i old new
merge_turned i j old new m =
    record {
      count = m.count;
      merged = together_turned new m.merged;
      kept = m.kept;
      only = λ a b both. other a b (m.only a b both);
    }
  where
    other : (a b : ℕ)
        → AreTogether old a b ⊎ ((AreTogether old a i × AreTogether old b j) ⊎ (AreTogether old a j × AreTogether old b i))
        → AreTogether old a b ⊎ ((AreTogether old a j × AreTogether old b i) ⊎ (AreTogether old a i × AreTogether old b j))
    other a b (inl p) = inl p
    other a b (inr (inl p)) = inr (inr p)
    other a b (inr (inr p)) = inr (inl p)

-- numbers that are their own parents are apart
pub own_apart : (ps : List ℕ) (i j : ℕ) → ((k : ℕ) → k < length ps → get_or ps k 0 ≡ k) → AreTogether ps i j → i ≡ j
own_apart ps i j own both =
    sym (own_top ps both.one (own i both.one_in)) ∙ own_top ps both.other (own j both.other_in)

-- its own parent is the first of its set
pub first_own : (ps : List ℕ) (i : ℕ) → IsForest ps → get_or ps i 0 ≡ i → IsFirstOfSet ps i
first_own ps i forest own j less both =
    let e : both.top ≡ i = own_top ps both.one own in
    let m : both.top ≤ j = top_least ps forest both.other_in both.other in
    omega arith

-- any other is not
pub not_first : (ps : List ℕ) (i : ℕ) → IsForest ps → i < length ps → get_or ps i 0 ≢ i → (j : ℕ) × (j < i) × AreTogether ps i j
not_first ps i forest l differ =
    let some = some_top ps i forest l in
    let own : get_or ps some.0 0 ≡ some.0 = top_own ps some.1 in
    let least : some.0 ≤ i = top_least ps forest l some.1 in
    let less : some.0 < i = below some.0 own least in
    (some.0, less, together ps l (omega arith) some.1 (here own) refl)
  where
    below : (t : ℕ) → get_or ps t 0 ≡ t → t ≤ i → t < i
    below t own least =
        elim (cases_eq t i) [
          | inl e ↦ absurd (differ (ap (λ (k : ℕ). get_or ps k 0) (sym e) ∙ (own ∙ e)))
          | inr ne ↦ omega arith
        ]
