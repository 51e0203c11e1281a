-- What the steps of `replace` leave.
--
-- No number is both old and new, since the new cells are put in first. So taking the old ones out changes nothing of the
-- others, and the cells are `IsRebuilt`, of which `linked_again` shows the rest. A vertex keeps a new cell where the fan has it
-- or it is p. Else it keeps the cell that it kept, if that stays, and otherwise the one that was found for it, which is not
-- old.
use Rattle.std.proofs.Common.{ℕ, zero, suc, ◌≡◌, ◌≢◌, ◌<◌, ◌≤◌, ◌+◌, Bool, true, false, List, ◌++◌, take, drop, length, Option}
use Rattle.std.proofs.Common.{Some, None, refl, sym, ap, ◌∙◌, ◌⊎◌, inl, inr, subst, arith, slice_index, slice_index_or}
use Rattle.std.specs.Prelude.{is_some}
use Rattle.std.proofs.Math.ListN.{set, length-set}
use Rattle.std.specs.List.{Contains}
use Rattle.std.proofs.lemmas.Bool.{cases_eq, cases_lt, false≢true}
use Rattle.std.proofs.lemmas.List.{get_or-set_same, get_or-set_other, take_at}
use Rattle.std.proofs.lemmas.List.Elements.{Contains-get_or}
use Rattle.geo_sign.specs.declared.point.TheConstants.{CORNERS}
use Rattle.geo_sign.specs.Tetrahedron.{Tetrahedron, vertex_of}
use Rattle.geo_sign.specs.Boxes.{IsBoxed}
use Rattle.geo_sign.specs.Vertices.{Has}
use Rattle.tetra_store.specs.declared.link.Cell.{Cell}
use Rattle.tetra_store.specs.declared.fan.Facet.{Facet}
use Rattle.geo_sign.specs.Writings.{IsVertexOf}
use Rattle.tetra_store.specs.Links.{slot_at, links_of, vertices_in, next_in, IsLive, IsLinked}
use Rattle.tetra_store.specs.Store.{Store, IsStore, vertices_at, vertices_of}
use Rattle.geo_sign.specs.Edges.{over, edge_start}
use Rattle.tetra_store.specs.Fan.{fan_facet, fan_outer, IsOutside, IsInFan, IsHeld, CanReplace, IsOver, IsReplaced}
use Rattle.tetra_store.specs.Steps.{IsNamed, IsRenamed, IsMated, IsGrown, IsKeptNew, AreKeptNew, IsOutsideWith, AreMended}
use Rattle.tetra_store.specs.Steps.{AreOut}
use Rattle.tetra_store.proofs.Facets.{place_of}
use Rattle.tetra_store.proofs.Rebuilt.{IsRebuilt, IsRebuilding, listed_or_not}
use Rattle.tetra_store.proofs.Again.{linked_again}
use Rattle.tetra_store.proofs.Grown.{place_in, none_not_live}

-- what a vector holds after a write to all of it
pub items_written : (n : ℕ) (xs ys : List ℕ) → length xs ≡ n → take n (xs ++ drop (length xs) ys) ≡ xs
items_written n xs ys l = take_at xs (drop (length xs) ys) n l

module _ (s : Store) (old : List ℕ) (fan : List Facet) (p : ℕ) (store : IsStore s) (can : CanReplace s old fan p) where
  module _ (s1 : List (Option Cell)) (ids kept1 : List ℕ) (grown : IsGrown (links_of s.slots) (links_of s1) fan p ids)
      (count : length ids ≡ length fan) (keeps : AreKeptNew s.kept kept1 fan ids p (length fan)) where
    new_listed : (i : ℕ) → i < length fan → Contains ids (slice_index ids i)
    new_listed i l = Contains-get_or ids i 0 (omega arith)

    new_out : (i : ℕ) → i < length fan → ¬ Contains old (slice_index ids i)
    new_out i l h = grown.fresh (slice_index ids i) (new_listed i l) (can.live (slice_index ids i) h)

    old_at : (id : ℕ) → Contains old id → (links_of s1).at id ≡ (links_of s.slots).at id
    old_at id h = grown.same id (can.live id h)

    held_now : (u : ℕ) → IsHeld (links_of s.slots) old u → IsHeld (links_of s1) old u
    held_now u h = record {
      cell = h.cell;
      live = grown.stays h.cell h.live;
      outside = h.outside;
      has = subst (λ (t : Tetrahedron). IsVertexOf t u) (sym (grown.same h.cell h.live)) h.has;
    }

    -- a vertex of the fan keeps a new cell
    fan_keeps : (u id : ℕ) → Contains old id → IsInFan fan u → slice_index kept1 u ≡ id → ⊥
    fan_keeps u id h f e =
        let k = in_over (fan_facet fan f.facet) f.opposite f.opposite_in in
        let n = keeps.done f.facet k.0 f.facet_in k.1 in
        let u_is : vertex_of (over (fan_facet fan f.facet) p) k.0 ≡ u = k.2 ∙ f.is in
        let n' : IsKeptNew kept1 fan ids p u = subst (λ (z : ℕ). IsKeptNew kept1 fan ids p z) u_is n in
        new_out n'.facet n'.facet_in (subst (λ (z : ℕ). Contains old z) (sym e ∙ n'.is) h)
      where
        in_over : (f : _) (e : ℕ) → e < 3 → (k : ℕ) × (k < 4) × (vertex_of (over f p) k ≡ edge_start f e)
        in_over f zero l = (1, omega arith, refl)
        in_over f (suc zero) l = (2, omega arith, refl)
        in_over f (suc (suc e)) l = (0, omega arith, refl)

    pub can_mend : (id k : ℕ) → Contains old id → k < 4 → slice_index kept1 (vertex_of ((links_of s1).at id) k) ≡ id
        → IsHeld (links_of s1) old (vertex_of ((links_of s1).at id) k)
    can_mend id k h l e =
        let at = old_at id h in
        let u = vertex_of ((links_of s.slots).at id) k in
        let e' : slice_index kept1 u ≡ id = subst (λ (t : Tetrahedron). slice_index kept1 (vertex_of t k) ≡ id) at e in
        subst (λ (t : Tetrahedron). IsHeld (links_of s1) old (vertex_of t k)) (sym at)
        (elim (can.held u (store.linked.has id k (can.live id h) l)) [
          | inl f ↦ absurd (fan_keeps u id h f e')
          | inr g ↦ held_now u g
        ])

    -- ---- after

    module _ (s2 : List (Option Cell)) (kept2 : List ℕ) (mends : AreMended (links_of s1) old kept1 kept2 (length old))
        (out : AreOut old s1 s2 (length old)) where
      abbrev flags : List Bool
      flags = set s.inserted p true

      gone : (x : ℕ) → Contains old x → IsLive (links_of s2) x → ⊥
      gone x h live =
          let k = place_in old x h in
          none_not_live s2 x (subst (λ (z : ℕ). slot_at s2 z ≡ None) k.2 (out.gone k.0 k.1 k.1)) live

      live_is : (x : ℕ) → (¬ Contains old x) → (links_of s2).is_live x ≡ (links_of s1).is_live x
      live_is x h = ap (λ (o : Option Cell). is_some o) (out.kept x h)

      at_is : (x : ℕ) → (¬ Contains old x) → (links_of s2).at x ≡ (links_of s1).at x
      at_is x h = ap (λ (o : Option Cell). vertices_in o) (out.kept x h)

      next_is : (x k : ℕ) → (¬ Contains old x) → (links_of s2).next x k ≡ (links_of s1).next x k
      next_is x k h = ap (λ (o : Option Cell). next_in o k) (out.kept x h)

      outer_outside : (i y : ℕ) → i < length fan → fan_outer fan i ≡ Some y → ¬ Contains old y
      outer_outside i y l e = subst (λ (o : Option ℕ). IsOutside old o) e (can.rim.rim i l).outside

      only_now : (x : ℕ) → IsLive (links_of s2) x
          → (IsLive (links_of s.slots) x × (¬ Contains old x)) ⊎ ((i : ℕ) × (i < length fan) × (slice_index ids i ≡ x))
      only_now x live =
          let h : ¬ Contains old x = λ h. gone x h live in
          elim (grown.only x (sym (live_is x h) ∙ live)) [
            | inl a ↦ inl (a, h)
            | inr i ↦ inr i
          ]

      named_now : (i y : ℕ) → i < length fan → fan_outer fan i ≡ Some y → IsNamed (links_of s.slots) (links_of s2) fan ids i y
      named_now i y l e =
          let n = grown.named i y l e in
          record {
            side = n.side;
            side_in = n.side_in;
            turned = n.turned;
            named = next_is y n.side (outer_outside i y l e) ∙ n.named;
          }

      kept_now : (x k : ℕ) → IsLive (links_of s.slots) x → (¬ Contains old x) → k < 4
          → ((links_of s2).next x k ≡ (links_of s.slots).next x k) ⊎ IsRenamed (links_of s.slots) (links_of s2) fan ids x k
      kept_now x k live h l = elim (grown.kept x k live) [
        | inl e ↦ inl (next_is x k h ∙ e)
        | inr r ↦
            inr (record {
              facet = r.facet;
              facet_in = r.facet_in;
              outer = r.outer;
              turned = r.turned;
              named = next_is x k h ∙ r.named;
            })
      ]

      inner_now : (i e : ℕ) → i < length fan → e < 3 → IsMated (links_of s2) fan ids i e
      inner_now i e l m =
          let n = grown.inner i e l m in
          record {
            mate = n.mate;
            side = n.side;
            mate_in = n.mate_in;
            side_in = n.side_in;
            start_is = n.start_is;
            end_is = n.end_is;
            named = next_is (slice_index ids i) e (new_out i l) ∙ n.named;
          }

      rebuilt : IsRebuilt (links_of s.slots) (links_of s2) old fan p ids
      rebuilt = record {
        stays = λ x live h. live_is x h ∙ grown.stays x live;
        same = λ x live h. at_is x h ∙ grown.same x live;
        made = λ i l. live_is (slice_index ids i) (new_out i l) ∙ grown.made i l;
        made_at = λ i l. at_is (slice_index ids i) (new_out i l) ∙ grown.made_at i l;
        only = only_now;
        outer = λ i l. next_is (slice_index ids i) 3 (new_out i l) ∙ grown.outer i l;
        named = named_now;
        kept = kept_now;
        inner = inner_now;
      }

      -- which are inserted
      flag_other : (u : ℕ) → u ≢ p → slice_index_or flags u false ≡ slice_index_or s.inserted u false
      flag_other u n = get_or-set_other s.inserted p u true false n

      flag_same : slice_index_or flags p false ≡ true
      flag_same = let b = can.below in let e = store.flags in get_or-set_same s.inserted p true false (omega arith)

      corner_apart : (k : ℕ) → k < CORNERS → k ≢ p
      corner_apart k l e =
          let t : slice_index_or s.inserted p false ≡ true =
          subst (λ (z : ℕ). slice_index_or s.inserted z false ≡ true) e ((store.vertices.boxed.corner_in k l).1) in
          false≢true (sym can.out ∙ t)

      above : CORNERS ≤ p
      above = elim (cases_lt p CORNERS) [
        | inl l ↦ absurd (corner_apart p l refl)
        | inr l ↦ l
      ]

      more : (u : ℕ) → Has (vertices_of s) u → Has (vertices_at s.points flags) u
      more u h = elim (cases_eq u p) [
        | inl e ↦ (h.0, subst (λ (z : ℕ). slice_index_or flags z false ≡ true) (sym e) flag_same)
        | inr n ↦ (h.0, flag_other u n ∙ h.1)
      ]

      pub linked_now : IsLinked (vertices_at s.points flags) (links_of s2)
      linked_now = linked_again (rebuilding)
        where
          rebuilding : IsRebuilding s.points s.inserted flags (links_of s.slots) (links_of s2) old fan p ids
          rebuilding = record {
            linked = store.linked;
            rim = can.rim;
            edges = can.edges;
            before = can.before;
            above = above;
            new = λ h. false≢true (sym can.out ∙ h.1);
            in_now = (can.below, flag_same);
            more = more;
            live = can.live;
            rebuilt = rebuilt;
          }

      -- kept cells
      keeps_new : (u : ℕ) → slice_index kept2 u ≡ slice_index kept1 u → IsKeptNew kept1 fan ids p u
          → IsLive (links_of s2) (slice_index kept2 u) × IsVertexOf ((links_of s2).at (slice_index kept2 u)) u
      keeps_new u e n =
          let is : slice_index ids n.facet ≡ slice_index kept2 u = sym n.is ∙ sym e in (
            subst (λ (z : ℕ). IsLive (links_of s2) z) is (rebuilt.made n.facet n.facet_in),
            subst (λ (z : ℕ). IsVertexOf ((links_of s2).at z) u) is
                (subst (λ (t : Tetrahedron). IsVertexOf t u) (sym (rebuilt.made_at n.facet n.facet_in)) n.has),
          )

      keeps_old : (u : ℕ) → slice_index kept2 u ≡ slice_index s.kept u → Has (vertices_of s) u
          → IsLive (links_of s2) (slice_index kept2 u) × IsVertexOf ((links_of s2).at (slice_index kept2 u)) u
      keeps_old u e h =
          let k = store.kept_cells u h in
          let x = slice_index s.kept u in
          elim (listed_or_not old x) [
            | inr n ↦ (
              subst (λ (z : ℕ). IsLive (links_of s2) z) (sym e) (rebuilt.stays x k.0 n),
              subst (λ (z : ℕ). IsVertexOf ((links_of s2).at z) u) (sym e)
                  (subst (λ (t : Tetrahedron). IsVertexOf t u) (sym (rebuilt.same x k.0 n)) k.1),
            )
            | inl l ↦
                let j = place_in old x l in
                let n = place_of ((links_of s.slots).at x) u k.1 in
                let not = mends.done j.0 n.0 j.1 j.1 n.1 in
                let at : (links_of s1).at (slice_index old j.0) ≡ (links_of s.slots).at x =
                subst (λ (z : ℕ). (links_of s1).at z ≡ (links_of s.slots).at x) (sym j.2) (old_at x l) in
                let u_is : vertex_of ((links_of s1).at (slice_index old j.0)) n.0 ≡ u =
                ap (λ (t : Tetrahedron). vertex_of t n.0) at ∙ n.2 in
                absurd (not (subst (λ (z : ℕ). slice_index kept2 z ≡ slice_index old j.0) (sym u_is) (e ∙ sym j.2)))
          ]

      keeps_mended : (u : ℕ) → IsOutsideWith (links_of s1) old u (slice_index kept2 u)
          → IsLive (links_of s2) (slice_index kept2 u) × IsVertexOf ((links_of s2).at (slice_index kept2 u)) u
      keeps_mended u o = (
        live_is (slice_index kept2 u) o.outside
            ∙ o.live,
        subst (λ (t : Tetrahedron). IsVertexOf t u) (sym (at_is (slice_index kept2 u) o.outside)) o.has,
      )

      kept_one : (u : ℕ) → (u ≢ p → Has (vertices_of s) u)
          → IsLive (links_of s2) (slice_index kept2 u) × IsVertexOf ((links_of s2).at (slice_index kept2 u)) u
      kept_one u h = elim (mends.each u) [
        | inr o ↦ keeps_mended u o
        | inl e ↦ elim (cases_eq u p) [
          | inl same ↦
              keeps_new u e
              (subst (λ (z : ℕ). IsKeptNew kept1 fan ids p z) (sym same) (keeps.done 0 3 can.some_facet (omega arith)))
          | inr n ↦ elim (keeps.each u) [
            | inr m ↦ keeps_new u e m
            | inl d ↦ keeps_old u (e ∙ d) (h n)
          ]
        ]
      ]

      was_in : (u : ℕ) → Has (vertices_at s.points flags) u → u ≢ p → Has (vertices_of s) u
      was_in u h n = (h.0, sym (flag_other u n) ∙ h.1)

      pub store_again : (spare capacity : ℕ)
          → IsStore
          (record { points = s.points; inserted = flags; slots = s2; kept = kept2; spare = spare; capacity = capacity })
      store_again spare capacity = record {
        flags = length-set s.inserted p true ∙ store.flags;
        keeps = mends.count ∙ (keeps.count ∙ store.keeps);
        vertices = record {
          few = store.vertices.few;
          boxed = record {
            corner_in = λ k l. let c = box.corner_in k l in (c.0, flag_other k (corner_apart k l) ∙ c.1);
            corner_at = box.corner_at;
            data_at = box.data_at;
            apart = box.apart;
            tied = λ u. refl;
          };
        };
        linked = linked_now;
        kept_cells = λ u h. kept_one u (was_in u h);
      }
        where
          box : IsBoxed (vertices_of s)
          box = store.vertices.boxed

      pub replaced_now : (spare capacity : ℕ) → s.spare ≤ spare + length fan
          → IsReplaced s
          (record { points = s.points; inserted = flags; slots = s2; kept = kept2; spare = spare; capacity = capacity }) old fan p
      replaced_now spare capacity l = record {
        points = refl;
        inserted = refl;
        stays = λ id live h. (rebuilt.stays id live h, rebuilt.same id live h);
        comes = λ i m. (slice_index ids i, rebuilt.made i m, rebuilt.made_at i m);
        only = λ id live. elim (only_now id live) [
          | inl h ↦ inl h
          | inr i ↦
              inr (record {
                facet = i.0;
                facet_in = i.1;
                is = subst (λ (z : ℕ). (links_of s2).at z ≡ over (fan_facet fan i.0) p) i.2 (rebuilt.made_at i.0 i.1);
              })
        ];
        spare = l;
      }

      pub first_new : IsLive (links_of s2) (slice_index ids 0) × IsOver (links_of s2) fan p (slice_index ids 0)
      first_new = (
        rebuilt.made 0 can.some_facet,
        record {
          facet = 0;
          facet_in = can.some_facet;
          is = rebuilt.made_at 0 can.some_facet;
        },
      )
