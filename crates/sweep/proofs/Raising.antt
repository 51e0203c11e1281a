-- What the fields of a sweep keep: when it is made (`begun`), when its smoothing is raised (`raised`), and by whatever names the lists of
-- its network are called (`kept_over`).
--
-- At a larger smoothing no capacity is less, and all else in the network of the cells is the same. So a valid flow stays valid
-- (`valid_risen`).
use Rattle.std.proofs.Common.{ℕ, ◌≡◌, ◌<◌, ◌≤◌, ◌+◌, ◌*◌, ◌^◌, ◌++◌, ap, sym, subst, arith, Bool, true, false, cond, List, Option}
use Rattle.std.proofs.Common.{length, get_or}
use Rattle.cell_net.specs.Arcs.{IsShape, across, is_free}
use Rattle.cell_net.specs.Shape.{numbered_with}
use Rattle.flow_net.specs.NumberedFlows.{IsLargest, IsLeastInside, IsValidFlow, cost_of, value_of}
use Rattle.flow_net.specs.declared.Flow.{Flow}
use Rattle.flow_net.specs.declared.Labels.{Labels}
use Rattle.flow_net.specs.declared.votes.Settings.{Settings}
use Rattle.flow_net.specs.declared.votes.Sight.{Sight}
use Rattle.geo_sign.specs.Point.{Point}
use Rattle.geo_sign.specs.Vertices.{corners}
use Rattle.scan_rows.specs.Shown.{Shown, IsShown}
use Rattle.solution.specs.Scans.{points_of, scene_of_scan, sights_of}
use Rattle.tetra_store.specs.Links.{links_of}
use Rattle.tetra_store.specs.Store.{Store}
use Rattle.tetra_store.specs.declared.link.Cell.{Cell}
use Rattle.visibility.specs.Scenes.{Scene, scene_of}
use Rattle.cell_net.specs.Counts.{AreCountsOf}
use Rattle.sweep.specs.Entries.{CostsLeast}
use Rattle.sweep.specs.Swept.{HasLargest, IsKept}
use Rattle.sweep.proofs.Scenes.{counts_to, scene_kept}
use Rattle.sweep.proofs.Surfaces.{costs}

-- ---- a flow at a larger smoothing
amount_risen : (free : Bool) (n : ℕ) (a b : Settings) → b.vote ≡ a.vote → a.smooth ≤ b.smooth
    → cond free (a.vote * n + a.smooth) 0 ≤ cond free (b.vote * n + b.smooth) 0
amount_risen true n a b vote le = let same = ap (λ (v : ℕ). v * n) vote in omega (arith, same, le)
amount_risen false n a b vote le = omega arith

pub valid_risen : (slots : List (Option Cell)) (crossed behind : List ℕ) (fixed : List Bool) (a b : Settings)
    (low : IsShape slots crossed behind fixed a) (high : IsShape slots crossed behind fixed b) (flow : Flow)
    → b.vote ≡ a.vote → a.smooth ≤ b.smooth → IsValidFlow (numbered_with slots crossed behind fixed a low) flow
    → IsValidFlow (numbered_with slots crossed behind fixed b high) flow
valid_risen slots crossed behind fixed a b low high flow vote le valid =
    record {
      arc_count = valid.arc_count;
      node_count = valid.node_count;
      amounts = record {
        within_cap = λ j l.
            (let within = valid.within_cap j l in
            let risen = amount_risen (is_free fixed (across slots j)) (get_or crossed j 0) a b vote le in
            omega (arith, within, risen));
        within_sink = λ v l.
            subst (λ (n : ℕ). get_or flow.on_sink v 0 ≤ cond ((links_of slots).is_live v) (n * get_or behind v 0) 0) (sym vote)
            (valid.within_sink v l);
        none_fixed = valid.none_fixed;
        balanced = valid.balanced;
      };
    }

-- ---- what is kept
module _ (points scanners : List Point) (sights : List Sight) where
  -- of lists of other names
  pub kept_over : (settings given : Settings) (store other : Store) (crossed xs behind ys : List ℕ) (fixed flags : List Bool)
      (flow : Flow) (labels : Labels) → given ≡ settings → other ≡ store → xs ≡ crossed → ys ≡ behind → flags ≡ fixed
      → IsKept points scanners sights settings store crossed behind fixed flow labels
      → IsKept points scanners sights given other xs ys flags flow labels
  kept_over settings given store other crossed xs behind ys fixed flags flow labels a b d e f kept =
      subst (λ (s : Settings). IsKept points scanners sights s other xs ys flags flow labels) (sym a)
      (subst (λ (t : Store). IsKept points scanners sights settings t xs ys flags flow labels) (sym b)
      (subst (λ (l : List ℕ). IsKept points scanners sights settings store l ys flags flow labels) (sym d)
      (subst (λ (l : List ℕ). IsKept points scanners sights settings store crossed l flags flow labels) (sym e)
      (subst (λ (l : List Bool). IsKept points scanners sights settings store crossed behind l flow labels) (sym f) kept))))

  -- of a scan, from its beginning
  pub begun : (scan : Shown) (settings : Settings) (store : Store) (crossed behind : List ℕ) (fixed : List Bool) (flow : Flow)
      (labels : Labels) → IsShown scan → points ≡ points_of scan → scanners ≡ scan.scanners → sights ≡ sights_of scan
      → store.points ≡ corners ++ points_of scan → AreCountsOf (scene_of_scan scan settings) store.slots crossed behind fixed
      → length fixed < 2 ^ 32 → (shape : IsShape store.slots crossed behind fixed settings)
      → IsLargest (numbered_with store.slots crossed behind fixed settings shape) flow
      → IsLeastInside (numbered_with store.slots crossed behind fixed settings shape) labels
      → cost_of (numbered_with store.slots crossed behind fixed settings shape) labels
      ≡ value_of (numbered_with store.slots crossed behind fixed settings shape) flow
      → IsKept points scanners sights settings store crossed behind fixed flow labels
  begun scan settings store crossed behind fixed flow labels shown points_are scanners_are sights_are stored counts few shape largest
      least equal =
      record {
        scan = scan;
        shown = shown;
        points_are = points_are;
        scanners_are = scanners_are;
        sights_are = sights_are;
        stored = subst (λ (list : List Point). store.points ≡ corners ++ list) (sym points_are) stored;
        counts =
            subst (λ (s : Scene). AreCountsOf s store.slots crossed behind fixed)
            (scene_kept scan points scanners sights settings points_are scanners_are sights_are) counts;
        few = few;
        shape = shape;
        largest = largest;
        least = least;
        equal = equal;
      }

  module _ (a : Settings) (store : Store) (crossed behind : List ℕ) (fixed : List Bool) (flow : Flow) (labels : Labels)
      (kept : IsKept points scanners sights a store crossed behind fixed flow labels) where
    -- the flow that contracts see
    pub largest_of : HasLargest (record {
      points = points;
      scanners = scanners;
      sights = sights;
      settings = a;
      slots = store.slots;
      flow = flow;
    })
    largest_of =
        record {
          crossed = crossed;
          behind = behind;
          fixed = fixed;
          counts = kept.counts;
          shape = kept.shape;
          largest = kept.largest;
          equal =
              subst (λ (n : ℕ). CostsLeast (scene_of points scanners sights a) n) kept.equal
              (costs points scanners sights a store crossed behind fixed flow labels kept);
        }

    -- at another smoothing, with a largest flow and the least inside there
    pub raised : (b : Settings) (shape : IsShape store.slots crossed behind fixed b) (more : Flow) (other : Labels)
        → IsLargest (numbered_with store.slots crossed behind fixed b shape) more
        → IsLeastInside (numbered_with store.slots crossed behind fixed b shape) other
        → cost_of (numbered_with store.slots crossed behind fixed b shape) other
        ≡ value_of (numbered_with store.slots crossed behind fixed b shape) more
        → IsKept points scanners sights b store crossed behind fixed more other
    raised b shape more other largest least equal =
        record {
          scan = kept.scan;
          shown = kept.shown;
          points_are = kept.points_are;
          scanners_are = kept.scanners_are;
          sights_are = kept.sights_are;
          stored = kept.stored;
          counts = counts_to points scanners sights a b store.slots crossed behind fixed kept.counts;
          few = kept.few;
          shape = shape;
          largest = largest;
          least = least;
          equal = equal;
        }
