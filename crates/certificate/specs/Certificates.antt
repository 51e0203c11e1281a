-- The content of a certificate, and when it is well formed.
--
--   stamp_view s    the fingerprint that a `Stamp` of the code is
--   Claim, claim_of c   what a certificate states
--   IsWellFormed c  the claim has a text
use Rattle.std.specs.Prelude.{ℕ, ◌<◌, ◌^◌, List, Option, All, AllPairs, length, map}
use Rattle.std.specs.Option.{option_map}
use Rattle.geo_sign.specs.Rising.{IsBefore}
use Rattle.certificate.specs.declared.certificate.Certificate.{Certificate}
use Rattle.certificate.specs.declared.certificate.FlowRow.{FlowRow}
use Rattle.certificate.specs.declared.certificate.SinkRow.{SinkRow}
use Rattle.certificate.specs.declared.stamp.Stamp.{Stamp}
use Rattle.certificate.specs.Stamps.{StampView, IsVersion}
use Rattle.certificate.specs.Rows.{IsCellRow, IsFlowRow, IsSinkRow}

-- the content of a fingerprint
abbrev pub stamp_view : Stamp → StampView
stamp_view s = record { digest = s.digest; unit = s.unit; fixed = s.fixed }

-- the numbers that head a certificate
pub record Counts : Type 0 where
  pub points : ℕ
  pub scanners : ℕ
  pub sights : ℕ
  pub vote : ℕ
  pub smooth : ℕ
  pub cost : ℕ

-- a fingerprint or none, counts, a cost, the cells that are inside, and a flow
pub record Claim : Type 0 where
  pub stamp : Option StampView
  pub counts : Counts
  pub inside : List (List ℕ)
  pub flow : List FlowRow
  pub sink : List SinkRow

-- the content of a certificate
abbrev pub claim_of : Certificate → Claim
claim_of c =
    record {
      stamp = option_map stamp_view c.stamp;
      counts = record {
        points = c.points;
        scanners = c.scanners;
        sights = c.sights;
        vote = c.vote;
        smooth = c.smooth;
        cost = c.cost;
      };
      inside = c.inside.items;
      flow = c.flow.items;
      sink = c.sink.items;
    }

-- five 32-bit numbers and a 64-bit cost
pub record FitCounts (c : Counts) : Type 0 where
  pub points : c.points < 2 ^ 32
  pub scanners : c.scanners < 2 ^ 32
  pub sights : c.sights < 2 ^ 32
  pub vote : c.vote < 2 ^ 32
  pub smooth : c.smooth < 2 ^ 32
  pub cost : c.cost < 2 ^ 64

-- cells in strictly ascending order
pub record AreCellRows (cells : List (List ℕ)) : Type 0 where
  pub few : length cells < 2 ^ 64
  pub each : All IsCellRow cells
  pub rising : AllPairs IsBefore cells

-- amounts on facets, in strictly ascending order of the facets
pub record IsFlowList (rows : List FlowRow) : Type 0 where
  pub few : length rows < 2 ^ 64
  pub each : All IsFlowRow rows
  pub rising : AllPairs IsBefore (map (λ r. r.facet) rows)

-- amounts at cells, in strictly ascending order of the cells
pub record IsSinkList (rows : List SinkRow) : Type 0 where
  pub few : length rows < 2 ^ 64
  pub each : All IsSinkRow rows
  pub rising : AllPairs IsBefore (map (λ r. r.cell) rows)

-- the fingerprint is valid, the numbers fit, the rows are valid, and the three lists ascend strictly
pub record IsWellFormed (c : Claim) : Type 0 where
  pub stamp : IsVersion c.stamp
  pub counts : FitCounts c.counts
  pub inside : AreCellRows c.inside
  pub flow : IsFlowList c.flow
  pub sink : IsSinkList c.sink
