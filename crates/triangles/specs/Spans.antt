-- Numbers from a smallest to a greatest one.
--
--   HoldsSpan s t      the span contains another
--   AreSpansOff s t    one is below the other
use Rattle.std.specs.Prelude.{◌⊎◌, ◌≤ℤ◌, ◌<ℤ◌}
use Rattle.triangles.specs.declared.span.Span.{Span}

-- the span contains another
pub record HoldsSpan (s t : Span) : Type 0 where
  pub low : s.low ≤ℤ t.low
  pub high : t.high ≤ℤ s.high

-- one is below the other
abbrev pub AreSpansOff : (s t : Span) → Type 0
AreSpansOff s t = (s.high <ℤ t.low) ⊎ (t.high <ℤ s.low)
