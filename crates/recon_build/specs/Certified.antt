-- The content of a certificate of a minimum cut.
--
--   CertifiesCut s slots cut claim     the claim is of this cut: of its complex and its labels
use Rattle.std.specs.Prelude.{Option, List}
use Rattle.certificate.specs.Certificates.{Claim}
use Rattle.solution.specs.MinimumCuts.{IsCutOf}
use Rattle.solution.specs.declared.cutting.MinimumCut.{MinimumCut}
use Rattle.solution.specs.Solutions.{IsCertificate}
use Rattle.tetra_store.specs.declared.link.Cell.{Cell}
use Rattle.visibility.specs.Scenes.{Scene}

abbrev pub CertifiesCut : Scene → List (Option Cell) → MinimumCut → Claim → Type 0
CertifiesCut s slots cut claim = (is : IsCutOf s slots cut) → IsCertificate s is.listing.complex is.inside claim
