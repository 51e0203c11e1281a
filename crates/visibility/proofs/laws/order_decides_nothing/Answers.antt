use Rattle.visibility.proofs.Listings.{each_once}
use Rattle.visibility.proofs.ListingAgreements.{listings_agree}
use Rattle.visibility.proofs.laws.order_decides_nothing.Goals as goal

pub returns-clause-once : goal.returns-clause-once
returns-clause-once c = each_once

pub returns-clause-alike : goal.returns-clause-alike
returns-clause-alike c = listings_agree
