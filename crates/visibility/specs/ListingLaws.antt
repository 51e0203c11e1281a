-- The order in which cells and facets are listed decides nothing.
--
--   RisingIsListed     the ascending lists are a listing, and a network over them is one in any order
--   EachOnce           a listing has each cell once and each facet that has a capacity once, and nothing else
--   ListingsAgree      two listings of one scene judge labels and flows alike
use Rattle.std.specs.Prelude.{ℕ, ◌↔◌, List, Contains}
use Rattle.geo_sign.specs.Cells.{IsRisingCell}
use Rattle.visibility.specs.Scenes.{Scene}
use Rattle.visibility.specs.Complexes.{Complex}
use Rattle.visibility.specs.Votes.{HasCapacity}
use Rattle.visibility.specs.Listings.{AreOnce, IsListingOf, AgreeInAnyOrder}

-- what a listing has
pub record EachOnce (s : Scene) (listing : Complex) : Type 0 where
  pub cells_once : AreOnce listing.cells
  pub cells : (row : List ℕ) → Contains listing.cells row ↔ IsRisingCell s.vertices row
  pub facets_once : AreOnce listing.facets
  pub facets : (f : List ℕ) → Contains listing.facets f ↔ HasCapacity s listing.cells f

-- whatever their orders
abbrev pub ListingsAgree : Type 0
ListingsAgree = (s : Scene) (c d : Complex) → IsListingOf s c → IsListingOf s d → AgreeInAnyOrder s c d
