-- The text of a certificate, in its two versions.
--
--   title                             the first line of a certificate without a fingerprint
--   stamped_title                     the first line of a certificate with a fingerprint
--   scan_word, .., end_line           the first words of the other lines, and the last line
--   scan_line d                       the line of the digest of a scan's file, in hexadecimal digits
--   fixed_line p                      the line of the fixed scanner
--   stamp_text s                      the three lines of a fingerprint
--   version_text s                    the first line of a certificate, with the lines of its fingerprint if it has one
--   cell_fields c end                 the four numbers of a cell, separated by spaces, and a byte after the last
--   cell_line cell, flow_line r, sink_line r
--                                     the lines of the three lists of a certificate: an inside cell; a facet and the
--                                     amount of the flow over it; a cell and the amount of the flow into its sink
--   counts_text c                     the six lines of a certificate with the numbers of points, scanners and sights,
--                                     the two weights, and the cost
--   cert_text c                       the text of a certificate: `version_text`, `counts_text`, the three lists, each
--                                     after its length, and `end_line`
use Rattle.std.specs.Prelude.{ℕ, Option, Some, None, List, [], ◌∷◌, ◌++◌, length, codes}
use Rattle.std.specs.List.{flat_map}
use Rattle.hex.specs.Hex.{encode_lower}
use Rattle.geo_sign.specs.Point.{Point}
use Rattle.line_text.specs.Numbers.{space, line_feed, ended, counted}
use Rattle.line_text.specs.Facets.{facet_fields}
use Rattle.mesh_ply.specs.Texts.{point_line}
use Rattle.certificate.specs.declared.certificate.FlowRow.{FlowRow}
use Rattle.certificate.specs.declared.certificate.SinkRow.{SinkRow}
use Rattle.certificate.specs.Stamps.{StampView}
use Rattle.certificate.specs.Certificates.{Counts, Claim}

-- the first version does not identify its scan
unfoldable pub title : List ℕ
title = codes "recon certificate 1\n"

-- the second version has a fingerprint after this line
unfoldable pub stamped_title : List ℕ
stamped_title = codes "recon certificate 2\n"

-- the prefix of a line of a fingerprint: the digest of the scan's file follows
unfoldable pub scan_word : List ℕ
scan_word = codes "scan "

-- the prefix of a line of a fingerprint: the scale follows
unfoldable pub unit_word : List ℕ
unit_word = codes "unit "

-- the prefix of a line of a fingerprint: the fixed scanner follows
unfoldable pub scanner_word : List ℕ
scanner_word = codes "scanner "

-- the end of the line of the fixed scanner if there is none
unfoldable pub none_line : List ℕ
none_line = codes "none\n"

-- the prefix of a line of a certificate: the number of distinct points of the scan follows
unfoldable pub points_word : List ℕ
points_word = codes "points "

-- the prefix of a line of a certificate: the number of scanners follows
unfoldable pub scanners_word : List ℕ
scanners_word = codes "scanners "

-- the prefix of a line of a certificate: the number of sights of any weight follows
unfoldable pub sights_word : List ℕ
sights_word = codes "sights "

-- the prefix of a line of a certificate: the visibility weight follows
unfoldable pub vote_word : List ℕ
vote_word = codes "vote "

-- the prefix of a line of a certificate: the area weight follows
unfoldable pub smooth_word : List ℕ
smooth_word = codes "smooth "

-- the prefix of a line of a certificate: the cost of the labels follows, which is the value of the flow
unfoldable pub cost_word : List ℕ
cost_word = codes "cost "

-- the prefix of a line of a certificate: the number of inside cells follows, then their list
unfoldable pub inside_word : List ℕ
inside_word = codes "inside "

-- the prefix of a line of a certificate: the number of flows over facets follows, then their list
unfoldable pub flow_word : List ℕ
flow_word = codes "flow "

-- the prefix of a line of a certificate: the number of flows into sinks follows, then their list
unfoldable pub sink_word : List ℕ
sink_word = codes "sink "

-- the last line of a certificate. A text without it is truncated
unfoldable pub end_line : List ℕ
end_line = codes "end\n"

-- a b c d, and the byte after d
abbrev pub cell_fields : List ℕ → ℕ → List ℕ
cell_fields (a ∷ b ∷ c ∷ d ∷ []) end = ended a space ++ (ended b space ++ (ended c space ++ ended d end))
cell_fields _ end = []

-- a b c d
abbrev pub cell_line : List ℕ → List ℕ
cell_line cell = cell_fields cell line_feed

-- a b c amount
abbrev pub flow_line : FlowRow → List ℕ
flow_line r = facet_fields r.facet space ++ ended r.amount line_feed

-- a b c d amount
abbrev pub sink_line : SinkRow → List ℕ
sink_line r = cell_fields r.cell space ++ ended r.amount line_feed

-- the digest in lower-case hexadecimal digits, two a byte
abbrev pub scan_line : List ℕ → List ℕ
scan_line digest = scan_word ++ (encode_lower digest ++ line_feed ∷ [])

-- if there is one, its three coordinates, else `none_line`
abbrev pub place_line : Option Point → List ℕ
place_line None = none_line
place_line (Some p) = point_line p

-- the position from which all points were seen
abbrev pub fixed_line : Option Point → List ℕ
fixed_line fixed = scanner_word ++ place_line fixed

-- the lines of the digest, the scale and the fixed scanner
abbrev pub stamp_text : StampView → List ℕ
stamp_text s = scan_line s.digest ++ (counted unit_word s.unit ++ fixed_line s.fixed)

-- the first line with the version, and the fingerprint if there is one
abbrev pub version_text : Option StampView → List ℕ
version_text None = title
version_text (Some s) = stamped_title ++ stamp_text s

-- the lines of the counts, the weights and the cost
abbrev pub counts_text : Counts → List ℕ
counts_text c =
    counted points_word c.points
    ++ (counted scanners_word c.scanners
    ++ (counted sights_word c.sights
    ++ (counted vote_word c.vote ++ (counted smooth_word c.smooth ++ counted cost_word c.cost))))

-- the lines before the lists, those of the three lists, each after its length, and the last line
abbrev pub cert_text : Claim → List ℕ
cert_text c =
    version_text c.stamp
    ++ (counts_text c.counts
    ++ ((counted inside_word (length c.inside) ++ flat_map cell_line c.inside)
    ++ ((counted flow_word (length c.flow) ++ flat_map flow_line c.flow)
    ++ ((counted sink_word (length c.sink) ++ flat_map sink_line c.sink) ++ end_line))))
