use Rattle.geo_sign.proofs.Rising.{rising_law, cell_list_law}
use Rattle.geo_sign.proofs.laws.rising_list_law.Goals as goal

pub returns-clause-rising : goal.returns-clause-rising
returns-clause-rising c = rising_law

pub returns-clause-cells : goal.returns-clause-cells
returns-clause-cells c = cell_list_law
