use Rattle.rma_report.proofs.pair.write_pair.Goals as goal

pub returns-in-Race : goal.returns-in-Race
returns-in-Race g c = rw c.in-Race.is c.write_race.ensures

pub returns-in-Exposed : goal.returns-in-Exposed
returns-in-Exposed g c = rw c.in-Exposed.is c.write_exposed.ensures

pub returns-in-Doubled : goal.returns-in-Doubled
returns-in-Doubled g c = rw c.in-Doubled.is c.write_doubled.ensures
