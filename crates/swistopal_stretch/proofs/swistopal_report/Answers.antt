-- `swistopal_stretch::swistopal_report` meets its contract: its layer's report, in numbers. Assumes nothing.
use Rattle.swistopal_stretch.proofs.Told.{report_made}
use Rattle.swistopal_stretch.proofs.swistopal_report.Goals as goal

pub returns : goal.returns
returns c = report_made _ _ _ _ _ _ _ _ c.geometry_in.ensures c.report-answer.ensures c.from.ensures
