use Rattle.sk_publishing.proofs.Marks as marks
use Rattle.sk_publishing.proofs.Residuals as residuals
use Rattle.sk_publishing.proofs.table_law.Goals as goal

pub returns-clause-marks : goal.returns-clause-marks
returns-clause-marks c = marks.marks_law

pub returns-clause-residuals : goal.returns-clause-residuals
returns-clause-residuals c = residuals.residual_law
