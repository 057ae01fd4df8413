use Rattle.nesthv_top.proofs.OwnSections.{report_is_sections, sections_are_own}
use Rattle.nesthv_top.proofs.laws.sections_are_own.Goals as goal

pub returns-clause-report : goal.returns-clause-report
returns-clause-report c = report_is_sections

pub returns-clause-own : goal.returns-clause-own
returns-clause-own c = sections_are_own
