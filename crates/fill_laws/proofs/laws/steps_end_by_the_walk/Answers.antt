use Rattle.fill_laws.proofs.Leaves.{fills_can_be_made}
use Rattle.fill_laws.proofs.Ruling.{steps_end_by_rule, tries_end_by_rule}
use Rattle.fill_laws.proofs.Walks.{fills_are_devices, fills_are_walks, fills_serve_the_device, fills_serve_the_page, page_has_one_entry}
use Rattle.fill_laws.proofs.laws.steps_end_by_the_walk.Goals as goal

pub returns-clause-places : goal.returns-clause-places
returns-clause-places c = fills_are_walks

pub returns-clause-can : goal.returns-clause-can
returns-clause-can c = fills_can_be_made

pub returns-clause-tries : goal.returns-clause-tries
returns-clause-tries c = tries_end_by_rule

pub returns-clause-steps : goal.returns-clause-steps
returns-clause-steps c = steps_end_by_rule

pub returns-clause-page : goal.returns-clause-page
returns-clause-page c = fills_serve_the_page

pub returns-clause-same : goal.returns-clause-same
returns-clause-same c = page_has_one_entry

pub returns-clause-devices : goal.returns-clause-devices
returns-clause-devices c = fills_are_devices

pub returns-clause-device_page : goal.returns-clause-device_page
returns-clause-device_page c = fills_serve_the_device
