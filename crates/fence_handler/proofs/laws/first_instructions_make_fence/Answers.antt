use Rattle.fence_handler.proofs.Naming.{first_make_fence, names_asid_of, names_first_page_of, names_no_asid, names_no_first_page}
use Rattle.fence_handler.proofs.laws.first_instructions_make_fence.Goals as goal

pub returns-clause-fence : goal.returns-clause-fence
returns-clause-fence c = first_make_fence

pub returns-clause-asid : goal.returns-clause-asid
returns-clause-asid c = names_asid_of

pub returns-clause-no_asid : goal.returns-clause-no_asid
returns-clause-no_asid c = names_no_asid

pub returns-clause-page : goal.returns-clause-page
returns-clause-page c = names_first_page_of

pub returns-clause-no_page : goal.returns-clause-no_page
returns-clause-no_page c = names_no_first_page
