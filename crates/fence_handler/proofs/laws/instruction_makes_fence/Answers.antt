use Rattle.fence_handler.proofs.Naming.{makes_fence, names_no_page, names_no_vmid, names_page_of, names_vmid_of}
use Rattle.fence_handler.proofs.laws.instruction_makes_fence.Goals as goal

pub returns-clause-fence : goal.returns-clause-fence
returns-clause-fence c = makes_fence

pub returns-clause-vmid : goal.returns-clause-vmid
returns-clause-vmid c = names_vmid_of

pub returns-clause-no_vmid : goal.returns-clause-no_vmid
returns-clause-no_vmid c = names_no_vmid

pub returns-clause-page : goal.returns-clause-page
returns-clause-page c = names_page_of

pub returns-clause-no_page : goal.returns-clause-no_page
returns-clause-no_page c = names_no_page
