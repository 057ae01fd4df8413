use Rattle.world_switch.proofs.Undone.{is_virtual_on_hart, load_after_save, save_after_load, saves_back, saves_own}
use Rattle.world_switch.proofs.laws.load_and_save.Goals as goal

pub returns-clause-virtual_mode : goal.returns-clause-virtual_mode
returns-clause-virtual_mode c = is_virtual_on_hart

pub returns-clause-save_after_load : goal.returns-clause-save_after_load
returns-clause-save_after_load c = save_after_load

pub returns-clause-load_after_save : goal.returns-clause-load_after_save
returns-clause-load_after_save c = load_after_save

pub returns-clause-saves_own : goal.returns-clause-saves_own
returns-clause-saves_own c = saves_own

pub returns-clause-saves_back : goal.returns-clause-saves_back
returns-clause-saves_back c = saves_back
