-- Fences of tables, and how many cached translations each drops (Privileged Architecture 20211203, 4.2.1,
-- 8.3.1 and 8.3.2).
use Rattle.std.specs.Prelude.{ℕ, ◌-◌, List, [], ◌∷◌, Option, Some, None, length}
use Rattle.std.specs.List.{sum_by}
use Rattle.arch_defs.specs.declared.cached.Fence.{Fence}
use Rattle.arch_defs.specs.declared.first.Tag.{Tag}
use Rattle.log_lines.specs.declared.lines.FenceOp.TheVariants.{SfenceVma, HfenceVvma, HfenceGvma}
use Rattle.log_lines.specs.declared.lines.FenceOp.{FenceOp}
use Rattle.log_lines.specs.declared.lines.FenceLine.{FenceLine}
use Rattle.log_lines.specs.declared.lines.Line.{Line}
use Rattle.log_lines.specs.declared.lines.Line.TheVariants as line
use Rattle.machine_defs.specs.Machine.{Machine}
use Rattle.machine_defs.specs.Outcomes.{Fenced, FirstFenced, Outcome}
use Rattle.machine_defs.specs.Tries.{stages_of, with_found}
use Rattle.run_log.specs.Seen.{Seen, head_of, step_outcome}

-- how many translations of each stage a machine has cached
abbrev pub first_count : Machine → ℕ
first_count m = length m.platform.virt.first

abbrev pub second_count : Machine → ℕ
second_count m = sum_by (λ space. length space.entries) m.spaces

-- a fence: what it names, an ASID for SFENCE.VMA and HFENCE.VVMA; and how many it dropped. What its own fetch
-- found is cached before it drops
abbrev pub fence_line : Seen → FenceOp → Fence → FenceLine
fence_line s kind named =
    let held = with_found (stages_of s.tried) s.tried in
    record {
      head = head_of s;
      fence = kind;
      id = named.vmid;
      page = named.page;
      first = first_count held - first_count s.after;
      second = second_count held - second_count s.after;
    }

-- SFENCE.VMA is for the accesses of the machine's own state, HFENCE.VVMA for others
abbrev pub kind_for : Option Tag → FenceOp
kind_for None = SfenceVma
kind_for (Some tag) = HfenceVvma

abbrev pub fence_lines_by : Seen → Option Outcome → List Line
fence_lines_by s (Some (Fenced virt named)) = line.Fence (fence_line s HfenceGvma named) ∷ []
fence_lines_by s (Some (FirstFenced virt tag named)) = line.Fence (fence_line s (kind_for tag) named) ∷ []
fence_lines_by s _ = []

unfoldable pub fence_lines : Seen → List Line
fence_lines s = fence_lines_by s (step_outcome s.tried)
