-- The slots of a buffer of first-stage translations, and what its calls drop.
use Rattle.std.specs.Prelude.{ℕ, ◌≡◌, ◌-◌, Bool, false, List, drop, replicate}
use Rattle.arch_defs.specs.declared.first.FirstEntry.{FirstEntry}
use Rattle.arch_defs.specs.declared.first.Tag.TheVariants.{Flat}
use Rattle.arch_defs.specs.declared.first_buffers.Naming.{Naming}
use Rattle.arch_defs.specs.declared.first_buffers.Naming.TheVariants.{Page, FirstFence, GuestFence}
use Rattle.arch_defs.specs.declared.roots.SupervisorRoot.TheVariants.{Bare}
use Rattle.arch_defs.specs.FirstEntries.{first_room, is_first_of, names_first, names_first_of_guest}

-- what stands in a slot without a translation
abbrev pub no_entry : FirstEntry
no_entry = record {
  tag = Flat;
  atp = Bare;
  page = 0;
  frame = 0;
  r = false;
  w = false;
  x = false;
  u = false;
  level = 0;
}

-- the slots from this one on have no translation
abbrev pub IsEmptyFrom : ℕ → List FirstEntry → Type 0
IsEmptyFrom count slots = drop count slots ≡ replicate (first_room - count) no_entry

-- whether an entry is named: by another of the same page, by a fence of the first stage, or by HFENCE.GVMA
abbrev pub is_named_by : Naming → FirstEntry → Bool
is_named_by (Page other) e = is_first_of other.tag other.atp other.page e
is_named_by (FirstFence tag fence) e = names_first tag fence e
is_named_by (GuestFence fence) e = names_first_of_guest fence e
