use Rattle.std.specs.Prelude.{ℕ, ◌≢◌, ◌<◌, slice_index_or}
use Rattle.arch_defs.specs.declared.cached.Entry.{Entry}
use Rattle.shadow_space.proofs.listing.EntryList.place_of.Given as goal

abbrev pub invariant-loop-i : goal.invariant-loop-i
invariant-loop-i l = (k : ℕ) (d : Entry) → k < l.i → (slice_index_or l.entries k d).page ≢ l.page
