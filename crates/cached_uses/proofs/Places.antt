-- Places under the entries of the front space lie in memory.
use Rattle.std.proofs.Common.{arith, ◌≡◌, refl, sym, subst, ◌∙◌, ℕ, suc, ◌+◌, ◌*◌, ◌%◌, ◌^◌, ◌<◌, ◌≤◌, ◌⊎◌, inl, inr, ◌==◌, Bool, true, false, cond, List, [], ◌∷◌, Some, find, length, eq-eqb}
use Rattle.std.proofs.lemmas.Bool.{true≢false}
use Rattle.std.proofs.lemmas.Option.{none-some, same_Some}
use Rattle.std.specs.List.{All}
use Rattle.arch_defs.specs.declared.cached.Entry.{Entry}
use Rattle.arch_defs.specs.CachedEntries.{entry_at, is_device}
use Rattle.arch_defs.specs.Devices.{device_frame}
use Rattle.arch_defs.specs.Memory.{Memory}
use Rattle.two_stage_walk.specs.Places.{IsPlaceOf}
use Rattle.cached_uses.specs.Serving.{LeadsInto}

-- what a search finds is one of the list
found_in : (P : Entry → Type 0) (test : Entry → Bool) (entries : List Entry) (e : Entry) → All P entries → find test entries ≡ Some e → P e
found_in P test [] e all is = absurd (none-some e is)
found_in P test (x ∷ xs) e all is = by (test x) is (λ later. found_in P test xs e (λ i d inside. all (suc i) d (omega (arith, inside))) later)
  where
    by : (right : Bool) → cond right (Some x) (find test xs) ≡ Some e → (find test xs ≡ Some e → P e) → P e
    by true is below = subst P (same_Some x e is) (all 0 x (omega arith))
    by false is below = below is

leads : (memory : Memory) (entries : List Entry) (page : ℕ) (e : Entry) → All (LeadsInto memory) entries → entry_at page entries ≡ Some e → LeadsInto memory e
leads memory entries page e all is = found_in (LeadsInto memory) (λ one. one.page == page) entries e all is

pub place_fits : (memory : Memory) (entries : List Entry) (page : ℕ) (e : Entry) (address : ℕ) → All (LeadsInto memory) entries
    → Some e ≡ entry_at page entries → 4096 * e.frame + address % 4096 < 2 ^ 64
place_fits memory entries page e address all is =
    let small = (leads memory entries page e all (sym is)).small in omega (arith, small)

pub place_lies : (memory : Memory) (entries : List Entry) (page : ℕ) (e : Entry) (address : ℕ) → All (LeadsInto memory) entries
    → Some e ≡ entry_at page entries → is_device e ≡ false
    → IsPlaceOf memory (4096 * e.frame + address % 4096) (4096 * e.frame + address % 4096)
place_lies memory entries page e address all is not_device = by (leads memory entries page e all (sym is)).frame
  where
    by : ((memory.base ≤ e.frame * 4096) × (e.frame * 4096 + 4096 ≤ memory.base + length memory.bytes)) ⊎ (e.frame ≡ device_frame)
        → IsPlaceOf memory (4096 * e.frame + address % 4096) (4096 * e.frame + address % 4096)
    by (inl (from, to)) = record { from = omega (arith, from, to); to = omega (arith, from, to); offset = refl }
    by (inr device) = absurd (true≢false (sym (eq-eqb e.frame device_frame device) ∙ not_device))
