-- What is known after a fence that names cached translations of one page alone, of other pages.
use Rattle.std.proofs.Common.{cond, ◌≡◌, ◌≢◌, ℕ, ◌/◌, ◌∙◌, Bool, true, false, List, [], ◌∷◌, Some, get_or, refl, sym, ap}
use Rattle.std.specs.Prelude.{◌==◌, ◌||◌, not, find, filter}
use Rattle.std.specs.List.{list_all}
use Rattle.std.proofs.lemmas.Bool.{and_parts, eqb-true}
use Rattle.arch_defs.specs.declared.first.FirstEntry.{FirstEntry}
use Rattle.arch_defs.specs.declared.first.Tag.{Tag}
use Rattle.arch_defs.specs.declared.modes.Access.{Access}
use Rattle.arch_defs.specs.declared.modes.Access.TheVariants.{Fetch}
use Rattle.arch_defs.specs.declared.roots.SupervisorRoot.{SupervisorRoot}
use Rattle.arch_defs.specs.declared.roots.SupervisorRoot.TheVariants as root
use Rattle.arch_defs.specs.declared.walks.Privilege.{Privilege}
use Rattle.arch_defs.specs.FirstEntries.{is_first_of, known_by, known_under, unnamed_first}
use Rattle.arch_defs.specs.Frames.{Frames}
use Rattle.translation_buffer.specs.declared.frame_sets.FrameSet.{FrameSet}
use Rattle.translation_buffer.specs.Holding.{has_among}
use Rattle.translation_buffer.specs.declared.contexts.Context.{Context}
use Rattle.translation_buffer.specs.declared.pages.Page.{Page}
use Rattle.translation_buffer.specs.declared.slots.Slot.{Slot}
use Rattle.translation_buffer.specs.declared.slots.Slots.{Slots}
use Rattle.translation_buffer.specs.Places.{passed_by, placed_at, second_in, spares, translator}
use Rattle.translation_buffer.specs.Serving.{AllLackPage, AllStand, GivesPlaces, IsOffPage, LacksPage, PageStands}
use Rattle.translation_buffer.specs.Tags.{slots_of}
use Rattle.translation_buffer.proofs.FilledPages.{off_page}

or_nothing : (a : Bool) → (a || not true) ≡ true → a ≡ true
or_nothing true is = refl
or_nothing false is = absurd cc

-- without those that are named another is found as before
kept_by_fence : (named : FirstEntry → Bool) (p : ℕ) (tag : Tag) (atp : SupervisorRoot) (page : ℕ) → page ≢ p → (xs : List FirstEntry) → list_all (spares named p) xs ≡ true
    → find (is_first_of tag atp page) (filter (λ e. not (named e)) xs) ≡ find (is_first_of tag atp page) xs
kept_by_fence named p tag atp page other [] all = refl
kept_by_fence named p tag atp page other (x ∷ xs) all =
    let parts = and_parts (spares named p x) (list_all (spares named p) xs) all in
    by (named x) parts.0 (kept_by_fence named p tag atp page other xs parts.1)
  where
    test : FirstEntry → Bool
    test = is_first_of tag atp page

    left : List FirstEntry
    left = filter (λ e. not (named e)) xs

    off : (x.page == p) ≡ true → test x ≡ false
    off is = off_page tag atp page x (λ same. other (sym same ∙ eqb-true x.page p is))

    by : (b : Bool) → (x.page == p || not b) ≡ true → find test left ≡ find test xs
        → find test (cond (not b) (x ∷ left) left) ≡ cond (test x) (Some x) (find test xs)
    by true spared rest = rw (off (or_nothing (x.page == p) spared)) rest
    by false spared rest = ap (λ o. cond (test x) (Some x) o) rest

-- so an address of another page is passed as before
passed_fenced : (named : FirstEntry → Bool) (p : ℕ) (first : List FirstEntry) (owner : Tag) (who : Privilege) (atp : SupervisorRoot) (va : ℕ) (access : Access)
    → list_all (spares named p) first ≡ true → va / 4096 ≢ p → passed_by (unnamed_first named first) owner who atp va access ≡ passed_by first owner who atp va access
unfolding known_under unnamed_first
passed_fenced named p first owner who root.Bare va access all other = refl
passed_fenced named p first owner who (root.Table mode asid ppn) va access all other =
    ap (known_by who va access) (kept_by_fence named p owner (root.Table mode asid ppn) (va / 4096) other first all)

-- and a slot of another page stands by what is left
slot_fenced : (frames : Frames) (memory : List ℕ) (named : FirstEntry → Bool) (p : ℕ) (first : List FirstEntry) (owner : Tag) (context : Context) (run : ℕ) (kind : Access) (slot : Slot)
    → list_all (spares named p) first ≡ true → LacksPage p slot → GivesPlaces frames memory (translator first owner context) run kind slot
    → GivesPlaces frames memory (translator (unnamed_first named first) owner context) run kind slot
slot_fenced frames memory named p first owner context run kind slot all lacks stands = record {
  place = λ other who va same small tag.
      ap (placed_at (second_in context other) kind) (passed_fenced named p first owner who context.first va kind all (lacks.apart run who va small tag))
      ∙ stands.place other who va same small tag;
}

pub all_fenced_stand : (read : FrameSet) (memory : List ℕ) (named : FirstEntry → Bool) (p : ℕ) (first : List FirstEntry) (owner : Tag) (context : Context) (run : ℕ) (slots : Slots)
    → list_all (spares named p) first ≡ true → AllLackPage p slots → AllStand read memory (translator first owner context) run slots
    → AllStand read memory (translator (unnamed_first named first) owner context) run slots
all_fenced_stand read memory named p first owner context run slots all lack stand kind k d inside =
    let slot = get_or (slots_of slots kind) k d in
    slot_fenced (has_among read slot.bits) memory named p first owner context run kind slot all (lack kind k d inside) (stand kind k d inside)

-- and the page of the last fetch, if it is another
pub page_fenced : (frames : Frames) (memory : List ℕ) (named : FirstEntry → Bool) (p : ℕ) (first : List FirstEntry) (owner : Tag) (context : Context) (who : Privilege) (last : Page)
    → list_all (spares named p) first ≡ true → IsOffPage p last → PageStands frames memory (translator first owner context) who last
    → PageStands frames memory (translator (unnamed_first named first) owner context) who last
page_fenced frames memory named p first owner context who last all off stands = record {
  place = λ other va same small is.
      ap (placed_at (second_in context other) Fetch) (passed_fenced named p first owner who context.first va Fetch all (off va is))
      ∙ stands.place other va same small is;
}
