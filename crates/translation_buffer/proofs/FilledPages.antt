-- What is known after a fill, of other pages than that of the new translation and that of the dropped one.
use Rattle.std.proofs.Common.{cond, ◌≡◌, ◌≢◌, ℕ, ◌-◌, ◌/◌, ◌^◌, ◌<◌, ◌∙◌, Bool, true, false, List, [], ◌∷◌, ◌++◌, length, get_or, Option, Some, None, refl, sym, ap}
use Rattle.std.specs.Prelude.{◌==◌, ◌&&◌, not, find, take, drop, IfSome}
use Rattle.std.specs.List.{All}
use Rattle.std.proofs.lemmas.Bool.{and_parts, eqb-true, ne_eqb}
use Rattle.std.proofs.lemmas.List.{take-append-drop}
use Rattle.std.proofs.lemmas.List.Elements.{All-head, All-tail}
use Rattle.arch_defs.specs.declared.first.FirstEntry.{FirstEntry}
use Rattle.arch_defs.specs.declared.first.Tag.{Tag}
use Rattle.arch_defs.specs.declared.first.Tag.TheVariants.{Flat, Nested}
use Rattle.arch_defs.specs.declared.modes.Access.{Access}
use Rattle.arch_defs.specs.declared.modes.Access.TheVariants.{Fetch}
use Rattle.arch_defs.specs.declared.roots.SupervisorRoot.{SupervisorRoot}
use Rattle.arch_defs.specs.declared.roots.SupervisorRoot.TheVariants as root
use Rattle.arch_defs.specs.declared.walks.Privilege.{Privilege}
use Rattle.arch_defs.specs.FirstEntries.{dropped_first, first_filled, first_room, is_first_of, is_tag, known_by, known_under, without_first}
use Rattle.arch_defs.specs.Frames.{Frames}
use Rattle.arch_defs.specs.Roots.{is_atp}
use Rattle.arch_defs.proofs.SameRoots.{atp_same, root_same}
use Rattle.translation_buffer.specs.declared.frame_sets.FrameSet.{FrameSet}
use Rattle.translation_buffer.specs.Holding.{has_among}
use Rattle.translation_buffer.specs.declared.contexts.Context.{Context}
use Rattle.translation_buffer.specs.declared.pages.Page.{Page}
use Rattle.translation_buffer.specs.declared.slots.Slot.{Slot}
use Rattle.translation_buffer.specs.declared.slots.Slots.{Slots}
use Rattle.translation_buffer.specs.Laws.{FillKeeps}
use Rattle.translation_buffer.specs.Places.{passed_by, placed_at, second_in, translator}
use Rattle.translation_buffer.specs.Serving.{AllLackPage, AllLackPages, AllStand, GivesPlaces, IsOffPage, IsOffPages, LacksPage, PageStands}
use Rattle.translation_buffer.specs.Tags.{page_tag, slots_of, start_of}

-- an entry of the same page as another is for the same accesses
same_tag : (a b : Tag) → is_tag a b ≡ true → a ≡ b
same_tag Flat Flat is = refl
same_tag Flat (Nested hgatp) is = absurd cc
same_tag (Nested hgatp) Flat is = absurd cc
same_tag (Nested hgatp) (Nested other) is = ap Nested (root_same hgatp other is)

same_key : (e x : FirstEntry) → is_first_of e.tag e.atp e.page x ≡ true → (x.tag ≡ e.tag) × (x.atp ≡ e.atp) × (x.page ≡ e.page)
same_key e x is = let parts = and_parts (is_tag x.tag e.tag) (is_atp x.atp e.atp && x.page == e.page) is in
    let rest = and_parts (is_atp x.atp e.atp) (x.page == e.page) parts.1 in
    (same_tag x.tag e.tag parts.0, atp_same x.atp e.atp rest.0, eqb-true x.page e.page rest.1)

other_key : (e x : FirstEntry) (tag : Tag) (atp : SupervisorRoot) (page : ℕ) → is_first_of e.tag e.atp e.page x ≡ true → is_first_of tag atp page e ≡ false
    → is_first_of tag atp page x ≡ false
other_key e x tag atp page is off = let same = same_key e x is in rw (same.0, same.1, same.2) off

-- so without it another is found as before
kept_by_filter : (e : FirstEntry) (tag : Tag) (atp : SupervisorRoot) (page : ℕ) → is_first_of tag atp page e ≡ false → (xs : List FirstEntry)
    → find (is_first_of tag atp page) (without_first e xs) ≡ find (is_first_of tag atp page) xs
kept_by_filter e tag atp page off [] = refl
kept_by_filter e tag atp page off (x ∷ xs) = by (is_first_of e.tag e.atp e.page x) refl (kept_by_filter e tag atp page off xs)
  where
    test : FirstEntry → Bool
    test = is_first_of tag atp page

    by : (b : Bool) → is_first_of e.tag e.atp e.page x ≡ b → find test (without_first e xs) ≡ find test xs
        → find test (cond (not b) (x ∷ without_first e xs) (without_first e xs)) ≡ cond (test x) (Some x) (find test xs)
    by true is rest = rw (other_key e x tag atp page is off) rest
    by false is rest = ap (λ o. cond (test x) (Some x) o) rest

none_among : (test : FirstEntry → Bool) (xs ys : List FirstEntry) → All (λ x. test x ≡ false) xs → find test (xs ++ ys) ≡ find test ys
none_among test [] ys all = refl
none_among test (x ∷ xs) ys all = rw (All-head (λ x. test x ≡ false) x xs all) (none_among test xs ys (All-tail (λ x. test x ≡ false) x xs all))

last_off : (test : FirstEntry → Bool) (xs : List FirstEntry) (e : FirstEntry) → test e ≡ false → find test (xs ++ e ∷ []) ≡ find test xs
last_off test [] e off = rw off refl
last_off test (x ∷ xs) e off = ap (λ o. cond (test x) (Some x) o) (last_off test xs e off)

pub fill_keeps : FillKeeps
unfolding first_filled
fill_keeps first e tag atp page off dropped = let filled = without_first e first ++ e ∷ [] in
    let test = is_first_of tag atp page in
    let n = length filled - first_room in
    sym (none_among test (take n filled) (drop n filled) dropped) ∙ ap (find test) (take-append-drop n filled)
    ∙ last_off test (without_first e first) e off ∙ kept_by_filter e tag atp page off first

-- entries of other pages
no_page : (a b c : Bool) → c ≡ false → (a && (b && c)) ≡ false
no_page true true c none = none
no_page true false c none = refl
no_page false b c none = refl

pub off_page : (owner : Tag) (atp : SupervisorRoot) (page : ℕ) (e : FirstEntry) → e.page ≢ page → is_first_of owner atp page e ≡ false
off_page owner atp page e other = no_page (is_tag e.tag owner) (is_atp e.atp atp) (e.page == page) (ne_eqb e.page page other)

off_dropped : (dropped : Option ℕ) (page own : ℕ) → dropped ≡ Some page → IfSome dropped (λ p. own ≢ p) → page ≢ own
off_dropped None page own is off same = absurd cc
off_dropped (Some other) page own is off same =
    let one : other ≡ page = cc in
    off (sym (one ∙ same))

-- so an address of another page is passed as before
pub passed_filled : (first : List FirstEntry) (e : FirstEntry) (dropped : Option ℕ) (owner : Tag) (who : Privilege) (atp : SupervisorRoot) (va : ℕ) (access : Access)
    → All (λ (x : FirstEntry). dropped ≡ Some x.page) (dropped_first first e) → va / 4096 ≢ e.page → IfSome dropped (λ p. va / 4096 ≢ p)
    → passed_by (first_filled first e) owner who atp va access ≡ passed_by first owner who atp va access
unfolding known_under
passed_filled first e dropped owner who root.Bare va access all other off = refl
passed_filled first e dropped owner who (root.Table mode asid ppn) va access all other off =
    ap (known_by who va access) (fill_keeps first e owner (root.Table mode asid ppn) (va / 4096)
    (off_page owner (root.Table mode asid ppn) (va / 4096) e (λ same. other (sym same)))
    (λ k d inside. off_page owner (root.Table mode asid ppn) (va / 4096) (get_or (dropped_first first e) k d) (off_dropped dropped _ (va / 4096) (all k d inside) off)))

-- and a slot of another page stands by what was filled
pub slot_filled : (frames : Frames) (memory : List ℕ) (first : List FirstEntry) (e : FirstEntry) (dropped : Option ℕ) (owner : Tag) (context : Context) (run : ℕ) (kind : Access) (slot : Slot)
    → All (λ (x : FirstEntry). dropped ≡ Some x.page) (dropped_first first e) → LacksPage e.page slot → IfSome dropped (λ p. LacksPage p slot) → GivesPlaces frames memory (translator first owner context) run kind slot
    → GivesPlaces frames memory (translator (first_filled first e) owner context) run kind slot
slot_filled frames memory first e dropped owner context run kind slot all lacks lacks_other stands = record {
  place = λ other who va same small tag.
      ap (placed_at (second_in context other) kind) (passed_filled first e dropped owner who context.first va kind all (lacks.apart run who va small tag) (off dropped run who va small tag lacks_other))
      ∙ stands.place other who va same small tag;
}
  where
    off : (dropped : Option ℕ) (run : ℕ) (who : Privilege) (va : ℕ) → va < 2 ^ 64 → slot.tag ≡ page_tag run who va → IfSome dropped (λ p. LacksPage p slot) → IfSome dropped (λ p. va / 4096 ≢ p)
    off None run who va small tag lacks = tt
    off (Some page) run who va small tag lacks = lacks.apart run who va small tag

pub all_filled_stand : (read : FrameSet) (memory : List ℕ) (first : List FirstEntry) (e : FirstEntry) (dropped : Option ℕ) (owner : Tag) (context : Context) (run : ℕ) (slots : Slots)
    → All (λ (x : FirstEntry). dropped ≡ Some x.page) (dropped_first first e) → AllLackPages e.page dropped slots → AllStand read memory (translator first owner context) run slots
    → AllStand read memory (translator (first_filled first e) owner context) run slots
all_filled_stand read memory first e dropped owner context run slots all lack stand kind k d inside =
    let slot = get_or (slots_of slots kind) k d in
    slot_filled (has_among read slot.bits) memory first e dropped owner context run kind slot all (lack.0 kind k d inside) (off dropped lack.1) (stand kind k d inside)
  where
    off : (dropped : Option ℕ) → IfSome dropped (λ p. AllLackPage p slots) → IfSome dropped (λ p. LacksPage p (get_or (slots_of slots kind) k d))
    off None lack = tt
    off (Some page) lack = lack kind k d inside

-- and the page of the last fetch, if it is another
pub page_filled : (frames : Frames) (memory : List ℕ) (first : List FirstEntry) (e : FirstEntry) (dropped : Option ℕ) (owner : Tag) (context : Context) (who : Privilege) (last : Page)
    → All (λ (x : FirstEntry). dropped ≡ Some x.page) (dropped_first first e) → IsOffPages e.page dropped last → PageStands frames memory (translator first owner context) who last
    → PageStands frames memory (translator (first_filled first e) owner context) who last
page_filled frames memory first e dropped owner context who last all off stands = record {
  place = λ other va same small is.
      ap (placed_at (second_in context other) Fetch) (passed_filled first e dropped owner who context.first va Fetch all (off.0 va is) (others dropped off.1 va is))
      ∙ stands.place other va same small is;
}
  where
    others : (dropped : Option ℕ) → IfSome dropped (λ p. IsOffPage p last) → (va : ℕ) → start_of va ≡ last.start → IfSome dropped (λ p. va / 4096 ≢ p)
    others None off va is = tt
    others (Some page) off va is = off va is
