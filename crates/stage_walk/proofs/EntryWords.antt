-- The word of an entry, and what an entry says to a walk.
use Rattle.std.proofs.Common.{◌≡◌, ◌≢◌, ℕ, ◌+◌, ◌*◌, ◌^◌, ◌<◌, Bool, true, false, not, ◌&&◌, ◌||◌, ◌==◌, if◌then◌else◌, refl, arith}
use Rattle.arch_defs.specs.declared.modes.Access.{Access}
use Rattle.arch_defs.specs.declared.modes.Access.TheVariants.{Fetch, Load, Store, ExecLoad, Implicit}
use Rattle.arch_defs.specs.declared.walks.Pte.{Pte}
use Rattle.arch_defs.specs.declared.walks.WalkEnd.{WalkEnd}
use Rattle.arch_defs.specs.declared.walks.WalkEnd.TheVariants.{Leaf, PageFault}
use Rattle.arch_defs.specs.declared.walks.Next.TheVariants.{Ends, Below}
use Rattle.arch_defs.specs.Bits.{bit_number, field}
use Rattle.arch_defs.specs.TableEntries.{pte_of, pte_word, pointer_to, leaf_to, entry_next, is_aligned, needs_dirty}
use Rattle.stage_walk.specs.Ends.{PteFits}

-- a flag as a number, and its place
abbrev digit : Bool → ℕ
digit b = bit_number 0 b

at_place : (i : ℕ) (b : Bool) → bit_number i b ≡ digit b * 2 ^ i
at_place i true = omega arith
at_place i false = omega arith

digit_small : (b : Bool) → digit b < 2
digit_small true = omega arith
digit_small false = omega arith

is_digit : (n : ℕ) (b : Bool) → n ≡ digit b → (n == 1) ≡ b
is_digit n true is = rw is refl
is_digit n false is = rw is refl

-- the bits of seven digits with two numbers above them
abbrev flags : (v r w x u a d : ℕ) → ℕ
flags v r w x u a d = v + r * 2 + w * 4 + x * 8 + u * 16 + a * 64 + d * 128

abbrev IsRead : (word v r w x u a d : ℕ) → Type 0
IsRead word v r w x u a d =
    (field 0 1 word ≡ v) × (field 1 1 word ≡ r) × (field 2 1 word ≡ w) × (field 3 1 word ≡ x)
    × (field 4 1 word ≡ u) × (field 6 1 word ≡ a) × (field 7 1 word ≡ d)

reads : (v r w x u a d above : ℕ) → v < 2 → r < 2 → w < 2 → x < 2 → u < 2 → a < 2 → d < 2
    → IsRead (flags v r w x u a d + above * 1024) v r w x u a d
reads v r w x u a d above hv hr hw hx hu ha hd =
    (omega arith, omega arith, omega arith, omega arith, omega arith, omega arith, omega arith)

flags_small : (v r w x u a d : ℕ) → v < 2 → r < 2 → w < 2 → x < 2 → u < 2 → a < 2 → d < 2 → flags v r w x u a d < 1024
flags_small v r w x u a d hv hr hw hx hu ha hd = omega arith

frame_above : (low frame reserved : ℕ) → low < 1024 → frame < 2 ^ 44
    → field 10 44 (low + (frame + reserved * 2 ^ 44) * 1024) ≡ frame
frame_above low frame reserved l f = omega arith

reserved_above : (low frame reserved : ℕ) → low < 1024 → frame < 2 ^ 44 → reserved < 2 ^ 10
    → field 54 10 (low + (frame + reserved * 2 ^ 44) * 1024) ≡ reserved
reserved_above low frame reserved l f r = omega arith

above_small : (low frame reserved : ℕ) → low < 1024 → frame < 2 ^ 44 → reserved < 2 ^ 10
    → low + (frame + reserved * 2 ^ 44) * 1024 < 2 ^ 64
above_small low frame reserved l f r = omega arith

-- an entry's word is the sum of its flags, each in its place, and of the two numbers above them
flag_number : (i : ℕ) (b : Bool) → (if b then 2 ^ i else 0) ≡ bit_number i b
flag_number i true = refl
flag_number i false = refl

pub word_of_flags : (e : Pte)
    → (if e.v then 1 else 0) + (if e.r then 2 else 0) + (if e.w then 4 else 0) + (if e.x then 8 else 0)
    + (if e.u then 16 else 0) + (if e.a then 64 else 0) + (if e.d then 128 else 0)
    + e.frame * 2 ^ 10 + e.reserved * 2 ^ 54 ≡ pte_word e
unfolding pte_word
word_of_flags e = rw (
  flag_number 0 e.v,
  flag_number 1 e.r,
  flag_number 2 e.w,
  flag_number 3 e.x,
  flag_number 4 e.u,
  flag_number 6 e.a,
  flag_number 7 e.d,
) refl

-- and it is digits with two numbers above them
abbrev low : Pte → ℕ
low e = flags (digit e.v) (digit e.r) (digit e.w) (digit e.x) (digit e.u) (digit e.a) (digit e.d)

low_small : (e : Pte) → low e < 1024
low_small e =
    flags_small (digit e.v) (digit e.r) (digit e.w) (digit e.x) (digit e.u) (digit e.a) (digit e.d)
    (digit_small e.v) (digit_small e.r) (digit_small e.w) (digit_small e.x) (digit_small e.u) (digit_small e.a) (digit_small e.d)

word_is : (e : Pte) → pte_word e ≡ low e + (e.frame + e.reserved * 2 ^ 44) * 1024
unfolding pte_word
word_is e =
    omega (arith, at_place 1 e.r, at_place 2 e.w, at_place 3 e.x, at_place 4 e.u, at_place 6 e.a, at_place 7 e.d)

pub word_small : (e : Pte) → PteFits e → pte_word e < 2 ^ 64
word_small e fits = rw (word_is e) (above_small (low e) e.frame e.reserved (low_small e) fits.frame fits.reserved)

-- and reads back
pub reads_back : (e : Pte) → PteFits e → pte_of (pte_word e) ≡ e
unfolding pte_of
reads_back e fits =
    let n = e.frame + e.reserved * 2 ^ 44 in
    let (v, r, w, x, u, a, d) = reads (digit e.v) (digit e.r) (digit e.w) (digit e.x) (digit e.u) (digit e.a) (digit e.d) n
    (digit_small e.v) (digit_small e.r) (digit_small e.w) (digit_small e.x) (digit_small e.u) (digit_small e.a) (digit_small e.d) in
    rw (
      word_is e,
      is_digit _ e.v v,
      is_digit _ e.r r,
      is_digit _ e.w w,
      is_digit _ e.x x,
      is_digit _ e.u u,
      is_digit _ e.a a,
      is_digit _ e.d d,
      frame_above (low e) e.frame e.reserved (low_small e) fits.frame,
      reserved_above (low e) e.frame e.reserved (low_small e) fits.frame fits.reserved,
    ) refl

-- with V it is not 0
pub some_with_v : (e : Pte) → e.v ≡ true → pte_word e ≢ 0
some_with_v e v none =
    let set : digit e.v ≡ 1 = rw v refl in
    omega (arith, none, word_is e, set)

-- the word 0 maps nothing
pub zero_maps_nothing : (level : ℕ) (access : Access) → entry_next level access (pte_of 0) ≡ Ends PageFault
unfolding entry_next pte_of
zero_maps_nothing level access = refl

-- a pointer above the last level
pointer_leads : (level frame : ℕ) (access : Access) → entry_next (level + 1) access (pointer_to frame) ≡ Below frame
unfolding entry_next
pointer_leads level frame access = rw positive refl
  where
    positive : (level + 1 == 0) ≡ false
    positive = grind arith

pub pointer_leads_below : (level frame : ℕ) (access : Access) → frame < 2 ^ 44
    → entry_next (level + 1) access (pte_of (pte_word (pointer_to frame))) ≡ Below frame
pointer_leads_below level frame access small =
    rw (reads_back (pointer_to frame) (record { frame = small; reserved = omega arith })) (pointer_leads level frame access)

-- a leaf: a store needs D
abbrev given : ℕ → ℕ → Bool → Bool → Bool → Access → WalkEnd
given level frame r w x access =
    if needs_dirty access && not w then PageFault
    else Leaf frame level r w x true

leaf_gives : (level frame : ℕ) (r w x : Bool) (access : Access) → is_aligned level frame ≡ true → (r || x) ≡ true → (w ≡ true → r ≡ true)
    → entry_next level access (leaf_to frame r w x) ≡ Ends (given level frame r w x access)
unfolding entry_next
leaf_gives level frame true true x Fetch aligned right write = rw aligned refl
leaf_gives level frame true true x Load aligned right write = rw aligned refl
leaf_gives level frame true true x Store aligned right write = rw aligned refl
leaf_gives level frame true true x ExecLoad aligned right write = rw aligned refl
leaf_gives level frame true true x Implicit aligned right write = rw aligned refl
leaf_gives level frame true false x Fetch aligned right write = rw aligned refl
leaf_gives level frame true false x Load aligned right write = rw aligned refl
leaf_gives level frame true false x Store aligned right write = rw aligned refl
leaf_gives level frame true false x ExecLoad aligned right write = rw aligned refl
leaf_gives level frame true false x Implicit aligned right write = rw aligned refl
leaf_gives level frame false true x access aligned right write = let no_read : false ≡ true = write refl in absurd cc
leaf_gives level frame false false true Fetch aligned right write = rw aligned refl
leaf_gives level frame false false true Load aligned right write = rw aligned refl
leaf_gives level frame false false true Store aligned right write = rw aligned refl
leaf_gives level frame false false true ExecLoad aligned right write = rw aligned refl
leaf_gives level frame false false true Implicit aligned right write = rw aligned refl
leaf_gives level frame false false false access aligned right write = absurd cc

pub leaf_gives_rights : (level frame : ℕ) (r w x : Bool) (access : Access) → frame < 2 ^ 44 → is_aligned level frame ≡ true → (r || x) ≡ true → (w ≡ true → r ≡ true)
    → entry_next level access (pte_of (pte_word (leaf_to frame r w x))) ≡ Ends (given level frame r w x access)
leaf_gives_rights level frame r w x access small aligned right write =
    rw (reads_back (leaf_to frame r w x) (record { frame = small; reserved = omega arith })) (leaf_gives level frame r w x access aligned right write)
