-- What a page-table entry says (Privileged Architecture 20211203, 4.3.1, 4.3.2 and 4.4.1).
use Rattle.std.specs.Prelude.{ℕ, ◌+◌, ◌*◌, ◌%◌, ◌^◌, Bool, true, false, not, ◌&&◌, ◌||◌, ◌==◌, if◌then◌else◌}
use Rattle.arch_defs.specs.declared.modes.Access.{Access}
use Rattle.arch_defs.specs.declared.modes.Access.TheVariants.{Fetch, Load, Store, ExecLoad, Implicit}
use Rattle.arch_defs.specs.declared.walks.Pte.{Pte}
use Rattle.arch_defs.specs.declared.walks.LeafPte.{LeafPte}
use Rattle.arch_defs.specs.declared.walks.WalkEnd.{WalkEnd}
use Rattle.arch_defs.specs.declared.walks.WalkEnd.TheVariants.{Leaf, PageFault}
use Rattle.arch_defs.specs.declared.walks.Next.{Next}
use Rattle.arch_defs.specs.declared.walks.Next.TheVariants.{Ends, Below}
use Rattle.arch_defs.specs.Bits.{bit, bit_number, field}

-- an entry's word in named parts: V 0, R 1, W 2, X 3, U 4, A 6, D 7, the physical page number 53:10, reserved
-- 63:54 (4.4.1)
unfoldable pub pte_of : ℕ → Pte
pte_of word = record {
  v = bit 0 word;
  r = bit 1 word;
  w = bit 2 word;
  x = bit 3 word;
  u = bit 4 word;
  a = bit 6 word;
  d = bit 7 word;
  reserved = field 54 10 word;
  frame = field 10 44 word;
}

-- the word of an entry in these parts, with G 5 and RSW 9:8 clear (own)
unfoldable pub pte_word : Pte → ℕ
pte_word e =
    bit_number 0 e.v + bit_number 1 e.r + bit_number 2 e.w + bit_number 3 e.x + bit_number 4 e.u
    + bit_number 6 e.a + bit_number 7 e.d + e.frame * 2 ^ 10 + e.reserved * 2 ^ 54

-- a pointer to the table of a frame has V alone (4.3.1)
abbrev pub pointer_to : ℕ → Pte
pointer_to frame = record {
  v = true;
  r = false;
  w = false;
  x = false;
  u = false;
  a = false;
  d = false;
  reserved = 0;
  frame = frame;
}

-- a leaf of user pages with these rights: V, U and A are set, and D as W, so that the walker finds all that
-- it needs (own)
abbrev pub leaf_to : ℕ → Bool → Bool → Bool → Pte
leaf_to frame r w x = record {
  v = true;
  r = r;
  w = w;
  x = x;
  u = true;
  a = true;
  d = w;
  reserved = 0;
  frame = frame;
}

-- what each entry needs, whatever it is: V, no W without R, no reserved bit (4.3.2, step 3)
abbrev pub is_valid : Pte → Bool
is_valid e = e.v && not (e.w && not e.r) && e.reserved == 0

-- a valid entry is a leaf if it can be read or executed, else a pointer to the next level (4.3.2, step 4)
abbrev pub is_leaf : Pte → Bool
is_leaf e = e.r || e.x

-- the pages that a leaf of this level maps
abbrev pub span : ℕ → ℕ
span level = 2 ^ (9 * level)

-- a superpage's frame is a multiple of its span (4.3.2, step 6)
abbrev pub is_aligned : ℕ → ℕ → Bool
is_aligned level frame = frame % span level == 0

-- whether an access needs D (4.3.2, step 7)
abbrev pub needs_dirty : Access → Bool
needs_dirty Fetch = false
needs_dirty Load = false
needs_dirty Store = true
needs_dirty ExecLoad = false
needs_dirty Implicit = false

-- A, and D for a store: the walker never writes (own), so software sets them (4.3.2, step 7)
abbrev pub is_marked : Access → Pte → Bool
is_marked access e = e.a && (not (needs_dirty access) || e.d)

-- what a leaf maps to and permits; a write needs D as well as W
abbrev pub leaf_pte : ℕ → Pte → LeafPte
leaf_pte level e = record { frame = e.frame; level = level; r = e.r; w = e.w && e.d; x = e.x; u = e.u }

-- a walk's end at a leaf, and the leaf of these parts
abbrev pub end_at_leaf : LeafPte → WalkEnd
end_at_leaf leaf = Leaf leaf.frame leaf.level leaf.r leaf.w leaf.x leaf.u

abbrev pub leaf_with : ℕ → ℕ → Bool → Bool → Bool → Bool → LeafPte
leaf_with frame level r w x u = record { frame = frame; level = level; r = r; w = w; x = x; u = u }

-- a leaf ends the walk (4.3.2, steps 6 to 8)
abbrev pub leaf_next : ℕ → Access → Pte → Next
leaf_next level access e =
    if is_aligned level e.frame && is_marked access e then Ends (end_at_leaf (leaf_pte level e))
    else Ends PageFault

-- A, D and U are reserved in a pointer (4.3.1), and there is no level below the last (4.3.2, step 4)
abbrev pub pointer_next : ℕ → Pte → Next
pointer_next level e = if e.a || e.d || e.u || level == 0 then Ends PageFault else Below e.frame

-- what an entry that is met at a level says to the walk (4.3.2, steps 3 to 8)
unfoldable pub entry_next : ℕ → Access → Pte → Next
entry_next level access e =
    if is_valid e then (if is_leaf e then leaf_next level access e else pointer_next level e)
    else Ends PageFault
