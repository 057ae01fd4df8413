-- Each op that the instruction table has fits its format and names registers x0 to x31, group by group.
use Rattle.std.proofs.Common.{◌≡◌, ℕ, ◌+◌, ◌-◌, ◌*◌, ◌/◌, ◌%◌, ◌^◌, ◌<◌, Some, None, Option, option_map, Bool, true, false, refl, sym, subst, ◌∙◌, arith, if◌then◌else◌}
use Rattle.std.specs.Prelude.{nat_lt, nat_le, ◌&&◌, ◌||◌, ◌==◌}
use Rattle.std.proofs.lemmas.Bool.{and_from, true≢false, eqb-true, eqb-false, eq-eqb, lt-ltb}
use Rattle.std.proofs.lemmas.Bool.Decides.{nat_tests}
use Rattle.std.proofs.lemmas.Option.{same_Some}
use Rattle.arch_defs.specs.Bits.{field, sign_extend}
use Rattle.arch_defs.specs.declared.widths.Width.{Width}
use Rattle.arch_defs.specs.declared.widths.Width.TheVariants as width
use Rattle.op_defs.specs.declared.ops.AluOp.{AluOp}
use Rattle.op_defs.specs.declared.ops.AluOp.TheVariants as alu
use Rattle.op_defs.specs.declared.ops.WordOp.{WordOp}
use Rattle.op_defs.specs.declared.ops.WordOp.TheVariants as word_op
use Rattle.op_defs.specs.declared.ops.Op.{Op}
use Rattle.op_defs.specs.declared.ops.Op.TheVariants as op
use Rattle.op_defs.specs.Fields.{opcode, rd, rs1, rs2, funct3, funct7, i_immediate, s_immediate, b_immediate, u_immediate, j_immediate}
use Rattle.op_defs.specs.Table.{op_of, branch_of, test_of, load_of, store_of, width_of, immediate_arithmetic_of, immediate_op_of, shift_of, register_arithmetic_of, alu_op_of, word_immediate_arithmetic_of, word_shift_of, word_op_of, fence_of, atomic_of, atomic_by, amo_op_of, system_of, system_op_of, fence_op_of, guest_access_of, guest_load_of, guest_load_by, guest_store_of, csr_of, csr_op_of}
use Rattle.op_defs.specs.Table as table
use Rattle.rv64_asm.specs.Fitting.{fits, in_range, in_steps, has_load, has_guest_fetch, is_atomic_width, alu_immediate_fits, word_immediate_fits, source_fits}
use Rattle.rv64_asm.specs.Laws.{all_named, is_register, source_named}

-- an op whose fields fit, and whose registers are x0 to x31
pub record IsCoded (o : Op) : Type 0 where
  pub named : all_named o ≡ true
  pub fits : fits o ≡ true

-- what is found, if anything is, has a property
pub record Each {A : Type 0} (P : A → Type 0) (found : Option A) : Type 0 where
  pub each : (x : A) → found ≡ Some x → P x

pub none : {A : Type 0} (P : A → Type 0) → Each P None
none P = record { each = λ x e. cc }

pub some : {A : Type 0} (P : A → Type 0) (x : A) → P x → Each P (Some x)
some P x h = record { each = λ y e. subst P (same_Some x y e) h }

-- of either branch of a test
picked : {A : Type 0} (P : A → Type 0) (test : Bool) (x y : A) → P x → P y → P (if test then x else y)
picked P true x y h k = h
picked P false x y h k = k

pub chosen : {A : Type 0} (P : A → Type 0) (test : Bool) (x y : Option A) → Each P x → Each P y → Each P (if test then x else y)
chosen P test x y h k = picked (Each P) test x y h k

pub tested : {A : Type 0} (P : A → Type 0) (test : Bool) (x y : Option A) → (test ≡ true → Each P x) → (test ≡ false → Each P y)
    → Each P (if test then x else y)
tested P true x y h k = h refl
tested P false x y h k = k refl

mapped : {A B : Type 0} (P : A → Type 0) (Q : B → Type 0) (f : A → B) (found : Option A) → Each P found → ((x : A) → P x → Q (f x))
    → Each Q (option_map f found)
mapped P Q f None h k = none Q
mapped P Q f (Some x) h k = some Q (f x) (k x (h.each x refl))

pub mapped_any : {A B : Type 0} (Q : B → Type 0) (f : A → B) (found : Option A) → ((x : A) → Q (f x)) → Each Q (option_map f found)
mapped_any Q f None k = none Q
mapped_any Q f (Some x) k = some Q (f x) (k x)

-- registers

remainder_named : (x : ℕ) → is_register (x % 32) ≡ true
remainder_named x = lt-ltb (x % 32) 32 (omega arith)

rd_named : (w : ℕ) → is_register (rd w) ≡ true
rd_named w = remainder_named (w / 2 ^ 7)

rs1_named : (w : ℕ) → is_register (rs1 w) ≡ true
rs1_named w = remainder_named (w / 2 ^ 15)

rs2_named : (w : ℕ) → is_register (rs2 w) ≡ true
rs2_named w = remainder_named (w / 2 ^ 20)

rd_rs1 : (w : ℕ) → (is_register (rd w) && is_register (rs1 w)) ≡ true
rd_rs1 w = and_from (is_register (rd w)) (is_register (rs1 w)) (rd_named w) (rs1_named w)

rs1_rs2 : (w : ℕ) → (is_register (rs1 w) && is_register (rs2 w)) ≡ true
rs1_rs2 w = and_from (is_register (rs1 w)) (is_register (rs2 w)) (rs1_named w) (rs2_named w)

all_three : (w : ℕ) → (is_register (rd w) && is_register (rs1 w) && is_register (rs2 w)) ≡ true
all_three w = and_from (is_register (rd w) && is_register (rs1 w)) (is_register (rs2 w)) (rd_rs1 w) (rs2_named w)

-- immediates

within : (y low add high top : ℕ) → y < low + low → add + low ≡ high → add + low + low ≡ top
    → (let x = if nat_lt y low then y else y + add in nat_lt x low || nat_le high x && nat_lt x top) ≡ true
within y low add high top h e f = grind (arith, nat_tests)

even : (test : Bool) (y add step : ℕ) → y % 2 ≡ 0 → add % 2 ≡ 0 → (if test then y else y + add) % 2 ≡ 0
even true y add step h k = h
even false y add step h k = omega arith

in_pages : (test : Bool) (y add step : ℕ) → y % 4096 ≡ 0 → add % 4096 ≡ 0 → (if test then y else y + add) % 4096 ≡ 0
in_pages true y add step h k = h
in_pages false y add step h k = omega arith

within_12 : (y : ℕ) → y < 2 ^ 12 → in_range 12 (sign_extend 12 y) ≡ true
within_12 y h = within y (2 ^ 11) (2 ^ 64 - 2 ^ 12) (2 ^ 64 - 2 ^ 11) (2 ^ 64) (omega arith) refl refl

i_fits : (w : ℕ) → in_range 12 (i_immediate w) ≡ true
i_fits w = within_12 (field 20 12 w) (omega arith)

s_fits : (w : ℕ) → in_range 12 (s_immediate w) ≡ true
s_fits w = within_12 (field 25 7 w * 2 ^ 5 + field 7 5 w) (omega arith)

steps_13 : (y : ℕ) → y < 2 ^ 13 → y % 2 ≡ 0 → in_steps 13 2 (sign_extend 13 y) ≡ true
steps_13 y h k = and_from _ _ (within y (2 ^ 12) (2 ^ 64 - 2 ^ 13) (2 ^ 64 - 2 ^ 12) (2 ^ 64) (omega arith) refl refl)
    (eq-eqb _ 0 (even (nat_lt y (2 ^ 12)) y (2 ^ 64 - 2 ^ 13) 2 k refl))

steps_21 : (y : ℕ) → y < 2 ^ 21 → y % 2 ≡ 0 → in_steps 21 2 (sign_extend 21 y) ≡ true
steps_21 y h k = and_from _ _ (within y (2 ^ 20) (2 ^ 64 - 2 ^ 21) (2 ^ 64 - 2 ^ 20) (2 ^ 64) (omega arith) refl refl)
    (eq-eqb _ 0 (even (nat_lt y (2 ^ 20)) y (2 ^ 64 - 2 ^ 21) 2 k refl))

steps_32 : (y : ℕ) → y < 2 ^ 32 → y % 4096 ≡ 0 → in_steps 32 4096 (sign_extend 32 y) ≡ true
steps_32 y h k = and_from _ _ (within y (2 ^ 31) (2 ^ 64 - 2 ^ 32) (2 ^ 64 - 2 ^ 31) (2 ^ 64) (omega arith) refl refl)
    (eq-eqb _ 0 (in_pages (nat_lt y (2 ^ 31)) y (2 ^ 64 - 2 ^ 32) 4096 k refl))

b_fits : (w : ℕ) → in_steps 13 2 (b_immediate w) ≡ true
b_fits w = steps_13 (field 31 1 w * 2 ^ 12 + field 7 1 w * 2 ^ 11 + field 25 6 w * 2 ^ 5 + field 8 4 w * 2) (omega arith) (omega arith)

j_fits : (w : ℕ) → in_steps 21 2 (j_immediate w) ≡ true
j_fits w = steps_21 (field 31 1 w * 2 ^ 20 + field 12 8 w * 2 ^ 12 + field 20 1 w * 2 ^ 11 + field 21 10 w * 2) (omega arith) (omega arith)

u_fits : (w : ℕ) → in_steps 32 4096 (u_immediate w) ≡ true
u_fits w = steps_32 (field 12 20 w * 2 ^ 12) (omega arith) (omega arith)

-- BRANCH, LOAD and STORE

of_branch : (w : ℕ) → Each IsCoded (branch_of w)
unfolding branch_of all_named fits
of_branch w = mapped_any IsCoded _ (test_of (funct3 w)) (λ t. record { named = rs1_rs2 w; fits = b_fits w })

not_double : (a b c : Bool) → (a ≡ false → b ≡ false → c ≡ false → ⊥)
    → has_load (if a then width.Byte else if b then width.Half else if c then width.Word else width.Double) false ≡ true
unfolding has_load
not_double true b c h = refl
not_double false true c h = refl
not_double false false true h = refl
not_double false false false h = absurd (h refl refl refl)

signed_load : (s : Width) → has_load s true ≡ true
unfolding has_load
signed_load width.Byte = refl
signed_load width.Half = refl
signed_load width.Word = refl
signed_load width.Double = refl

load_by_sign : (f : ℕ) (signed : Bool) → (signed ≡ false → f % 4 ≡ 3 → ⊥) → f < 4 → has_load (width_of f) signed ≡ true
unfolding width_of
load_by_sign f true h k = signed_load _
load_by_sign f false h k = not_double (f == 0) (f == 1) (f == 2)
    (λ a b c. let p : f ≡ 0 → ⊥ = eqb-false f 0 a in let q : f ≡ 1 → ⊥ = eqb-false f 1 b in let r : f ≡ 2 → ⊥ = eqb-false f 2 c in
    h refl (omega arith))

load_width : (w : ℕ) → (funct3 w == 7) ≡ false → has_load (width_of (field 12 2 w)) (field 14 1 w == 0) ≡ true
load_width w e = load_by_sign (field 12 2 w) (field 14 1 w == 0)
    (λ u f. let p : field 14 1 w ≡ 0 → ⊥ = eqb-false (field 14 1 w) 0 u in let q : funct3 w ≡ 7 → ⊥ = eqb-false (funct3 w) 7 e in omega arith)
    (omega arith)

of_load : (w : ℕ) → Each IsCoded (load_of w)
unfolding load_of all_named fits
of_load w = tested IsCoded (funct3 w == 7) _ _ (λ _. none IsCoded)
    (λ e. some IsCoded _ (record { named = rd_rs1 w; fits = and_from _ _ (load_width w e) (i_fits w) }))

of_store : (w : ℕ) → Each IsCoded (store_of w)
unfolding store_of all_named fits
of_store w = chosen IsCoded _ _ _ (some IsCoded _ (record { named = rs1_rs2 w; fits = s_fits w })) (none IsCoded)

-- OP-IMM and OP-IMM-32

abbrev PlainFits : ℕ → AluOp → Type 0
PlainFits x o = alu_immediate_fits o x ≡ true

of_plain : (f x : ℕ) → in_range 12 x ≡ true → PlainFits x (immediate_op_of f)
unfolding immediate_op_of alu_immediate_fits
of_plain f x h = picked (PlainFits x) (f == 0) alu.Add _ h (picked (PlainFits x) (f == 2) alu.Slt _ h (picked (PlainFits x) (f == 3) alu.Sltu _ h
    (picked (PlainFits x) (f == 4) alu.Xor _ h (picked (PlainFits x) (f == 6) alu.Or alu.And h h))))

of_shift : (f upper x : ℕ) → nat_lt x 64 ≡ true → Each (PlainFits x) (shift_of f upper)
unfolding shift_of alu_immediate_fits
of_shift f upper x h = chosen (PlainFits x) (f == 1) _ _
    (chosen (PlainFits x) (upper == 0) _ _ (some (PlainFits x) alu.Sll h) (none (PlainFits x)))
    (chosen (PlainFits x) (upper == 0) _ _ (some (PlainFits x) alu.Srl h)
    (chosen (PlainFits x) (upper == 0b010000) _ _ (some (PlainFits x) alu.Sra h) (none (PlainFits x))))

of_immediate : (w : ℕ) → Each IsCoded (immediate_arithmetic_of w)
unfolding immediate_arithmetic_of all_named fits
of_immediate w = chosen IsCoded _ _ _
    (mapped (PlainFits (field 20 6 w)) IsCoded _ (shift_of (funct3 w) (field 26 6 w))
    (of_shift (funct3 w) (field 26 6 w) (field 20 6 w) (lt-ltb (field 20 6 w) 64 (omega arith))) (λ o h. record { named = rd_rs1 w; fits = h }))
    (some IsCoded _ (record { named = rd_rs1 w; fits = of_plain (funct3 w) (i_immediate w) (i_fits w) }))

abbrev WordFits : ℕ → WordOp → Type 0
WordFits x o = word_immediate_fits o x ≡ true

of_word_shift : (f upper x : ℕ) → nat_lt x 32 ≡ true → Each (WordFits x) (word_shift_of f upper)
unfolding word_shift_of word_immediate_fits
of_word_shift f upper x h = chosen (WordFits x) (f == 1) _ _
    (chosen (WordFits x) (upper == 0) _ _ (some (WordFits x) word_op.Sll h) (none (WordFits x)))
    (chosen (WordFits x) (f == 5) _ _
    (chosen (WordFits x) (upper == 0) _ _ (some (WordFits x) word_op.Srl h)
    (chosen (WordFits x) (upper == 0b0100000) _ _ (some (WordFits x) word_op.Sra h) (none (WordFits x)))) (none (WordFits x)))

of_word_immediate : (w : ℕ) → Each IsCoded (word_immediate_arithmetic_of w)
unfolding word_immediate_arithmetic_of all_named fits word_immediate_fits
of_word_immediate w = chosen IsCoded _ _ _
    (some IsCoded (op.WordImmediate word_op.Add (rd w) (rs1 w) (i_immediate w)) (record { named = rd_rs1 w; fits = i_fits w }))
    (mapped (WordFits (rs2 w)) IsCoded _ (word_shift_of (funct3 w) (funct7 w))
    (of_word_shift (funct3 w) (funct7 w) (rs2 w) (rs2_named w)) (λ o h. record { named = rd_rs1 w; fits = h }))

-- OP, OP-32 and MISC-MEM

of_register : (w : ℕ) → Each IsCoded (register_arithmetic_of w)
unfolding register_arithmetic_of all_named fits
of_register w = mapped_any IsCoded _ (alu_op_of (funct7 w) (funct3 w)) (λ o. record { named = all_three w; fits = refl })

of_word : (w : ℕ) → Each IsCoded (table.word_arithmetic_of w)
unfolding table.word_arithmetic_of all_named fits
of_word w = mapped_any IsCoded _ (word_op_of (funct7 w) (funct3 w)) (λ o. record { named = all_three w; fits = refl })

of_fence : (w : ℕ) → Each IsCoded (fence_of w)
unfolding fence_of all_named fits
of_fence w = chosen IsCoded _ _ _ (some IsCoded op.Fence (record { named = refl; fits = refl }))
    (chosen IsCoded _ _ _ (some IsCoded op.FenceI (record { named = refl; fits = refl })) (none IsCoded))

-- AMO

of_atomic_by : (f w : ℕ) (s : Width) → is_atomic_width s ≡ true → Each IsCoded (atomic_by f w s)
unfolding atomic_by all_named fits
of_atomic_by f w s h = chosen IsCoded _ _ _
    (chosen IsCoded _ _ _ (some IsCoded (op.LoadReserved s (rd w) (rs1 w)) (record { named = rd_rs1 w; fits = h })) (none IsCoded))
    (chosen IsCoded _ _ _ (some IsCoded (op.StoreConditional s (rd w) (rs1 w) (rs2 w)) (record { named = all_three w; fits = h }))
    (mapped_any IsCoded _ (amo_op_of f) (λ o. record { named = all_three w; fits = h })))

of_atomic : (w : ℕ) → Each IsCoded (atomic_of w)
unfolding atomic_of is_atomic_width
of_atomic w = chosen IsCoded _ _ _ (of_atomic_by (field 27 5 w) w width.Word refl)
    (chosen IsCoded _ _ _ (of_atomic_by (field 27 5 w) w width.Double refl) (none IsCoded))

-- SYSTEM

of_fence_op : (w : ℕ) → Each IsCoded (fence_op_of w)
unfolding fence_op_of all_named fits
of_fence_op w = chosen IsCoded _ _ _ (some IsCoded (op.SfenceVma (rs1 w) (rs2 w)) (record { named = rs1_rs2 w; fits = refl }))
    (chosen IsCoded _ _ _ (some IsCoded (op.HfenceVvma (rs1 w) (rs2 w)) (record { named = rs1_rs2 w; fits = refl }))
    (chosen IsCoded _ _ _ (some IsCoded (op.HfenceGvma (rs1 w) (rs2 w)) (record { named = rs1_rs2 w; fits = refl })) (none IsCoded)))

of_privileged : (w : ℕ) → Each IsCoded (system_op_of w)
unfolding system_op_of all_named fits
of_privileged w = chosen IsCoded _ _ _ (some IsCoded op.Ecall (record { named = refl; fits = refl }))
    (chosen IsCoded _ _ _ (some IsCoded op.Ebreak (record { named = refl; fits = refl }))
    (chosen IsCoded _ _ _ (some IsCoded op.Sret (record { named = refl; fits = refl }))
    (chosen IsCoded _ _ _ (some IsCoded op.Wfi (record { named = refl; fits = refl }))
    (chosen IsCoded _ _ _ (of_fence_op w) (none IsCoded)))))

of_guest_load_by : (s : Width) (w : ℕ) → ((rs2 w == 1) ≡ true → has_load s false ≡ true) → ((rs2 w == 3) ≡ true → has_guest_fetch s ≡ true)
    → Each IsCoded (guest_load_by s w)
unfolding guest_load_by all_named fits
of_guest_load_by s w h k = chosen IsCoded _ _ _ (some IsCoded (op.GuestLoad s true (rd w) (rs1 w)) (record { named = rd_rs1 w; fits = signed_load s }))
    (tested IsCoded (rs2 w == 1) _ _ (λ e. some IsCoded (op.GuestLoad s false (rd w) (rs1 w)) (record { named = rd_rs1 w; fits = h e }))
    (λ _. tested IsCoded (rs2 w == 3) _ _ (λ e. some IsCoded (op.GuestFetch s (rd w) (rs1 w)) (record { named = rd_rs1 w; fits = k e }))
    (λ _. none IsCoded)))

of_guest_load : (w : ℕ) → Each IsCoded (guest_load_of w)
unfolding guest_load_of has_load has_guest_fetch
of_guest_load w = chosen IsCoded _ _ _
    (tested IsCoded (rs2 w == 3) _ _ (λ _. none IsCoded) (λ e. of_guest_load_by width.Byte w (λ _. refl) (λ f. absurd (true≢false (sym f ∙ e)))))
    (chosen IsCoded _ _ _ (of_guest_load_by width.Half w (λ _. refl) (λ _. refl))
    (chosen IsCoded _ _ _ (of_guest_load_by width.Word w (λ _. refl) (λ _. refl))
    (chosen IsCoded _ _ _
    (tested IsCoded (rs2 w == 0) _ _
    (λ e. of_guest_load_by width.Double w (λ f. absurd (apart w 1 e f (omega arith))) (λ f. absurd (apart w 3 e f (omega arith))))
    (λ _. none IsCoded))
    (none IsCoded))))
  where
    apart : (w n : ℕ) → (rs2 w == 0) ≡ true → (rs2 w == n) ≡ true → 0 < n → ⊥
    apart w n e f h = let p : rs2 w ≡ 0 = eqb-true (rs2 w) 0 e in let q : rs2 w ≡ n = eqb-true (rs2 w) n f in omega arith

of_guest_store : (w : ℕ) → Each IsCoded (guest_store_of w)
unfolding guest_store_of all_named fits
of_guest_store w = chosen IsCoded _ _ _ (some IsCoded (op.GuestStore width.Byte (rs1 w) (rs2 w)) (record { named = rs1_rs2 w; fits = refl }))
    (chosen IsCoded _ _ _ (some IsCoded (op.GuestStore width.Half (rs1 w) (rs2 w)) (record { named = rs1_rs2 w; fits = refl }))
    (chosen IsCoded _ _ _ (some IsCoded (op.GuestStore width.Word (rs1 w) (rs2 w)) (record { named = rs1_rs2 w; fits = refl }))
    (chosen IsCoded _ _ _ (some IsCoded (op.GuestStore width.Double (rs1 w) (rs2 w)) (record { named = rs1_rs2 w; fits = refl })) (none IsCoded))))

of_guest_access : (w : ℕ) → Each IsCoded (guest_access_of w)
unfolding guest_access_of
of_guest_access w = chosen IsCoded _ _ _ (of_guest_load w) (chosen IsCoded _ _ _ (of_guest_store w) (none IsCoded))

number_fits : (w : ℕ) → nat_lt (field 20 12 w) 4096 ≡ true
number_fits w = lt-ltb (field 20 12 w) 4096 (omega arith)

of_csr : (w : ℕ) → IsCoded (csr_of w)
unfolding csr_of all_named source_named fits source_fits
of_csr w = picked IsCoded (field 14 1 w == 0) _ _
    (record { named = rd_rs1 w; fits = number_fits w })
    (record { named = and_from (is_register (rd w)) true (rd_named w) refl; fits = and_from _ _ (rs1_named w) (number_fits w) })

of_system : (w : ℕ) → Each IsCoded (system_of w)
unfolding system_of
of_system w = chosen IsCoded _ _ _ (of_privileged w) (chosen IsCoded _ _ _ (of_guest_access w) (some IsCoded (csr_of w) (of_csr w)))

-- the table

of_table : (w : ℕ) → Each IsCoded (op_of w)
unfolding op_of all_named fits
of_table w =
    chosen IsCoded (opcode w == 0b0110111) _ _
    (some IsCoded (op.Lui (rd w) (u_immediate w)) (record { named = rd_named w; fits = u_fits w }))
    (chosen IsCoded (opcode w == 0b0010111) _ _
    (some IsCoded (op.Auipc (rd w) (u_immediate w)) (record { named = rd_named w; fits = u_fits w }))
    (chosen IsCoded (opcode w == 0b1101111) _ _
    (some IsCoded (op.Jal (rd w) (j_immediate w)) (record { named = rd_named w; fits = j_fits w }))
    (chosen IsCoded (opcode w == 0b1100111) _ _
    (chosen IsCoded (funct3 w == 0) _ _
    (some IsCoded (op.Jalr (rd w) (rs1 w) (i_immediate w)) (record { named = rd_rs1 w; fits = i_fits w })) (none IsCoded))
    (chosen IsCoded (opcode w == 0b1100011) _ _ (of_branch w)
    (chosen IsCoded (opcode w == 0b0000011) _ _ (of_load w)
    (chosen IsCoded (opcode w == 0b0100011) _ _ (of_store w)
    (chosen IsCoded (opcode w == 0b0010011) _ _ (of_immediate w)
    (chosen IsCoded (opcode w == 0b0110011) _ _ (of_register w)
    (chosen IsCoded (opcode w == 0b0011011) _ _ (of_word_immediate w)
    (chosen IsCoded (opcode w == 0b0111011) _ _ (of_word w)
    (chosen IsCoded (opcode w == 0b0001111) _ _ (of_fence w)
    (chosen IsCoded (opcode w == 0b0101111) _ _ (of_atomic w)
    (chosen IsCoded (opcode w == 0b1110011) _ _ (of_system w) (none IsCoded))))))))))))))

pub decoded : (w : ℕ) (o : Op) → op_of w ≡ Some o → IsCoded o
decoded w o e = (of_table w).each o e
