-- A guest hypervisor with one nested guest, whose second stage it changes command by command.
use Rattle.std.specs.Prelude.{ℕ, ◌+◌, ◌*◌, ◌/◌, ◌^◌, List, [], ◌∷◌, ◌++◌, map}
use Rattle.std.specs.List.{range_with_len}
use Rattle.rv64_asm.specs.Plans.{ImagePlan, empty_plan, with_piece}
use Rattle.work_images.specs.declared.lines.Label.TheVariants.{Again, Unfenced, Put, Done}
use Rattle.work_images.specs.declared.lines.Line.{Line}
use Rattle.work_images.specs.declared.lines.Line.TheVariants as line
use Rattle.work_images.specs.Instructions.{auipc, lui, addi, add, ld, lbu, sd, csrrw, csrrs, beq, jal}
use Rattle.work_images.specs.Instructions.{hfence_gvma, ecall, sret, sstatus, stvec, sepc, scause, vsatp, hstatus, hgatp}
use Rattle.work_images.specs.Lines.{with_all_lines, piece_of}

-- x8 is where the image begins, x9 the next command. hgatp and vsatp come from the image, traps go to place
-- 0x60; SPP and SPV are set, so that SRET enters the nested guest in VS
abbrev pub setup : List Line
setup =
    line.Op (auipc 8 0)
    ∷ line.Op (ld 5 0x400 8)
    ∷ line.Op (csrrw 0 hgatp 5)
    ∷ line.Op (ld 5 0x408 8)
    ∷ line.Op (csrrw 0 vsatp 5)
    ∷ line.Op (addi 5 8 0x60)
    ∷ line.Op (csrrw 0 stvec 5)
    ∷ line.Op (addi 5 0 0x100)
    ∷ line.Op (csrrs 0 sstatus 5)
    ∷ line.Op (addi 5 0 0x80)
    ∷ line.Op (csrrs 0 hstatus 5)
    ∷ line.Op (lui 9 0x20000)
    ∷ line.Op (add 9 9 8)
    ∷ []

-- takes a command: stores its value at its address, fences its page where there is one, and runs the nested
-- guest from 0 with x11 as its pointer
abbrev pub serving : List Line
serving =
    line.Label Again
    ∷ line.Op (ld 6 0 9)
    ∷ line.To (beq 6 0) Done
    ∷ line.Op (ld 7 8 9)
    ∷ line.Op (sd 7 0 6)
    ∷ line.Op (ld 7 0x10 9)
    ∷ line.To (beq 7 0) Unfenced
    ∷ line.Op (hfence_gvma 7 0)
    ∷ line.Label Unfenced
    ∷ line.Op (ld 11 0x18 9)
    ∷ line.Op (addi 9 9 0x20)
    ∷ line.Op (csrrw 0 sepc 0)
    ∷ line.Op sret
    ∷ []

-- the trap handler, at place 0x60: after ECALL from VS it puts the byte that x10 has, after another trap its
-- code plus 0x20, and goes on; after the last command it stops
abbrev pub handler : List Line
handler =
    line.Op (csrrs 5 scause 0)
    ∷ line.Op (addi 6 0 0xA)
    ∷ line.To (beq 5 6) Put
    ∷ line.Op (addi 10 5 0x20)
    ∷ line.Label Put
    ∷ line.Op (addi 17 0 1)
    ∷ line.Op ecall
    ∷ line.To (jal 0) Again
    ∷ line.Label Done
    ∷ line.Op (addi 17 0 8)
    ∷ line.Op ecall
    ∷ []

-- a table entry that names the page or the next table at an address, with its low bits
abbrev pub table_entry : ℕ → ℕ → ℕ
table_entry address bits = address / 2 ^ 12 * 2 ^ 10 + bits

-- the nested guest, which reads the byte that x11 points to and traps; hgatp (Sv39x4, VMID 1, the root's page
-- number), vsatp (Bare), and the table: root, next level, last level with one page of code (V, R, X, U, A)
abbrev pub nested : List Line
nested =
    line.OpAt 0x1000 (lbu 10 0 11)
    ∷ line.OpAt 0x1004 ecall
    ∷ line.DoubleAt 0x400 (8 * 2 ^ 60 + 1 * 2 ^ 44 + 0x80004)
    ∷ line.DoubleAt 0x408 0
    ∷ line.DoubleAt 0x4000 (table_entry 0x80008000 0b00000001)
    ∷ line.DoubleAt 0x8000 (table_entry 0x80009000 0b00000001)
    ∷ line.DoubleAt 0x9000 (table_entry 0x80001000 0b01011011)
    ∷ []

-- the 15 pages of data, each with a letter
abbrev pub letter : ℕ → Line
letter page = line.ByteAt (0xA000 + 0x1000 * page) (65 + page)

abbrev pub letters : List Line
letters = map letter (range_with_len 0 15)

abbrev pub program : List Line
program = setup ++ serving ++ handler ++ nested ++ letters

-- the whole image: the program, and from place 0x20000 on the bytes of its commands
unfoldable pub image_plan : List ℕ → ImagePlan
image_plan commands = with_piece (with_all_lines empty_plan program) (piece_of 0x20000 commands)
