-- The lines of the log, as text (own). Each has the kind of the event, the step with its mode and pc, and
-- then words, each before what it names.
use Rattle.std.specs.Prelude.{ℕ, ◌-◌, ◌==◌, Bool, List, [], ◌∷◌, ◌++◌, Option, Some, None, codes, decimal, nat_lt, if◌then◌else◌}
use Rattle.arch_defs.specs.declared.modes.Mode.{Mode}
use Rattle.arch_defs.specs.declared.modes.Mode.TheVariants as mode
use Rattle.log_lines.specs.declared.heads.Head.{Head}
use Rattle.log_lines.specs.declared.lines.CallLine.{CallLine}
use Rattle.log_lines.specs.declared.lines.CountLine.{CountLine}
use Rattle.log_lines.specs.declared.lines.FenceOp.{FenceOp}
use Rattle.log_lines.specs.declared.lines.FenceOp.TheVariants as fence
use Rattle.log_lines.specs.declared.lines.FenceLine.{FenceLine}
use Rattle.log_lines.specs.declared.lines.Line.{Line}
use Rattle.log_lines.specs.declared.lines.Line.TheVariants as line
use Rattle.log_lines.specs.declared.lines.Wake.{Wake}
use Rattle.log_lines.specs.declared.lines.Wake.TheVariants as wake
use Rattle.log_lines.specs.declared.steps.MemoryValue.{MemoryValue}
use Rattle.log_lines.specs.declared.steps.StepLine.{StepLine}
use Rattle.log_lines.specs.declared.steps.Written.{Written}
use Rattle.log_lines.specs.declared.translations.FillLine.{FillLine}
use Rattle.log_lines.specs.declared.translations.Leaf.{Leaf}
use Rattle.log_lines.specs.declared.translations.Stage.{Stage}
use Rattle.log_lines.specs.declared.translations.Stage.TheVariants as stage
use Rattle.log_lines.specs.declared.translations.StaleLine.{StaleLine}
use Rattle.log_lines.specs.declared.translations.Translation.{Translation}
use Rattle.log_lines.specs.declared.traps.Cause.{Cause}
use Rattle.log_lines.specs.declared.traps.Crossing.{Crossing}
use Rattle.log_lines.specs.declared.traps.Crossing.TheVariants as crossing
use Rattle.log_lines.specs.declared.traps.Taken.{Taken}
use Rattle.log_lines.specs.declared.traps.Taken.TheVariants as taken
use Rattle.log_lines.specs.declared.traps.TrapLine.{TrapLine}
use Rattle.log_lines.specs.declared.traps.WorldLine.{WorldLine}
use Rattle.log_lines.specs.Numbers.{address_text, hex_text, wide_hex}

-- a step, and the mode and pc that its line names
abbrev pub mode_text : Mode → List ℕ
mode_text mode.HS = codes "HS"
mode_text mode.U = codes "U"
mode_text mode.VS = codes "VS"
mode_text mode.VU = codes "VU"

abbrev pub head_text : Head → List ℕ
head_text h = decimal h.step ++ codes " " ++ mode_text h.mode ++ codes " " ++ wide_hex 16 h.pc

-- a number, or a dash where there is none
abbrev pub optional_hex : Option ℕ → List ℕ
optional_hex (Some n) = hex_text n
optional_hex None = codes "-"

-- trap 14 VS 0000000000000008 to HS exception 23 tval 1008 gpa 1008 gva 1 htinst 0
-- trap 99 VU 0000000000010040 to VS exception 8 tval 0
abbrev pub cause_text : Cause → List ℕ
cause_text c = (if c.interrupt then codes "interrupt " else codes "exception ") ++ decimal c.code

abbrev pub level_text : Taken → List ℕ
level_text (taken.HS gpa gva htinst) = codes " to HS "
level_text taken.VS = codes " to VS "

abbrev pub gva_text : Bool → List ℕ
gva_text gva = if gva then codes " gva 1 htinst " else codes " gva 0 htinst "

abbrev pub taken_text : Taken → List ℕ
taken_text (taken.HS gpa gva htinst) = codes " gpa " ++ optional_hex gpa ++ gva_text gva ++ hex_text htinst
taken_text taken.VS = []

abbrev pub trap_text : TrapLine → List ℕ
trap_text t = codes "trap " ++ head_text t.head ++ level_text t.taken ++ cause_text t.cause
    ++ codes " tval " ++ hex_text t.tval ++ taken_text t.taken ++ codes "\n"

-- enter 11 VS 0000000000000000 hgatp 8000100000080004 vsatp 0
-- leave 14 VS 0000000000000008 hgatp 8000100000080004 vsatp 0 exception 23
abbrev pub word_of_crossing : Crossing → List ℕ
word_of_crossing crossing.Enters = codes "enter "
word_of_crossing (crossing.Leaves cause) = codes "leave "

abbrev pub crossing_text : Crossing → List ℕ
crossing_text crossing.Enters = []
crossing_text (crossing.Leaves cause) = codes " " ++ cause_text cause

abbrev pub world_text : WorldLine → List ℕ
world_text w = word_of_crossing w.crossing ++ head_text w.head ++ codes " hgatp " ++ hex_text w.hgatp
    ++ codes " vsatp " ++ hex_text w.vsatp ++ crossing_text w.crossing ++ codes "\n"

-- call 40 HS 0000000080000064 number 1 a0 4d answer 0
abbrev pub call_text : CallLine → List ℕ
call_text c = codes "call " ++ head_text c.head ++ codes " number " ++ decimal c.number ++ codes " a0 "
    ++ hex_text c.given ++ codes " answer " ++ optional_hex c.answer ++ codes "\n"

-- put 40 HS 0000000080000064 4d
abbrev pub byte_text : List ℕ → Head → ℕ → List ℕ
byte_text what head byte = what ++ head_text head ++ codes " " ++ hex_text byte ++ codes "\n"

-- wait 855 VS 0000000000000048 until 1264
abbrev pub wake_text : Wake → List ℕ
wake_text (wake.At moment) = decimal moment
wake_text wake.Never = codes "never"

abbrev pub wait_text : Head → Wake → List ℕ
wait_text head wake = codes "wait " ++ head_text head ++ codes " until " ++ wake_text wake ++ codes "\n"

-- fence 31 HS 00000000800000bc hfence.gvma vmid 1 page all first 0 second 3
abbrev pub fence_name : FenceOp → List ℕ
fence_name fence.SfenceVma = codes " sfence.vma asid "
fence_name fence.HfenceVvma = codes " hfence.vvma asid "
fence_name fence.HfenceGvma = codes " hfence.gvma vmid "

abbrev pub id_text : Option ℕ → List ℕ
id_text (Some n) = decimal n
id_text None = codes "all"

abbrev pub page_text : Option ℕ → List ℕ
page_text (Some page) = address_text page
page_text None = codes "all"

abbrev pub fence_text : FenceLine → List ℕ
fence_text f = codes "fence " ++ head_text f.head ++ fence_name f.fence ++ id_text f.id ++ codes " page "
    ++ page_text f.page ++ codes " first " ++ decimal f.first ++ codes " second " ++ decimal f.second
    ++ codes "\n"

-- fill 33 VS 0000000000000008 second hgatp 8000100000080004 atp - page 1000
--     frame 8000b000 rights rw-u level 0
abbrev pub stage_text : Stage → List ℕ
stage_text stage.First = codes "first"
stage_text stage.Second = codes "second"

abbrev pub mark : Bool → ℕ → ℕ
mark permitted letter = if permitted then letter else 45

abbrev pub leaf_text : Leaf → List ℕ
leaf_text l = codes "frame " ++ address_text l.frame ++ codes " rights "
    ++ (mark l.r 114 ∷ mark l.w 119 ∷ mark l.x 120 ∷ mark l.u 117 ∷ []) ++ codes " level " ++ decimal l.level

abbrev pub translation_text : Translation → List ℕ
translation_text t = stage_text t.stage ++ codes " hgatp " ++ optional_hex t.hgatp ++ codes " atp "
    ++ optional_hex t.atp ++ codes " page " ++ address_text t.page ++ codes " " ++ leaf_text t.leaf

abbrev pub fill_text : FillLine → List ℕ
fill_text f = codes "fill " ++ head_text f.head ++ codes " " ++ translation_text f.filled ++ codes "\n"

-- stale 52 VS 0000000000000018 second hgatp 8000100000080004 atp - page 1000
--     frame 8000b000 rights rw-u level 0 now frame 80010000 rights rw-u level 0 since 33
abbrev pub now_text : Option Leaf → List ℕ
now_text (Some leaf) = codes " now " ++ leaf_text leaf
now_text None = codes " now " ++ codes "nothing"

abbrev pub since_text : Option ℕ → List ℕ
since_text (Some step) = codes " since " ++ decimal step
since_text None = codes " since " ++ codes "before"

abbrev pub stale_text : StaleLine → List ℕ
stale_text s = codes "stale " ++ head_text s.head ++ codes " " ++ translation_text s.used ++ now_text s.walked
    ++ since_text s.since ++ codes "\n"

-- step 30 HS 00000000800000b8 00733023 write 80009008 8 20002cd7
-- step 24 HS 00000000800000a0 02ce3e03 t3 200028d7 read 800000c8 8 200028d7
abbrev pub word_text : Option ℕ → List ℕ
word_text (Some word) = wide_hex 8 word
word_text None = codes "-"

-- a register by its name in the calling convention
unfoldable pub register_name : ℕ → List ℕ
register_name n =
    if n == 0 then codes "zero"
    else if n == 1 then codes "ra"
    else if n == 2 then codes "sp"
    else if n == 3 then codes "gp"
    else if n == 4 then codes "tp"
    else if nat_lt n 8 then codes "t" ++ decimal (n - 5)
    else if nat_lt n 10 then codes "s" ++ decimal (n - 8)
    else if nat_lt n 18 then codes "a" ++ decimal (n - 10)
    else if nat_lt n 28 then codes "s" ++ decimal (n - 16)
    else codes "t" ++ decimal (n - 25)

abbrev pub written_text : Option Written → List ℕ
written_text (Some w) = codes " " ++ register_name w.register ++ codes " " ++ hex_text w.value
written_text None = []

-- memory: the physical address, how many bytes, and the number there
abbrev pub memory_value_text : List ℕ → Option MemoryValue → List ℕ
memory_value_text what (Some p) =
    what ++ hex_text p.place ++ codes " " ++ decimal p.width ++ codes " " ++ hex_text p.value
memory_value_text what None = []

abbrev pub step_text : StepLine → List ℕ
step_text s = codes "step " ++ head_text s.head ++ codes " " ++ word_text s.word ++ written_text s.written
    ++ written_text s.also
    ++ memory_value_text (codes " read ") s.read ++ memory_value_text (codes " write ") s.stored ++ codes "\n"

-- count VS 0000000000000018 hgatp 8000100000080004 times 12
abbrev pub count_text : CountLine → List ℕ
count_text c = codes "count " ++ mode_text c.key.mode ++ codes " " ++ wide_hex 16 c.key.pc ++ codes " hgatp "
    ++ optional_hex c.key.hgatp ++ codes " times " ++ decimal c.count ++ codes "\n"

-- a line
unfoldable pub line_text : Line → List ℕ
line_text (line.Trap t) = trap_text t
line_text (line.World w) = world_text w
line_text (line.Call c) = call_text c
line_text (line.Put head byte) = byte_text (codes "put ") head byte
line_text (line.Got head byte) = byte_text (codes "got ") head byte
line_text (line.Wait head wake) = wait_text head wake
line_text (line.Fence f) = fence_text f
line_text (line.Fill f) = fill_text f
line_text (line.Stale s) = stale_text s
line_text (line.Step s) = step_text s
line_text (line.Count c) = count_text c
